-- Relations that rows give.
use Rattle.std.specs.Prelude.{◌&&◌, Bool, IsTrue, List, filter, map}
use Rattle.order_core.specs.Members.{IsMember}
use Rattle.ascent_examples.specs.declared.rows.Step.{Step}

-- z is a value above the end of a row whose start is above x
abbrev pub LeadsByRows : {A : Type 0} → (A → Bool) → (A → A → Bool) → List (Step A) → A → A → Type 0
LeadsByRows {A = A} is_value leq steps x z = IsTrue (is_value z) × (r : Step A) × IsMember r steps × IsTrue (leq x r.start) × IsTrue (leq r.end z)

-- both of a row are values
abbrev pub is_row : {A : Type 0} → (A → Bool) → Step A → Bool
is_row is_value r = is_value r.start && is_value r.end

-- the ends of the rows whose start is above x
abbrev pub ends_from : {A : Type 0} → (A → A → Bool) → List (Step A) → A → List A
ends_from leq steps x = map (λ r. r.end) (filter (λ r. leq x r.start) steps)
