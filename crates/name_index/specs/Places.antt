-- Items by their names.
use Rattle.std.specs.Prelude.{ℕ, List, Option, slice_get, option_and_then}
use Rattle.std.specs.List.{position_from}
use Rattle.std.specs.Str.{bytes_eq}

-- the place of the first item of this name
abbrev pub place_of : {A : Type 0} → (A → List ℕ) → List A → List ℕ → Option ℕ
place_of named items name = position_from (λ x. bytes_eq name (named x)) 0 items

-- the first item of this name
abbrev pub named_item : {A : Type 0} → (A → List ℕ) → List A → List ℕ → Option A
named_item named items name = option_and_then (slice_get items) (place_of named items name)
