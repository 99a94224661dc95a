-- Items of a file by their names.
use Rattle.std.specs.Prelude.{ℕ, List, Option}
use Rattle.design_lexer.specs.declared.tree.NameAt.{NameAt}
use Rattle.name_index.specs.Places as index

-- the place of the first item of this name
abbrev pub place_of : {A : Type 0} → (A → NameAt) → List A → List ℕ → Option ℕ
place_of named items name = index.place_of (λ x. (named x).name) items name

-- the first item of this name
abbrev pub named_item : {A : Type 0} → (A → NameAt) → List A → List ℕ → Option A
named_item named items name = index.named_item (λ x. (named x).name) items name
