-- Lists of values that may be there.
use Rattle.std.specs.Prelude.{List, [], ◌∷◌, Option, Some, None}

-- the list with the value before it, if both are there
abbrev pub with_first : {A : Type 0} → Option A → Option (List A) → Option (List A)
with_first (Some x) (Some xs) = Some (x ∷ xs)
with_first (Some x) None = None
with_first None xs = None

-- all the values, if each of them is there
abbrev pub together : {A : Type 0} → List (Option A) → Option (List A)
together [] = Some []
together (x ∷ xs) = with_first x (together xs)
