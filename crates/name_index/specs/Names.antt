-- Names with a number each, in order.
use Rattle.std.specs.Prelude.{ℕ, List, [], ◌∷◌, ◌++◌, Option, Some, None, cond, is_some}
use Rattle.std.specs.Str.{bytes_eq}

-- the number of the first entry of this name
abbrev pub number_of : List (List ℕ × ℕ) → List ℕ → Option ℕ
number_of [] name = None
number_of (entry ∷ entries) name = cond (bytes_eq name entry.0) (Some entry.1) (number_of entries name)

-- with one name more, last, unless it is there
abbrev pub with_name : List (List ℕ × ℕ) → List ℕ → ℕ → List (List ℕ × ℕ)
with_name entries name number = cond (is_some (number_of entries name)) entries (entries ++ (name, number) ∷ [])

-- the number that the other name had, and that of the new name where it had none and is the same
abbrev pub first_number : Option ℕ → List ℕ → List ℕ → ℕ → Option ℕ
first_number (Some before) other name number = Some before
first_number None other name number = cond (bytes_eq other name) (Some number) None
