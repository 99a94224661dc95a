-- What is done to a value, where there is one.
use Rattle.std.specs.Prelude.{Result, Ok, Err}

-- the value with the function applied
abbrev pub map_ok : {A B E : Type 0} → (A → B) → Result A E → Result B E
map_ok f (Ok x) = Ok (f x)
map_ok f (Err e) = Err e

-- the next step from the value
abbrev pub and_then : {A B E : Type 0} → (A → Result B E) → Result A E → Result B E
and_then step (Ok x) = step x
and_then step (Err e) = Err e
