-- Values that are put together one after the other.
use Rattle.std.proofs.Common.{◌≡◌, refl, sym, ap, List, [], ◌∷◌, ◌++◌, append_assoc}
use Rattle.std.specs.Prelude.{Option, Some, None, option_map}
use Rattle.tree_units.specs.Together.{with_first}

-- A value that is there goes from what is left to what is made.
pub put_last : {A : Type 0} (made : List A) (x : A) (rest : Option (List A)) → option_map (λ xs. made ++ xs) (with_first (Some x) rest) ≡ option_map (λ xs. (made ++ x ∷ []) ++ xs) rest
put_last made x None = refl
put_last {A = A} made x (Some xs) = ap (λ (ys : List A). Some ys) (sym (append_assoc made (x ∷ []) xs))
