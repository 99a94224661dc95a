-- What ports without a fault are made of.
use Rattle.std.proofs.Common.{◌≡◌, sym, subst, Bool, true, false, cond, List, [], ◌∷◌, ◌++◌, filter}
use Rattle.std.specs.List.{flat_map}
use Rattle.std.specs.Prelude.{Option, Some}
use Rattle.fault_list.specs.FaultLaws.{none_left}
use Rattle.fault_list.specs.RestLaws.{none_right}
use Rattle.order_core.specs.Pointwise.{Pointwise}
use Rattle.side_ports.specs.Sides.{if_there}

pub all_made : {A B F : Type 0} (faults : A → List F) (f : A → Option B) → ((x : A) → faults x ≡ [] → (y : B) × (f x ≡ Some y)) → (q : A → Bool) (xs : List A) → flat_map faults xs ≡ []
    → Pointwise (λ x y. f x ≡ Some y) (filter q xs) (flat_map (λ x. if_there (f x)) (filter q xs))
all_made faults f h q [] none = tt
all_made {A = A} {B = B} faults f h q (x ∷ xs) none = go (q x) (all_made faults f h q xs (none_right (faults x) (flat_map faults xs) none))
  where
    made : (y : B) × (f x ≡ Some y)
    made = h x (none_left (faults x) (flat_map faults xs) none)

    go : (t : Bool) → Pointwise (λ x y. f x ≡ Some y) (filter q xs) (flat_map (λ x. if_there (f x)) (filter q xs))
        → Pointwise (λ x y. f x ≡ Some y) (cond t (x ∷ filter q xs) (filter q xs)) (flat_map (λ x. if_there (f x)) (cond t (x ∷ filter q xs) (filter q xs)))
    go true rest = subst (λ (o : Option B). Pointwise (λ x y. f x ≡ Some y) (x ∷ filter q xs) (if_there o ++ flat_map (λ x. if_there (f x)) (filter q xs))) (sym made.1) (made.1, rest)
    go false rest = rest
