-- Values that are there exactly where there is no fault, one by one and in lists.
use Rattle.std.proofs.Common.{◌≡◌, refl, List, [], ◌∷◌, ◌++◌}
use Rattle.std.specs.List.{flat_map}
use Rattle.std.specs.Prelude.{map, Option, Some, None, option_map}
use Rattle.fault_list.specs.FaultLaws.{none_left}
use Rattle.fault_list.specs.Faults.{fault_unless}
use Rattle.fault_list.specs.RestLaws.{none_right}
use Rattle.order_core.specs.Pointwise.{Each}
use Rattle.tree_units.specs.Together.{together, with_first}

pub none_both : {F : Type 0} (xs ys : List F) → xs ≡ [] → ys ≡ [] → xs ++ ys ≡ []
none_both xs ys e f = rw (e, f) refl

-- There is a value where there is no fault, and no fault where there is a value.
pub record IsDecided {A F : Type 0} (faults : List F) (value : Option A) : Type 0 where
  pub there : faults ≡ [] → (x : A) × (value ≡ Some x)
  pub faultless : (x : A) → value ≡ Some x → faults ≡ []

-- What is made of a value has no fault of its own.
pub made : {A B F : Type 0} (f : A → B) (faults : List F) (value : Option A) → IsDecided faults value → IsDecided faults (option_map f value)
made f faults (Some x) d = record { there = λ e. (f x, refl); faultless = λ y e. d.faultless x refl }
made f faults None d = record { there = λ e. let none = d.there e in absurd (cc); faultless = λ y e. absurd (cc) }

pub sure : {A F : Type 0} (value : Option A) (fault : F) → IsDecided (fault_unless value fault) value
sure (Some x) fault = record { there = λ e. (x, refl); faultless = λ y e. refl }
sure None fault = record { there = λ e. absurd (cc); faultless = λ y e. absurd (cc) }

one_more : {B F : Type 0} (first rest : List F) (x : Option B) (xs : Option (List B)) → IsDecided first x → IsDecided rest xs → IsDecided (first ++ rest) (with_first x xs)
one_more first rest (Some x) (Some xs) d e = record { there = λ h. (x ∷ xs, refl); faultless = λ y h. none_both first rest (d.faultless x refl) (e.faultless xs refl) }
one_more first rest (Some x) None d e = record { there = λ h. let none = e.there (none_right first rest h) in absurd (cc); faultless = λ y h. absurd (cc) }
one_more first rest None xs d e = record { there = λ h. let none = d.there (none_left first rest h) in absurd (cc); faultless = λ y h. absurd (cc) }

-- A list has a value where each of its items has, and no fault where none of them has one.
pub all_decided : {A B F : Type 0} (faults : A → List F) (value : A → Option B) (xs : List A) → Each (λ x. IsDecided (faults x) (value x)) xs → IsDecided (flat_map faults xs) (together (map value xs))
all_decided faults value [] d = record { there = λ e. ([], refl); faultless = λ y e. refl }
all_decided faults value (x ∷ xs) d = one_more (faults x) (flat_map faults xs) (value x) (together (map value xs)) d.0 (all_decided faults value xs d.1)
