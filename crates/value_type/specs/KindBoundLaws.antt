-- Least values and bounds of a type, from those of the order that it is.
use Rattle.std.proofs.Common.{refl}
use Rattle.std.specs.List.{list_all}
use Rattle.std.specs.Prelude.{Bool, true, IsTrue, List, [], ◌∷◌, map}
use Rattle.order_core.specs.MemberLaws.{second, both}
use Rattle.order_core.specs.Tuple.{are_values}

all_pass : {A : Type 0} (xs : List A) → IsTrue (list_all (λ x. true) xs)
all_pass [] = refl
all_pass (x ∷ xs) = all_pass xs

-- Every value of every choice can be copied.
pub can_copy_choices : {P A : Type 0} (test : P → List A → Bool) (ps : List P) (cs : List (List A)) → IsTrue (are_values (map test ps) cs)
    → IsTrue (are_values (map (λ p. list_all (λ x. true)) ps) cs)
can_copy_choices test [] [] h = refl
can_copy_choices test [] (c ∷ cs) h = absurd (cc)
can_copy_choices test (p ∷ ps) [] h = absurd (cc)
can_copy_choices test (p ∷ ps) (c ∷ cs) h = both _ _ (all_pass c) (can_copy_choices test ps cs (second (test p c) _ h))
