-- Tuples, part by part, and all tuples of given choices.
use Rattle.std.proofs.Common.{refl}
use Rattle.std.specs.Prelude.{◌≡◌, Bool, List, [], ◌∷◌, map, IsTrue}
use Rattle.order_core.specs.MemberLaws.{first, second, both}
use Rattle.order_core.specs.Order.{IsOrder}
use Rattle.order_core.specs.Tuple.{are_values, tuple_leq}

module _ {P A : Type 0} (is_value : P → A → Bool) (leq : P → A → A → Bool) (laws : (p : P) → IsOrder (is_value p) (leq p)) where
  reflexive : (ps : List P) (xs : List A) → IsTrue (are_values (map is_value ps) xs) → IsTrue (tuple_leq (map leq ps) xs xs)
  reflexive [] [] h = refl
  reflexive [] (x ∷ xs) h = absurd (cc)
  reflexive (p ∷ ps) [] h = absurd (cc)
  reflexive (p ∷ ps) (x ∷ xs) h = both _ _ ((laws p).reflexive x (first _ _ h)) (reflexive ps xs (second (is_value p x) _ h))

  transitive : (ps : List P) (xs ys zs : List A) → IsTrue (are_values (map is_value ps) xs) → IsTrue (are_values (map is_value ps) ys) → IsTrue (are_values (map is_value ps) zs)
      → IsTrue (tuple_leq (map leq ps) xs ys) → IsTrue (tuple_leq (map leq ps) ys zs) → IsTrue (tuple_leq (map leq ps) xs zs)
  transitive [] [] ys [] a b c p q = refl
  transitive [] [] ys (z ∷ zs) a b c p q = absurd (cc)
  transitive [] (x ∷ xs) ys zs a b c p q = absurd (cc)
  transitive (o ∷ ps) [] ys zs a b c p q = absurd (cc)
  transitive (o ∷ ps) (x ∷ xs) [] zs a b c p q = absurd (cc)
  transitive (o ∷ ps) (x ∷ xs) (y ∷ ys) [] a b c p q = absurd (cc)
  transitive (o ∷ ps) (x ∷ xs) (y ∷ ys) (z ∷ zs) a b c p q = both _ _
      ((laws o).transitive x y z (first _ _ a) (first _ _ b) (first _ _ c) (first _ _ p) (first _ _ q))
      (transitive ps xs ys zs (second (is_value o x) _ a) (second (is_value o y) _ b) (second (is_value o z) _ c) (second (leq o x y) _ p) (second (leq o y z) _ q))

  antisymmetric : (ps : List P) (xs ys : List A) → IsTrue (are_values (map is_value ps) xs) → IsTrue (are_values (map is_value ps) ys)
      → IsTrue (tuple_leq (map leq ps) xs ys) → IsTrue (tuple_leq (map leq ps) ys xs) → xs ≡ ys
  antisymmetric [] [] [] a b p q = refl
  antisymmetric [] [] (y ∷ ys) a b p q = absurd (cc)
  antisymmetric [] (x ∷ xs) ys a b p q = absurd (cc)
  antisymmetric (o ∷ ps) [] ys a b p q = absurd (cc)
  antisymmetric (o ∷ ps) (x ∷ xs) [] a b p q = absurd (cc)
  antisymmetric (o ∷ ps) (x ∷ xs) (y ∷ ys) a b p q =
      let heads : x ≡ y = (laws o).antisymmetric x y (first _ _ a) (first _ _ b) (first _ _ p) (first _ _ q) in
      let tails : xs ≡ ys = antisymmetric ps xs ys (second (is_value o x) _ a) (second (is_value o y) _ b) (second (leq o x y) _ p) (second (leq o y x) _ q) in
      cc

  pub tuple_laws : (ps : List P) → IsOrder (are_values (map is_value ps)) (tuple_leq (map leq ps))
  tuple_laws ps = record { reflexive = reflexive ps; transitive = transitive ps; antisymmetric = antisymmetric ps }
