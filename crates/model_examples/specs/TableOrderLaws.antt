-- The order of a table, found by trying all its elements.
use Rattle.std.proofs.Common.{subst, arith, ◌⊎◌, inl, inr}
use Rattle.std.proofs.lemmas.Bool.{cases_lt, ltb-true, lt-ltb, eqb-true}
use Rattle.std.specs.Prelude.{◌≡◌, ◌<◌, ◌≤◌, ℕ, zero, suc, Bool, true, false, ◌||◌, ◌^◌, not, nat_eq, nat_lt, IsTrue, List, length, slice_index}
use Rattle.model_examples.specs.TableOrder.{all_below, is_antisymmetric, is_reflexive, is_transitive, is_within}
use Rattle.order_core.specs.Finite.{is_element, is_below}
use Rattle.order_core.specs.MemberLaws.{first, second}
use Rattle.order_core.specs.Order.{IsOrder}
use Rattle.order_core.specs.WordLaws.{has_beyond}

pub passes_below : (test : ℕ → Bool) (n x : ℕ) → IsTrue (all_below test n) → x < n → IsTrue (test x)
passes_below test zero x h l = absurd (omega arith)
passes_below test (suc n) x h l = go (passes_below test n x (second (test n) _ h)) (cases_lt x n)
  where
    go : (x < n → IsTrue (test x)) → (x < n) ⊎ (n ≤ x) → IsTrue (test x)
    go below (inl k) = below k
    go below (inr k) = let same : n ≡ x = omega arith in subst (λ z. IsTrue (test z)) same (first _ _ h)

implied : (a b : Bool) → IsTrue (not a || b) → IsTrue a → IsTrue b
implied true b h k = h
implied false b h k = absurd (cc)

pub table_order : (table : List ℕ) → IsTrue (is_reflexive table) → IsTrue (is_transitive table) → IsTrue (is_antisymmetric table) → IsOrder (is_element table) (is_below table)
table_order table reflexive transitive antisymmetric = record {
  reflexive = λ x h. passes_below (λ x. is_below table x x) n x reflexive (ltb-true x n h);
  transitive = λ x y z h k l p q.
      let at_x = passes_below (λ x. all_below (λ y. all_below (λ z. not (is_below table x y) || (not (is_below table y z) || is_below table x z)) n) n) n x transitive (ltb-true x n h) in
      let at_y = passes_below (λ y. all_below (λ z. not (is_below table x y) || (not (is_below table y z) || is_below table x z)) n) n y at_x (ltb-true y n k) in
      let at_z = passes_below (λ z. not (is_below table x y) || (not (is_below table y z) || is_below table x z)) n z at_y (ltb-true z n l) in
      implied (is_below table y z) _ (implied (is_below table x y) _ at_z p) q;
  antisymmetric = λ x y h k p q.
      let at_x = passes_below (λ x. all_below (λ y. not (is_below table x y) || (not (is_below table y x) || nat_eq x y)) n) n x antisymmetric (ltb-true x n h) in
      let at_y = passes_below (λ y. not (is_below table x y) || (not (is_below table y x) || nat_eq x y)) n y at_x (ltb-true y n k) in
      eqb-true x y (implied (is_below table y x) _ (implied (is_below table x y) _ at_y p) q);
}
  where
    n : ℕ
    n = length table

pub table_within : (table : List ℕ) → IsTrue (is_within table) → (a b : ℕ) → IsTrue (is_element table a) → IsTrue (is_below table a b) → IsTrue (is_element table b)
table_within table within a b h p = go (cases_lt b (length table))
  where
    small : slice_index table a < 2 ^ length table
    small = ltb-true (slice_index table a) (2 ^ length table) (passes_below (λ x. nat_lt (slice_index table x) (2 ^ length table)) (length table) a within (ltb-true a (length table) h))

    go : (b < length table) ⊎ (length table ≤ b) → IsTrue (is_element table b)
    go (inl l) = lt-ltb b (length table) l
    go (inr l) = let none = has_beyond (length table) (slice_index table a) b small l in absurd (cc)
