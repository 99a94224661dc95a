-- The minimal elements of the word that holds listed ones.
use Rattle.std.proofs.Common.{◌≡◌, ◌∙◌, ◌≤◌, ◌↔◌, ℕ, Bool, true, false, ◌||◌, not, IsTrue, List, length, refl, sym, subst, arith}
use Rattle.std.specs.Prelude.{nat_eq, nat_lt}
use Rattle.std.specs.List.{list_all, list_any}
use Rattle.std.proofs.lemmas.Bool.{ltb-true, lt-ltb, eqb-true, eq-eqb}
use Rattle.order_core.specs.Finite.{is_element, is_below, IsTable}
use Rattle.order_core.specs.Members.{IsMember}
use Rattle.order_core.specs.MemberLaws.{first, second, both, any_elim, any_intro, all_elim, all_intro}
use Rattle.order_core.specs.Minimal.{IsMinimal}
use Rattle.order_core.specs.MinimalElements.{IsHeld, AreMinimal, is_minimal_in, minimal_of}
use Rattle.order_core.proofs.MinimalLaws.{minimal_upper, minimal_reach}
use Rattle.order_core.specs.NumbersBelowLaws.{number_passes, passing_number, numbers_rise}
use Rattle.order_core.specs.Upper.{is_upper, is_in, upper_leq}
use Rattle.order_core.specs.UpperLaws.{rising_same}
use Rattle.order_core.specs.Word.{is_in_word}

pub all_few : (table numbers : List ℕ) → length table ≤ 64 → IsTrue (list_all (is_element table) numbers) → IsTrue (list_all (λ x. nat_lt x 64) numbers)
all_few table numbers few h = all_intro (λ x. nat_lt x 64) numbers (λ x m. let l = ltb-true x (length table) (all_elim (is_element table) numbers x h m) in lt-ltb x 64 (omega arith))

module _ (table : List ℕ) (is_table : IsTable table) (elements : List ℕ) (values : IsTrue (list_all (is_element table) elements)) (word : ℕ)
    (holds : (x : ℕ) → is_in_word word x ≡ list_any (nat_eq x) elements) (xs : List ℕ) (minimal : AreMinimal table word xs) where
  listed : (x : ℕ) → IsTrue (list_any (nat_eq x) elements) → IsMember x elements
  listed x h = let w = any_elim (nat_eq x) elements h in let same : x ≡ w.0 = eqb-true x w.0 w.2 in subst (λ z. IsMember z elements) (sym same) w.1

  is_listed : (x : ℕ) → IsMember x elements → IsTrue (list_any (nat_eq x) elements)
  is_listed x m = any_intro (nat_eq x) elements x m (eq-eqb x x refl)

  -- in the word, and listed
  into : (x : ℕ) → IsMember x elements → IsHeld table word x
  into x m = (all_elim (is_element table) elements x values m, holds x ∙ is_listed x m)

  from : (x : ℕ) → IsHeld table word x → IsMember x elements
  from x h = listed x (sym (holds x) ∙ h.1)

  pub members : (x : ℕ) → IsMember x xs ↔ IsMinimal (is_below table) (λ y. IsMember y elements) x
  members x = (
    λ m. let h = (minimal.members x).0 m in record { element = from x h.element; least = λ y k l. h.least y (into y k) l },
    λ h. (minimal.members x).1 (record { element = into x h.element; least = λ y k l. h.least y (from y k) l }),
  )

  is_least : (x y : ℕ) → IsMinimal (is_below table) (λ z. IsMember z elements) x → IsMember y elements → IsTrue (nat_eq y x || not (is_below table y x))
  is_least x y h m = go (is_below table y x) refl
    where
      go : (b : Bool) → is_below table y x ≡ b → IsTrue (nat_eq y x || not b)
      go true e = let same : nat_eq y x ≡ true = eq-eqb y x (h.least y m e) in rw same refl
      go false e = at (nat_eq y x)
        where
          at : (b : Bool) → IsTrue (b || true)
          at true = refl
          at false = refl

  passes : (x : ℕ) → IsMember x xs → IsTrue (is_minimal_in table elements x)
  passes x m =
      let h = (members x).0 m in
      both _ _ (is_listed x h.element) (all_intro (λ y. nat_eq y x || not (is_below table y x)) elements (λ y k. is_least x y h k))

  from_least : (x : ℕ) → IsTrue (is_minimal_in table elements x) → IsMinimal (is_below table) (λ y. IsMember y elements) x
  from_least x h = record { element = listed x (first _ _ h); least = λ y m l. go y (nat_eq y x) refl l (all_elim (λ z. nat_eq z x || not (is_below table z x)) elements y (second (list_any (nat_eq x) elements) _ h) m) }
    where
      go : (y : ℕ) (b : Bool) → nat_eq y x ≡ b → IsTrue (is_below table y x) → IsTrue (nat_eq y x || not (is_below table y x)) → y ≡ x
      go y true e l k = eqb-true y x e
      go y false e l k = absurd (let at : IsTrue (false || not true) = rw (e, l) at k in cc)

  pub value : xs ≡ minimal_of table elements
  value = rising_same 0 0 xs (minimal_of table elements) minimal.rising (numbers_rise (is_minimal_in table elements) (length table))
      (λ x m. passing_number (is_minimal_in table elements) (length table) x (ltb-true x (length table) (all_elim (is_element table) elements x values ((members x).0 m).element)) (passes x m))
      (λ x m. (members x).1 (from_least x (number_passes (is_minimal_in table elements) (length table) x m).1))

  pub upper : IsTrue (is_upper table xs)
  upper = minimal_upper table is_table word xs minimal

  pub reach : IsTrue (upper_leq table xs elements)
  reach = all_intro (is_in table xs) elements (λ x m. minimal_reach table is_table word xs minimal x (into x m))
