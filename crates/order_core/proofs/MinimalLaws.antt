-- The minimal elements of a set of elements are an upper set, and each element of the set is in it.
use Rattle.std.proofs.Common.{refl, sym, ◌∙◌, arith}
use Rattle.std.proofs.lemmas.Bool.{ltb-true, lt-ltb, or_left}
use Rattle.std.specs.Int.Bits.{bit_and}
use Rattle.std.specs.List.{list_all}
use Rattle.std.specs.Prelude.{◌≡◌, ◌-◌, ◌^◌, ◌<◌, ◌&&◌, ℕ, IsTrue, List, [], ◌∷◌, length, slice_index}
use Rattle.order_core.specs.NumbersBelowLaws.{number_passes, passing_number}
use Rattle.order_core.specs.WordLaws.{has_and, has_all}
use Rattle.order_core.specs.DescentLaws.{minimal_below}
use Rattle.order_core.specs.Finite.{is_element, is_below, IsTable}
use Rattle.order_core.specs.MemberLaws.{first, second, both, any_intro, all_elim, all_intro}
use Rattle.order_core.specs.Members.{IsMember}
use Rattle.order_core.specs.MinimalElements.{IsHeld, AreMinimal}
use Rattle.order_core.specs.Order.{IsLeast, AreBounds, are_incomparable}
use Rattle.order_core.specs.Upper.{rise_from, is_upper, is_in, upper_leq}
use Rattle.order_core.specs.UpperLaws.{rising_incomparable}
use Rattle.order_core.specs.Word.{is_in_word, members_below}

module _ (table : List ℕ) (is_table : IsTable table) (word : ℕ) (xs : List ℕ) (minimal : AreMinimal table word xs) where
  pub minimal_in_set : (x : ℕ) → IsMember x xs → IsHeld table word x
  minimal_in_set x m = ((minimal.members x).0 m).element

  pub minimal_upper : IsTrue (is_upper table xs)
  minimal_upper = both _ _
      (all_intro (is_element table) xs (λ w m. (minimal_in_set w m).0))
      (both _ _ minimal.rising (rising_incomparable (is_below table) 0 xs minimal.rising (λ v w m n l. ((minimal.members w).0 n).least v (minimal_in_set v m) l)))

  pub minimal_reach : (x : ℕ) → IsHeld table word x → IsTrue (is_in table xs x)
  minimal_reach x h =
      let all = members_below (length table) word in
      let values : IsTrue (list_all (is_element table) all) = all_intro (is_element table) all (λ w m. lt-ltb _ _ (number_passes (is_in_word word) (length table) w m).0) in
      let d = minimal_below (is_element table) (is_below table) is_table.order all x values (into x h) in
      any_intro (λ y. is_below table y x) xs d.0
      ((minimal.members d.0).1 (record { element = back d.0 d.1.element; least = λ y k l. d.1.least y (into y k) l })) d.2
    where
      into : (y : ℕ) → IsHeld table word y → IsMember y (members_below (length table) word)
      into y k = passing_number (is_in_word word) (length table) y (ltb-true _ _ k.0) k.1

      back : (y : ℕ) → IsMember y (members_below (length table) word) → IsHeld table word y
      back y m = let r = number_passes (is_in_word word) (length table) y m in (lt-ltb _ _ r.0, r.1)

-- The least elements of a finite order, and its bounds of two elements.
module _ (table : List ℕ) (is_table : IsTable table) (xs : List ℕ) where
  parts : IsTrue (is_upper table xs) → IsTrue (list_all (is_element table) xs) × IsTrue (are_incomparable (is_below table) xs)
  parts h = (first _ _ h, second (rise_from 0 xs) _ (second (list_all (is_element table) xs) _ h))

  pub minimal_least : AreMinimal table (2 ^ 64 - 1) xs → IsLeast (is_element table) (is_below table) xs
  minimal_least minimal =
      let upper = parts (minimal_upper table is_table (2 ^ 64 - 1) xs minimal) in
      record {
        values = upper.0;
        incomparable = upper.1;
        complete = λ x h. minimal_reach table is_table (2 ^ 64 - 1) xs minimal x (h, has_all x (few x h));
      }
    where
      few : (x : ℕ) → IsTrue (is_element table x) → x < 64
      few x h = let l = ltb-true x (length table) h in omega (arith, is_table.few)

  pub minimal_bounds : (a b : ℕ) → AreMinimal table (bit_and (slice_index table a) (slice_index table b)) xs → AreBounds (is_element table) (is_below table) a b xs
  minimal_bounds a b minimal =
      let word = bit_and (slice_index table a) (slice_index table b) in
      let upper = parts (minimal_upper table is_table word xs minimal) in
      record {
        values = upper.0;
        incomparable = upper.1;
        above = all_intro (λ x. is_below table a x && is_below table b x) xs (λ x m. sym (has_and (slice_index table a) (slice_index table b) x) ∙ (minimal_in_set table is_table word xs minimal x m).1);
        complete = λ x h p q. minimal_reach table is_table word xs minimal x (h, has_and (slice_index table a) (slice_index table b) x ∙ both _ _ p q);
      }

-- The least upper set, and the bounds of two upper sets.
module _ (table : List ℕ) (is_table : IsTable table) (m : List ℕ) where
  pub minimal_least_upper : AreMinimal table (2 ^ 64 - 1) m → IsLeast (is_upper table) (upper_leq table) (m ∷ [])
  minimal_least_upper minimal = record {
    values = both _ _ (minimal_upper table is_table (2 ^ 64 - 1) m minimal) refl;
    incomparable = refl;
    complete = λ xs h. or_left _ _ (all_intro (is_in table m) xs (λ x k. (minimal_least table is_table m minimal).complete x (all_elim (is_element table) xs x (first _ _ h) k)));
  }

  pub minimal_bounds_upper : (xs ys : List ℕ) (a b : ℕ) → ((x : ℕ) → is_in_word a x ≡ is_in table xs x) → ((x : ℕ) → is_in_word b x ≡ is_in table ys x) → AreMinimal table (bit_and a b) m
      → AreBounds (is_upper table) (upper_leq table) xs ys (m ∷ [])
  minimal_bounds_upper xs ys a b a_is b_is minimal = record {
    values = both _ _ (minimal_upper table is_table (bit_and a b) m minimal) refl;
    incomparable = refl;
    above = both _ _ (both _ _ (all_intro (is_in table xs) m (λ x k. first _ _ (in_both x k))) (all_intro (is_in table ys) m (λ x k. second (is_in table xs x) _ (in_both x k)))) refl;
    complete = λ zs h p q. or_left _ _ (all_intro (is_in table m) zs (λ z k.
        minimal_reach table is_table (bit_and a b) m minimal z
        (all_elim (is_element table) zs z (first _ _ h) k, shared_is z ∙ both _ _ (all_elim (is_in table xs) zs z p k) (all_elim (is_in table ys) zs z q k))));
  }
    where
      shared_is : (x : ℕ) → is_in_word (bit_and a b) x ≡ is_in table xs x && is_in table ys x
      shared_is x = let at = a_is x in let bt = b_is x in rw (← at, ← bt) (has_and a b x)

      in_both : (x : ℕ) → IsMember x m → IsTrue (is_in table xs x && is_in table ys x)
      in_both x k = sym (shared_is x) ∙ (minimal_in_set table is_table (bit_and a b) m minimal x k).1
