-- What the rows so far cover, one row more, and what is left in the end.
use Rattle.std.proofs.Common.{◌≡◌, ◌≢◌, ◌∙◌, ◌<◌, ◌≤◌, ◌+◌, ◌*◌, ◌%◌, ◌^◌, ◌↔◌, ◌⊎◌, inl, inr, ℕ, w64, Bool, true, false, ◌&&◌, ◌||◌, not, IsTrue, List, length, get_or, refl, sym, ap, subst, arith}
use Rattle.std.specs.Int.{bit_not}
use Rattle.std.specs.Int.Bits.{bit_and, bit_or}
use Rattle.std.proofs.lemmas.Bool.{cases_eq, cases_lt, or_cases, or_left, or_right, ltb-true, lt-ltb}
use mir.Val.{bits}
use Rattle.order_core.specs.Finite.{is_below}
use Rattle.order_core.specs.Members.{IsMember}
use Rattle.order_core.specs.MemberLaws.{first, second, both, true_not, not_true}
use Rattle.order_core.specs.Minimal.{IsMinimal}
use Rattle.order_core.specs.MinimalElements.{IsHeld, IsCovered, AreMinimal}
use Rattle.order_core.specs.NumbersBelowLaws.{number_passes, passing_number, numbers_rise}
use Rattle.order_core.specs.Upper.{rise_from}
use Rattle.order_core.specs.Word.{is_in_word, members_below}
use Rattle.order_core.specs.WordLaws.{has_none, has_or, has_and, has_not, has_cleared, has_kept}

pub none_covered : (table : List ℕ) (word x : ℕ) → x < 64 → IsTrue (is_in_word 0 x) ↔ IsCovered 0 table word x
none_covered table word x l = (λ h. let no = has_none x in absurd (cc), λ h. absurd (omega (arith, h.1)))

module _ (table : List ℕ) (word at covered : ℕ) (so_far : (x : ℕ) → x < 64 → IsTrue (is_in_word covered x) ↔ IsCovered at table word x) where
  later : (x : ℕ) → IsCovered at table word x → IsCovered (at + 1) table word x
  later x h = (h.0, omega (arith, h.1), h.2, h.3, h.4)

  -- By a number before the one at hand, or by that one.
  earlier : (x : ℕ) → IsCovered (at + 1) table word x → IsCovered at table word x ⊎ (IsTrue (is_in_word word at) × (at ≢ x) × IsTrue (is_below table at x))
  earlier x h = go (cases_lt h.0 at)
    where
      go : (h.0 < at) ⊎ (at ≤ h.0) → IsCovered at table word x ⊎ (IsTrue (is_in_word word at) × (at ≢ x) × IsTrue (is_below table at x))
      go (inl k) = inl (h.0, k, h.2, h.3, h.4)
      go (inr k) =
          let same : h.0 ≡ at = omega (arith, h.1) in
          inr (subst (λ z. IsTrue (is_in_word word z) × (z ≢ x) × IsTrue (is_below table z x)) same (h.2, h.3, h.4))

  pub covered_kept : (next : ℕ) → next ≡ covered → is_in_word word at ≡ false → (x : ℕ) → x < 64 → IsTrue (is_in_word next x) ↔ IsCovered (at + 1) table word x
  covered_kept next e out x l = subst (λ z. IsTrue (is_in_word z x) ↔ IsCovered (at + 1) table word x) (sym e) (λ h. later x ((so_far x l).0 h), λ h. (so_far x l).1 (back (earlier x h)))
    where
      back : IsCovered at table word x ⊎ (IsTrue (is_in_word word at) × (at ≢ x) × IsTrue (is_below table at x)) → IsCovered at table word x
      back (inl h) = h
      back (inr h) = let yes : is_in_word word at ≡ true = h.0 in absurd (cc)

  pub covered_more : (next : ℕ) → next ≡ bit_or covered (bit_and (get_or table at 0) (bit_not w64 (1 * 2 ^ at % 2 ^ bits w64))) → IsTrue (is_in_word word at) → at < 64
      → (x : ℕ) → x < 64 → IsTrue (is_in_word next x) ↔ IsCovered (at + 1) table word x
  covered_more next e held k x l = (λ h. there (or_cases _ _ (sym next_is ∙ h)), λ h. next_is ∙ back (earlier x h))
    where
      next_is : is_in_word next x ≡ is_in_word covered x || is_in_word (bit_and (get_or table at 0) (bit_not w64 (1 * 2 ^ at % 2 ^ bits w64))) x
      next_is = ap (λ z. is_in_word z x) e ∙ has_or covered _ x

      there : IsTrue (is_in_word covered x) ⊎ IsTrue (is_in_word (bit_and (get_or table at 0) (bit_not w64 (1 * 2 ^ at % 2 ^ bits w64))) x) → IsCovered (at + 1) table word x
      there (inl h) = later x ((so_far x l).0 h)
      there (inr h) = go (cases_eq x at)
        where
          go : (x ≡ at) ⊎ (x ≡ at → ⊥) → IsCovered (at + 1) table word x
          go (inl f) =
              let on : is_in_word (bit_and (get_or table at 0) (bit_not w64 (1 * 2 ^ at % 2 ^ bits w64))) at ≡ true = subst (λ z. IsTrue (is_in_word (bit_and (get_or table at 0) (bit_not w64 (1 * 2 ^ at % 2 ^ bits w64))) z)) f h in
              let off = has_cleared (get_or table at 0) at k in
              absurd (cc)
          go (inr f) = (at, omega arith, held, λ g. f (sym g), sym (has_kept (get_or table at 0) at x k l f) ∙ h)

      back : IsCovered at table word x ⊎ (IsTrue (is_in_word word at) × (at ≢ x) × IsTrue (is_below table at x)) → IsTrue (is_in_word covered x || is_in_word (bit_and (get_or table at 0) (bit_not w64 (1 * 2 ^ at % 2 ^ bits w64))) x)
      back (inl h) = or_left _ _ ((so_far x l).1 h)
      back (inr h) = or_right _ _ (has_kept (get_or table at 0) at x k l (λ g. h.1 (sym g)) ∙ h.2)

-- The set without what its other elements are at most.
pub minimal_left : (table : List ℕ) (word covered : ℕ) (xs : List ℕ) → length table ≤ 64 → covered < 2 ^ 64 → ((x : ℕ) → x < 64 → IsTrue (is_in_word covered x) ↔ IsCovered (length table) table word x)
    → xs ≡ members_below (length table) (bit_and word (bit_not w64 covered)) → AreMinimal table word xs
minimal_left table word covered xs few fits covers e = record {
  rising = subst (λ z. IsTrue (rise_from 0 z)) (sym e) (numbers_rise (is_in_word (bit_and word (bit_not w64 covered))) (length table));
  members = λ x. (λ m. there x (number_passes (is_in_word (bit_and word (bit_not w64 covered))) (length table) x (subst (λ z. IsMember x z) e m)), λ h. subst (λ z. IsMember x z) (sym e) (back x h));
}
  where
    left_is : (x : ℕ) → x < length table → is_in_word (bit_and word (bit_not w64 covered)) x ≡ is_in_word word x && not (is_in_word covered x)
    left_is x l = has_and word (bit_not w64 covered) x ∙ ap (λ t. is_in_word word x && t) (has_not covered x fits (omega arith))

    there : (x : ℕ) → (x < length table) × IsTrue (is_in_word (bit_and word (bit_not w64 covered)) x) → IsMinimal (is_below table) (IsHeld table word) x
    there x (l, h) =
        let both_parts = sym (left_is x l) ∙ h in
        let off : is_in_word covered x ≡ false = not_true _ (second (is_in_word word x) _ both_parts) in
        record { element = (lt-ltb _ _ l, first _ _ both_parts); least = λ y i b. least off y i b (cases_eq y x) }
      where
        least : is_in_word covered x ≡ false → (y : ℕ) → IsHeld table word y → IsTrue (is_below table y x) → (y ≡ x) ⊎ (y ≡ x → ⊥) → y ≡ x
        least off y i b (inl f) = f
        least off y i b (inr f) = let on : is_in_word covered x ≡ true = (covers x (omega arith)).1 (y, ltb-true _ _ i.0, i.1, f, b) in absurd (cc)

    back : (x : ℕ) → IsMinimal (is_below table) (IsHeld table word) x → IsMember x (members_below (length table) (bit_and word (bit_not w64 covered)))
    back x h = passing_number (is_in_word (bit_and word (bit_not w64 covered))) (length table) x l (left_is x l ∙ both _ _ h.element.1 (true_not _ (off (is_in_word covered x) refl)))
      where
        l : x < length table
        l = ltb-true _ _ h.element.0

        off : (t : Bool) → is_in_word covered x ≡ t → t ≡ false
        off false f = refl
        off true f = let w = (covers x (omega (arith, l))).0 f in absurd (w.3 (h.least w.0 (lt-ltb _ _ w.1, w.2) w.4))
