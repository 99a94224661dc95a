-- How the parts left change from turn to turn.
use Rattle.std.proofs.Common.{refl, ap, ◌≢◌, inl, arith}
use Rattle.std.proofs.lemmas.Bool.{eq-eqb, ne_eqb}
use Rattle.std.specs.Prelude.{◌≡◌, ℕ, zero, suc, ◌+◌, ◌<◌, Bool, true, false, not, ◌==◌, List, [], ◌∷◌, length, filter}
use Rattle.design_model.specs.Evaluation.{is_ready, first_or, next, numbers_from}
use Rattle.order_core.specs.MemberLaws.{mem-filter}
use Rattle.order_core.specs.Members.{IsMember}

pub is_other : (a b : ℕ) → a ≢ b → not (a == b) ≡ true
is_other a b h = rw (ne_eqb a b h) refl

pub is_itself : (a : ℕ) → not (a == a) ≡ false
is_itself a = rw (eq-eqb a a refl) refl

-- What is next is one of the parts left, if there is any.
pub next_member : (r : ℕ → ℕ → Bool) (left : List ℕ) → 0 < length left → IsMember (next r left) left
next_member r [] h = absurd (omega arith)
next_member r (x ∷ left) h = at (filter (is_ready r (x ∷ left)) (x ∷ left)) (λ w m. (mem-filter (is_ready r (x ∷ left)) (x ∷ left) w m).0)
  where
    at : (some : List ℕ) → ((w : ℕ) → IsMember w some → IsMember w (x ∷ left)) → IsMember (first_or x some) (x ∷ left)
    at [] k = inl refl
    at (y ∷ some) k = k y (inl refl)
