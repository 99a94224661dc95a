-- That the turns take each part once.
use Rattle.std.proofs.Common.{refl, sym, inl, inr, arith, add-one}
use Rattle.std.proofs.lemmas.Bool.{cases_eq, eq-eqb, ne_eqb}
use Rattle.std.specs.Prelude.{◌≡◌, ◌≢◌, ◌⊎◌, ℕ, zero, suc, ◌+◌, ◌<◌, List, [], ◌∷◌, length, get_or}
use Rattle.cut_plan.specs.OrderOf.{IsOrderOf}
use Rattle.design_model.specs.Evaluation.{place}
use Rattle.order_core.specs.Members.{IsMember}

-- how the places follow from the order
pub place_at : (n : ℕ) (order : List ℕ) → IsOrderOf n order → (i : ℕ) → i < length order → place order (get_or order i 0) ≡ i
place_at n order h i k = at order i h.once k
  where
    at : (xs : List ℕ) (i : ℕ) → ((i j : ℕ) → i < j → j < length xs → get_or xs i 0 ≢ get_or xs j 0) → i < length xs → place xs (get_or xs i 0) ≡ i
    at [] i once l = absurd (omega arith)
    at (x ∷ xs) zero once l = rw (eq-eqb x x refl) refl
    at (x ∷ xs) (suc i) once l =
        rw (ne_eqb x (get_or xs i 0) (once 0 (suc i) (omega arith) l)) (omega (arith, at xs i (λ j k a b. once (suc j) (suc k) (omega arith) (omega arith)) (omega arith)))

pub place_within : (order : List ℕ) (p : ℕ) → IsMember p order → place order p < length order
place_within [] p m = absurd m
place_within (q ∷ order) p m = at (cases_eq q p) m (place_within order p)
  where
    at : (q ≡ p) ⊎ (q ≡ p → ⊥) → IsMember p (q ∷ order) → (IsMember p order → place order p < length order) → place (q ∷ order) p < length (q ∷ order)
    at (inl e) k ih = rw (eq-eqb q p e) (omega arith)
    at (inr e) (inl f) ih = absurd (e (sym f))
    at (inr e) (inr k) ih = rw (ne_eqb q p e) (omega (arith, ih k))

pub place_member : (order : List ℕ) (p : ℕ) → place order p < length order → IsMember p order
place_member [] p h = absurd (omega arith)
place_member (q ∷ order) p h = at (cases_eq q p) (place_member order p)
  where
    at : (q ≡ p) ⊎ (q ≡ p → ⊥) → (place order p < length order → IsMember p order) → IsMember p (q ∷ order)
    at (inl e) ih = inl (sym e)
    at (inr e) ih =
        let more : place order p + 1 < length (q ∷ order) = rw (ne_eqb q p e) at h in
        inr (ih (omega (arith, more)))

pub at_place : (order : List ℕ) (p : ℕ) → IsMember p order → get_or order (place order p) 0 ≡ p
at_place [] p m = absurd m
at_place (q ∷ order) p m = at (cases_eq q p) m (at_place order p)
  where
    at : (q ≡ p) ⊎ (q ≡ p → ⊥) → IsMember p (q ∷ order) → (IsMember p order → get_or order (place order p) 0 ≡ p) → get_or (q ∷ order) (place (q ∷ order) p) 0 ≡ p
    at (inl e) k ih = rw (eq-eqb q p e) e
    at (inr e) (inl f) ih = absurd (e (sym f))
    at (inr e) (inr k) ih = rw (ne_eqb q p e, add-one) (ih k)
