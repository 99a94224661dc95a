-- What holds of each item of a list, or of each pair of partners in two lists of the same length.
use Rattle.std.proofs.Common.{refl, ap, get_or, arith}
use Rattle.std.proofs.lemmas.List.{drop_more, drop_all}
use Rattle.std.specs.Prelude.{◌≡◌, ℕ, ◌+◌, ◌<◌, ◌≤◌, ◌↔◌, List, [], ◌∷◌, map, length, drop}
use Rattle.order_core.specs.Pointwise.{Each, Pointwise}

pub Pointwise-map_right : {A B C : Type 0} (g : B → C) (R : A → C → Type 0) (xs : List A) (ys : List B) → Pointwise (λ x y. R x (g y)) xs ys ≡ Pointwise R xs (map g ys)
Pointwise-map_right g R [] [] = refl
Pointwise-map_right g R [] (y ∷ ys) = refl
Pointwise-map_right g R (x ∷ xs) [] = refl
Pointwise-map_right g R (x ∷ xs) (y ∷ ys) = ap (λ (P : Type 0). R x (g y) × P) (Pointwise-map_right g R xs ys)

-- Partners are compared in turn, and what is left decides P: `next` is a step where the partners are related, `stop` one where they aren't, and `done` the end.
module _ {A B : Type 0} (R : A → B → Type 0) (xs : List A) (ys : List B) (same : length xs ≡ length ys) (P : Type 0) (i : ℕ)
    (left : Pointwise R (drop i xs) (drop i ys) ↔ P) where
  module _ (x : A) (y : B) (inside : i < length xs) (x-is : x ≡ get_or xs i x) (y-is : y ≡ get_or ys i y) where
    front : Pointwise R (drop i xs) (drop i ys) ≡ (R x y × Pointwise R (drop (i + 1) xs) (drop (i + 1) ys))
    front = let within : i < length ys = omega arith in rw (drop_more xs i x inside, drop_more ys i y within, ← x-is, ← y-is)

    pub next : R x y → Pointwise R (drop (i + 1) xs) (drop (i + 1) ys) ↔ P
    next r = ((λ p. left.0 (rw front (r, p))), λ p. (rw front at (left.1 p)).1)

    pub stop : (R x y → ⊥) → P → ⊥
    stop never p = never (rw front at (left.1 p)).0

  pub done : length xs ≤ i → P
  done end = let end2 : length ys ≤ i = omega arith in left.0 (rw (drop_all i xs end, drop_all i ys end2) tt)

-- The same of the items of one list.
module _ {A : Type 0} (P : A → Type 0) (xs : List A) (Q : Type 0) (i : ℕ) (left : Each P (drop i xs) ↔ Q) where
  module _ (x : A) (inside : i < length xs) (x-is : x ≡ get_or xs i x) where
    each_front : Each P (drop i xs) ≡ (P x × Each P (drop (i + 1) xs))
    each_front = rw (drop_more xs i x inside, ← x-is)

    pub each_next : P x → Each P (drop (i + 1) xs) ↔ Q
    each_next p = ((λ e. left.0 (rw each_front (p, e))), λ q. (rw each_front at (left.1 q)).1)

    pub each_stop : (P x → ⊥) → Q → ⊥
    each_stop never q = never (rw each_front at (left.1 q)).0

  pub each_done : length xs ≤ i → Q
  each_done end = left.0 (rw (drop_all i xs end) tt)
