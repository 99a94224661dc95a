-- Ranks of values, and how they are made.
use Rattle.std.specs.Prelude.{◌≡◌, ◌+◌, ◌-◌, ◌≤◌, ◌<◌, ℕ, zero, Bool, IsTrue, List, [], ◌∷◌, length}
use Rattle.std.proofs.Common.{refl, sym, ap, subst, ◌∙◌, arith}
use Rattle.order_core.specs.Embedding.{IsEmbedding}
use Rattle.order_core.specs.Members.{IsMember}
use Rattle.order_core.specs.MemberLaws.{first, second, both}
use Rattle.order_core.specs.Tuple.{are_values, tuple_leq}
use Rattle.round_laws.proofs.Counting.{passing, passing_at_most, passing_rises, passing_same, some_pass}
use Rattle.order_core.specs.EmbeddingLaws.{came_from, leq_origin, leq_image}

-- A rank of the values, at most the height. It rises with the values. And of two values of one rank, one above the other, each value that occurs and is at most the greater one is at most the lesser one.
pub record Grading {A : Type 0} (is_value : A → Bool) (leq : A → A → Bool) (Occurs : A → Type 0) (height : ℕ) : Type 0 where
  pub rank : A → ℕ
  pub within : (x : A) → IsTrue (is_value x) → rank x ≤ height
  pub rises : (x y : A) → IsTrue (is_value x) → IsTrue (is_value y) → IsTrue (leq x y) → rank x ≤ rank y
  pub keeps : (x y v : A) → IsTrue (is_value x) → IsTrue (is_value y) → IsTrue (is_value v) → IsTrue (leq x y) → rank x ≡ rank y → Occurs v → IsTrue (leq v y) → IsTrue (leq v x)

-- One less, where every rank is positive.
one_less : {A : Type 0} (is_value : A → Bool) (leq : A → A → Bool) (Occurs : A → Type 0) (height : ℕ) (grading : Grading is_value leq Occurs height) → ((x : A) → IsTrue (is_value x) → 0 < grading.rank x)
    → Grading is_value leq Occurs (height - 1)
one_less is_value leq Occurs height grading positive = record {
  rank = λ x. grading.rank x - 1;
  within = λ x x_is. falls (grading.rank x) height (grading.within x x_is);
  rises = λ x y x_is y_is l. falls (grading.rank x) (grading.rank y) (grading.rises x y x_is y_is l);
  keeps = λ x y v x_is y_is v_is l e occurs below.
      grading.keeps x y v x_is y_is v_is l (same (grading.rank x) (grading.rank y) (positive x x_is) (positive y y_is) e) occurs below;
}
  where
    falls : (a b : ℕ) → a ≤ b → a - 1 ≤ b - 1
    falls a b l = omega arith

    same : (a b : ℕ) → 0 < a → 0 < b → a - 1 ≡ b - 1 → a ≡ b
    same a b p q e = omega arith

-- Some points, each passed by all that is above what passes it. They decide what lies below a value: where the greater of two values passes no more of them, what occurs and is at most the greater one is at most the lesser one.
module _ {A B : Type 0} (is_value : A → Bool) (leq : A → A → Bool) (Occurs : A → Type 0) (passes : B → A → Bool) (points : List B)
    (upward : (b : B) (x y : A) → IsMember b points → IsTrue (is_value x) → IsTrue (is_value y) → IsTrue (leq x y) → IsTrue (passes b x) → IsTrue (passes b y))
    (decides : (x y v : A) → IsTrue (is_value x) → IsTrue (is_value y) → IsTrue (is_value v) → IsTrue (leq x y) → ((b : B) → IsMember b points → IsTrue (passes b y) → IsTrue (passes b x))
    → Occurs v → IsTrue (leq v y) → IsTrue (leq v x)) where
  -- The rank is how many points a value passes.
  pub by_points : Grading is_value leq Occurs (length points)
  by_points = record {
    rank = λ x. passing (λ b. passes b x) points;
    within = λ x x_is. passing_at_most (λ b. passes b x) points;
    rises = λ x y x_is y_is l. passing_rises (λ b. passes b x) (λ b. passes b y) points (λ b m. upward b x y m x_is y_is l);
    keeps = λ x y v x_is y_is v_is l e occurs below.
        decides x y v x_is y_is v_is l (passing_same (λ b. passes b x) (λ b. passes b y) points (λ b m. upward b x y m x_is y_is l) e) occurs below;
  }

  -- One less, where each value passes some point.
  pub by_points_but_one : ((x : A) → IsTrue (is_value x) → (b : B) × IsMember b points × IsTrue (passes b x)) → Grading is_value leq Occurs (length points - 1)
  unfolding by_points
  by_points_but_one some = one_less is_value leq Occurs (length points) by_points (λ x x_is. let one = some x x_is in some_pass (λ b. passes b x) points one.0 one.1 one.2)

-- The images of graded values are graded in the same way.
pub graded_images : {A B : Type 0} (is_value : A → Bool) (leq : A → A → Bool) (Occurs : A → Type 0) (is_image : B → Bool) (image_leq : B → B → Bool) (ImageOccurs : B → Type 0) (f : A → B) (height : ℕ)
    → IsEmbedding is_value leq is_image image_leq f → (grading : Grading is_value leq Occurs height) → (rank : B → ℕ) → ((x : A) → rank (f x) ≡ grading.rank x)
    → ((x : A) → IsTrue (is_value x) → ImageOccurs (f x) → Occurs x) → Grading is_image image_leq ImageOccurs height
graded_images {A = A} {B = B} is_value leq Occurs is_image image_leq ImageOccurs f height embeds grading rank same occurs = record {
  rank = rank;
  within = λ z z_is. let a = origin z z_is in subst (λ (m : ℕ). m ≤ height) (sym (rank_is z a.0 a.2)) (grading.within a.0 a.1);
  rises = λ z w z_is w_is l.
      let a = origin z z_is in
      let b = origin w w_is in
      let rise = grading.rises a.0 b.0 a.1 b.1 (leq_origin is_value leq is_image image_leq f embeds z w a.0 b.0 a.2 b.2 l) in
      rw (rank_is z a.0 a.2, rank_is w b.0 b.2) rise;
  keeps = λ z w v z_is w_is v_is l e v_occurs below.
      let a = origin z z_is in
      let b = origin w w_is in
      let c = origin v v_is in
      let ranks : grading.rank a.0 ≡ grading.rank b.0 = sym (rank_is z a.0 a.2) ∙ (e ∙ rank_is w b.0 b.2) in
      let kept = grading.keeps a.0 b.0 c.0 a.1 b.1 c.1 (leq_origin is_value leq is_image image_leq f embeds z w a.0 b.0 a.2 b.2 l) ranks (occurs c.0 c.1 (subst ImageOccurs c.2 v_occurs)) (leq_origin is_value leq is_image image_leq f embeds v w c.0 b.0 c.2 b.2 below) in
      leq_image is_value leq is_image image_leq f embeds v z c.0 a.0 c.2 a.2 kept;
}
  where
    origin : (z : B) → IsTrue (is_image z) → (x : A) × IsTrue (is_value x) × (z ≡ f x)
    origin = came_from is_value leq is_image image_leq f embeds

    rank_is : (z : B) (x : A) → z ≡ f x → rank z ≡ grading.rank x
    rank_is z x e = ap rank e ∙ same x

pub graded_empty : {A : Type 0} (Occurs : List A → Type 0) → Grading {A = List A} (are_values []) (tuple_leq []) Occurs 0
graded_empty {A = A} Occurs = record { rank = λ xs. 0; within = λ xs xs_is. omega arith; rises = λ xs ys xs_is ys_is l. omega arith; keeps = keeps }
  where
    keeps : (xs ys vs : List A) → IsTrue (are_values [] xs) → IsTrue (are_values [] ys) → IsTrue (are_values [] vs) → IsTrue (tuple_leq [] xs ys) → zero ≡ zero → Occurs vs → IsTrue (tuple_leq [] vs ys)
        → IsTrue (tuple_leq [] vs xs)
    keeps [] ys [] xs_is ys_is vs_is l e occurs below = refl
    keeps [] ys (v ∷ vs) xs_is ys_is vs_is l e occurs below = absurd (cc)
    keeps (x ∷ xs) ys vs xs_is ys_is vs_is l e occurs below = absurd (cc)

-- The rank of a tuple is the sum of those of its items.
module _ {A : Type 0} (is_value : A → Bool) (leq : A → A → Bool) (Occurs : A → Type 0) (height : ℕ) (head : Grading is_value leq Occurs height)
    (tests : List (A → Bool)) (leqs : List (A → A → Bool)) (RestOccurs : List A → Type 0) (rest_height : ℕ) (rest : Grading (are_values tests) (tuple_leq leqs) RestOccurs rest_height)
    (TupleOccurs : List A → Type 0) (split : (x : A) (xs : List A) → TupleOccurs (x ∷ xs) → Occurs x × RestOccurs xs) where
  abbrev ranks : List A → ℕ
  ranks [] = 0
  ranks (x ∷ xs) = head.rank x + rest.rank xs

  pub graded_tuples : Grading (are_values (is_value ∷ tests)) (tuple_leq (leq ∷ leqs)) TupleOccurs (height + rest_height)
  graded_tuples = record { rank = ranks; within = within; rises = rises; keeps = keeps }
    where
      within : (xs : List A) → IsTrue (are_values (is_value ∷ tests) xs) → ranks xs ≤ height + rest_height
      within [] xs_is = absurd (cc)
      within (x ∷ xs) xs_is = let one = head.within x (first _ _ xs_is) in let more = rest.within xs (second (is_value x) _ xs_is) in omega arith

      rises : (xs ys : List A) → IsTrue (are_values (is_value ∷ tests) xs) → IsTrue (are_values (is_value ∷ tests) ys) → IsTrue (tuple_leq (leq ∷ leqs) xs ys) → ranks xs ≤ ranks ys
      rises [] ys xs_is ys_is l = absurd (cc)
      rises (x ∷ xs) [] xs_is ys_is l = absurd (cc)
      rises (x ∷ xs) (y ∷ ys) xs_is ys_is l =
          let one = head.rises x y (first _ _ xs_is) (first _ _ ys_is) (first _ _ l) in
          let more = rest.rises xs ys (second (is_value x) _ xs_is) (second (is_value y) _ ys_is) (second (leq x y) _ l) in omega arith

      -- Neither summand falls, so where the sum stays each of them does.
      keeps : (xs ys vs : List A) → IsTrue (are_values (is_value ∷ tests) xs) → IsTrue (are_values (is_value ∷ tests) ys) → IsTrue (are_values (is_value ∷ tests) vs) → IsTrue (tuple_leq (leq ∷ leqs) xs ys)
          → ranks xs ≡ ranks ys → TupleOccurs vs → IsTrue (tuple_leq (leq ∷ leqs) vs ys) → IsTrue (tuple_leq (leq ∷ leqs) vs xs)
      keeps [] ys vs xs_is ys_is vs_is l e occurs below = absurd (cc)
      keeps (x ∷ xs) [] vs xs_is ys_is vs_is l e occurs below = absurd (cc)
      keeps (x ∷ xs) (y ∷ ys) [] xs_is ys_is vs_is l e occurs below = absurd (cc)
      keeps (x ∷ xs) (y ∷ ys) (v ∷ vs) xs_is ys_is vs_is l e occurs below =
          let one = head.rises x y (first _ _ xs_is) (first _ _ ys_is) (first _ _ l) in
          let more = rest.rises xs ys (second (is_value x) _ xs_is) (second (is_value y) _ ys_is) (second (leq x y) _ l) in
          let one_same : head.rank x ≡ head.rank y = omega (arith, one, more, e) in
          let more_same : rest.rank xs ≡ rest.rank ys = omega (arith, one, more, e) in
          both _ _ (head.keeps x y v (first _ _ xs_is) (first _ _ ys_is) (first _ _ vs_is) (first _ _ l) one_same (split v vs occurs).0 (first _ _ below))
          (rest.keeps xs ys vs (second (is_value x) _ xs_is) (second (is_value y) _ ys_is) (second (is_value v) _ vs_is) (second (leq x y) _ l) more_same (split v vs occurs).1 (second (leq v y) _ below))
