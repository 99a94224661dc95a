-- The values of linear forms.
use Rattle.std.specs.Prelude.{◌≡◌, ℕ, zero, suc, ◌<◌, List, [], ◌∷◌, ◌++◌, drop, get_or, length, replicate, slice_get, Some, None}
use Rattle.std.proofs.Common.{set}
use Rattle.std.proofs.Common.{refl, sym, ap, ap₂, ◌∙◌, arith}
use Rattle.design_measure.specs.Scales.{IsScale, Scale, or_zero, weighed}

module _ (a : Scale) (laws : IsScale a) where
  abbrev plus : ℕ → ℕ → ℕ
  plus = a.plus

  -- What is weighed is a value.
  pub weighed_is : (fs vs : List ℕ) → plus 0 (weighed a fs vs) ≡ weighed a fs vs
  weighed_is [] vs = laws.zero_twice
  weighed_is (f ∷ fs) [] = laws.zero_twice
  weighed_is (f ∷ fs) (v ∷ vs) = laws.zero_plus (a.times f v) (weighed a fs vs)

  -- So is a sum.
  pub sum_is : (x y : ℕ) → plus (plus x y) 0 ≡ plus x y
  sum_is x y = laws.swap (plus x y) 0 ∙ laws.zero_plus x y

  pub weighed_after : (fs vs : List ℕ) → plus (weighed a fs vs) 0 ≡ weighed a fs vs
  weighed_after fs vs = laws.swap (weighed a fs vs) 0 ∙ weighed_is fs vs

  zeros_weighed : (n : ℕ) (vs : List ℕ) → weighed a (replicate n 0) vs ≡ 0
  zeros_weighed zero vs = refl
  zeros_weighed (suc n) [] = refl
  zeros_weighed (suc n) (v ∷ vs) = ap₂ plus (laws.zero_times v) (zeros_weighed n vs) ∙ laws.zero_twice

  -- Factors of nothing change nothing.
  pub grown : (fs : List ℕ) (n : ℕ) (vs : List ℕ) → weighed a (fs ++ replicate n 0) vs ≡ weighed a fs vs
  grown [] n vs = zeros_weighed n vs
  grown (f ∷ fs) n [] = refl
  grown (f ∷ fs) n (v ∷ vs) = ap (plus (a.times f v)) (grown fs n vs)

  -- A factor that is raised adds its part.
  pub raised : (fs : List ℕ) (k c f : ℕ) (vs : List ℕ) → slice_get fs k ≡ Some f → weighed a (set fs k (plus f c)) vs ≡ plus (weighed a fs vs) (a.times c (or_zero (slice_get vs k)))
  raised [] k c f vs e = absurd (cc)
  raised (g ∷ fs) zero c f [] e = sym (ap (plus 0) (laws.times_zero c) ∙ laws.zero_twice)
  raised (g ∷ fs) zero c f (v ∷ vs) e =
      let same : g ≡ f = cc in
      ap (λ t. plus t (weighed a fs vs)) (laws.factor_sum f c v) ∙ laws.assoc (a.times f v) (a.times c v) (weighed a fs vs)
      ∙ ap (plus (a.times f v)) (laws.swap (a.times c v) (weighed a fs vs)) ∙ sym (laws.assoc (a.times f v) (weighed a fs vs) (a.times c v))
      ∙ ap (λ x. plus (plus (a.times x v) (weighed a fs vs)) (a.times c v)) (sym same)
  raised (g ∷ fs) (suc k) c f [] e = sym (ap (plus 0) (laws.times_zero c) ∙ laws.zero_twice)
  raised (g ∷ fs) (suc k) c f (v ∷ vs) e = ap (plus (a.times g v)) (raised fs k c f vs e) ∙ sym (laws.assoc (a.times g v) (weighed a fs vs) (a.times c (or_zero (slice_get vs k))))

  -- What is weighed from a place on: the product at the place first, where both have one.
  pub weighed_here : (fs vs : List ℕ) (i v : ℕ) → i < length fs → slice_get vs i ≡ Some v → weighed a (drop i fs) (drop i vs) ≡ plus (a.times (get_or fs i 0) v) (weighed a (drop (suc i) fs) (drop (suc i) vs))
  weighed_here [] vs i v l e = absurd (omega (arith, l))
  weighed_here (f ∷ fs) [] i v l e = absurd (cc)
  weighed_here (f ∷ fs) (w ∷ vs) zero v l e = let same : w ≡ v = cc in ap (λ x. plus (a.times f x) (weighed a fs vs)) same
  weighed_here (f ∷ fs) (w ∷ vs) (suc i) v l e = weighed_here fs vs i v (omega (arith, l)) e

  none_weighed : (fs : List ℕ) → weighed a fs [] ≡ 0
  none_weighed [] = refl
  none_weighed (f ∷ fs) = refl

  drop_none : (vs : List ℕ) (i : ℕ) → slice_get vs i ≡ None → drop i vs ≡ []
  drop_none [] zero e = refl
  drop_none [] (suc i) e = refl
  drop_none (v ∷ vs) zero e = absurd (cc)
  drop_none (v ∷ vs) (suc i) e = drop_none vs i e

  next_none : (vs : List ℕ) (i : ℕ) → slice_get vs i ≡ None → drop (suc i) vs ≡ []
  next_none [] i e = refl
  next_none (v ∷ vs) zero e = absurd (cc)
  next_none (v ∷ vs) (suc i) e = next_none vs i e

  -- From a place without a value on, nothing is weighed.
  pub weighed_none : (fs vs : List ℕ) (i : ℕ) → slice_get vs i ≡ None → weighed a (drop i fs) (drop i vs) ≡ weighed a (drop (suc i) fs) (drop (suc i) vs)
  weighed_none fs vs i e = ap (weighed a (drop i fs)) (drop_none vs i e) ∙ none_weighed (drop i fs) ∙ sym (none_weighed (drop (suc i) fs)) ∙ sym (ap (weighed a (drop (suc i) fs)) (next_none vs i e))

  -- A value that goes over to a sum, times two factors.
  pub product_moved : (whole sum k f v rest : ℕ) → whole ≡ plus sum (a.times k (plus (a.times f v) rest)) → whole ≡ plus (plus sum (a.times (a.times k f) v)) (a.times k rest)
  product_moved whole sum k f v rest e = e ∙ ap (plus sum) (laws.value_sum k (a.times f v) rest ∙ ap (λ x. plus x (a.times k rest)) (sym (laws.factors k f v))) ∙ sym (laws.assoc sum (a.times (a.times k f) v) (a.times k rest))

  -- What is left of a sum of products, after its first product.
  pub first_product : (whole sum step x rest : ℕ) → whole ≡ plus sum (a.times step (plus x rest)) → whole ≡ plus (plus sum (a.times step x)) (a.times step rest)
  first_product whole sum step x rest e = e ∙ ap (plus sum) (laws.value_sum step x rest) ∙ sym (laws.assoc sum (a.times step x) (a.times step rest))

  -- A product of nothing adds nothing to a sum.
  pub no_product : (x y step : ℕ) → plus (plus x y) (a.times step 0) ≡ plus x y
  no_product x y step = ap (plus (plus x y)) (laws.times_zero step) ∙ sum_is x y

  pub no_factor : (x y v : ℕ) → plus (plus x y) (a.times 0 v) ≡ plus x y
  no_factor x y v = ap (plus (plus x y)) (laws.zero_times v) ∙ sum_is x y
