-- The laws of sizes and depths up to a limit.
use Rattle.std.specs.Prelude.{◌≡◌, ℕ, zero, suc, ◌+◌, ◌-◌, ◌*◌, ◌<◌, ◌≤◌, min, max}
use Rattle.std.proofs.Common.{refl, sym, ap, ap₂, ◌∙◌, arith, inl, inr, ◌⊎◌}
use Rattle.std.proofs.lemmas.Bool.{cases_lt}
use Rattle.std.proofs.Math.Nat.{mul_assoc, mul_comm, le-mul_of_pos_right}
use Rattle.design_measure.specs.Limits.{deepen, depths_to, sizes_to}
use Rattle.design_measure.specs.Scales.{IsMeasure}

-- ---- depths

pub deepen_zero : (limit x : ℕ) → deepen limit x 0 ≡ 0
deepen_zero limit zero = refl
deepen_zero limit (suc x) = refl

pub deepen_some : (limit x y : ℕ) → 0 < x → 0 < y → deepen limit x y ≡ min (x + y - 1) limit
deepen_some limit zero y p q = let never : ⊥ = omega arith in absurd never
deepen_some limit (suc x) zero p q = let never : ⊥ = omega arith in absurd never
deepen_some limit (suc x) (suc y) p q = omega arith

none_or_some : (x : ℕ) → (x ≡ 0) ⊎ (0 < x)
none_or_some zero = inl refl
none_or_some (suc x) = inr (omega arith)

module _ (limit : ℕ) (some : 0 < limit) where
  none : (x y : ℕ) → x ≡ 0 → deepen limit x y ≡ 0
  none x y e = ap (λ z. deepen limit z y) e

  none_right : (x y : ℕ) → y ≡ 0 → deepen limit x y ≡ 0
  none_right x y e = ap (deepen limit x) e ∙ deepen_zero limit x

  deepen_factor_sum : (x y z : ℕ) → deepen limit (min (max x y) limit) z ≡ min (max (deepen limit x z) (deepen limit y z)) limit
  deepen_factor_sum x y z = at (none_or_some x) (none_or_some y) (none_or_some z)
    where
      at : (x ≡ 0) ⊎ (0 < x) → (y ≡ 0) ⊎ (0 < y) → (z ≡ 0) ⊎ (0 < z) → deepen limit (min (max x y) limit) z ≡ min (max (deepen limit x z) (deepen limit y z)) limit
      at a b (inl c) = let l = none_right (min (max x y) limit) z c in let e = none_right x z c in let f = none_right y z c in omega arith
      at (inl a) (inl b) (inr c) = let zero_sum : min (max x y) limit ≡ 0 = omega arith in let l = none _ z zero_sum in let e = none x z a in let f = none y z b in omega arith
      at (inr a) (inl b) (inr c) =
          let pos : 0 < min (max x y) limit = omega arith in let same : min (max x y) limit ≡ min x limit = omega arith in
          let l = deepen_some limit _ z pos c in let e = deepen_some limit x z a c in let f = none y z b in omega arith
      at (inl a) (inr b) (inr c) =
          let pos : 0 < min (max x y) limit = omega arith in let same : min (max x y) limit ≡ min y limit = omega arith in
          let l = deepen_some limit _ z pos c in let e = none x z a in let f = deepen_some limit y z b c in omega arith
      at (inr a) (inr b) (inr c) =
          let pos : 0 < min (max x y) limit = omega arith in
          let l = deepen_some limit _ z pos c in let e = deepen_some limit x z a c in let f = deepen_some limit y z b c in omega arith

  deepen_comm : (x y : ℕ) → deepen limit x y ≡ deepen limit y x
  deepen_comm zero zero = refl
  deepen_comm zero (suc y) = refl
  deepen_comm (suc x) zero = refl
  deepen_comm (suc x) (suc y) = omega arith

  deepen_value_sum : (x y z : ℕ) → deepen limit x (min (max y z) limit) ≡ min (max (deepen limit x y) (deepen limit x z)) limit
  deepen_value_sum x y z = deepen_comm x _ ∙ deepen_factor_sum y z x ∙ ap₂ (λ a b. min (max a b) limit) (deepen_comm y x) (deepen_comm z x)

  deepen_factors : (x y z : ℕ) → deepen limit (deepen limit x y) z ≡ deepen limit x (deepen limit y z)
  deepen_factors x y z = at (none_or_some x) (none_or_some y) (none_or_some z)
    where
      at : (x ≡ 0) ⊎ (0 < x) → (y ≡ 0) ⊎ (0 < y) → (z ≡ 0) ⊎ (0 < z) → deepen limit (deepen limit x y) z ≡ deepen limit x (deepen limit y z)
      at (inl a) b c = none _ z (none x y a) ∙ sym (none x _ a)
      at (inr a) (inl b) c = none _ z (none_right x y b) ∙ sym (none_right x _ (none y z b))
      at (inr a) (inr b) (inl c) = none_right _ z c ∙ sym (none_right x _ (none_right y z c))
      at (inr a) (inr b) (inr c) =
          let xy = deepen_some limit x y a b in let yz = deepen_some limit y z b c in
          let pos : 0 < min (x + y - 1) limit = omega arith in let pos2 : 0 < min (y + z - 1) limit = omega arith in
          ap (λ u. deepen limit u z) xy ∙ deepen_some limit _ z pos c ∙ (omega arith) ∙ sym (deepen_some limit x _ a pos2) ∙ ap (deepen limit x) (sym yz)

depths_assoc : (limit x y z : ℕ) → min (max (min (max x y) limit) z) limit ≡ min (max x (min (max y z) limit)) limit
depths_assoc limit x y z = omega arith

pub depths_are : (limit : ℕ) → 0 < limit → IsMeasure (depths_to limit)
depths_are limit some = record {
  scale = record {
    swap = λ x y. omega arith;
    assoc = depths_assoc limit;
    zero_twice = omega arith;
    zero_plus = λ x y. omega arith;
    zero_times = λ x. refl;
    times_zero = deepen_zero limit;
    factor_sum = deepen_factor_sum limit some;
    value_sum = deepen_value_sum limit some;
    factors = deepen_factors limit some;
  };
  catalogue = λ n. omega arith;
}

-- ---- sizes

pub times_sum : (x y z : ℕ) → (x + y) * z ≡ x * z + y * z
times_sum x y z = grind arith

module _ (limit : ℕ) where
  -- A product up to a limit doesn't see what of a factor is past the limit.
  cut_times : (x y : ℕ) → min (min x limit * y) limit ≡ min (x * y) limit
  cut_times x y = at (none_or_some y) (cases_lt limit x)
    where
      at : (y ≡ 0) ⊎ (0 < y) → (limit < x) ⊎ (x ≤ limit) → min (min x limit * y) limit ≡ min (x * y) limit
      at (inl e) b = ap (λ z. min (min x limit * z) limit) e ∙ (omega arith) ∙ sym (ap (λ z. min (x * z) limit) e)
      at (inr p) (inr le) = let same : min x limit ≡ x = omega arith in ap (λ z. min (z * y) limit) same
      at (inr p) (inl more) =
          let same : min x limit ≡ limit = omega arith in let low = le-mul_of_pos_right limit p in let high = le-mul_of_pos_right x p in
          ap (λ z. min (z * y) limit) same ∙ (omega arith)

  cut_times_right : (x y : ℕ) → min (x * min y limit) limit ≡ min (x * y) limit
  cut_times_right x y = ap (λ z. min z limit) (mul_comm x (min y limit)) ∙ cut_times y x ∙ ap (λ z. min z limit) (mul_comm y x)

  cut_sum : (x y : ℕ) → min (min x limit + min y limit) limit ≡ min (x + y) limit
  cut_sum x y = omega arith

  sizes_factor_sum : (x y z : ℕ) → min (min (x + y) limit * z) limit ≡ min (min (x * z) limit + min (y * z) limit) limit
  sizes_factor_sum x y z = cut_times (x + y) z ∙ ap (λ t. min t limit) (times_sum x y z) ∙ sym (cut_sum (x * z) (y * z))

  sizes_value_sum : (x y z : ℕ) → min (x * min (y + z) limit) limit ≡ min (min (x * y) limit + min (x * z) limit) limit
  sizes_value_sum x y z =
      ap (λ t. min t limit) (mul_comm x _) ∙ sizes_factor_sum y z x ∙ ap₂ (λ s t. min (min s limit + min t limit) limit) (mul_comm y x) (mul_comm z x)

  sizes_factors : (x y z : ℕ) → min (min (x * y) limit * z) limit ≡ min (x * min (y * z) limit) limit
  sizes_factors x y z = cut_times (x * y) z ∙ ap (λ t. min t limit) (mul_assoc x y z) ∙ sym (cut_times_right x (y * z))

sizes_assoc : (limit x y z : ℕ) → min (min (x + y) limit + z) limit ≡ min (x + min (y + z) limit) limit
sizes_assoc limit x y z = omega arith

pub sizes_are : (limit : ℕ) → IsMeasure (sizes_to limit)
sizes_are limit = record {
  scale = record {
    swap = λ x y. omega arith;
    assoc = sizes_assoc limit;
    zero_twice = omega arith;
    zero_plus = λ x y. omega arith;
    zero_times = λ x. omega arith;
    times_zero = λ x. omega arith;
    factor_sum = sizes_factor_sum limit;
    value_sum = sizes_value_sum limit;
    factors = sizes_factors limit;
  };
  catalogue = λ n. omega arith;
}

pub depths_are_told : IsMeasure (depths_to 66)
depths_are_told = depths_are 66 (omega arith)
