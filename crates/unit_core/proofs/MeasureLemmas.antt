-- Measures: a dimension, and a size in grid counts. Products, quotients and powers.
use Rattle.std.proofs.Common.{refl}
use Rattle.std.specs.Prelude.{◌≡◌, ℕ, zero, suc, ℤ, pos, negsuc, Result, Ok, Err}
use Rattle.unit_core.specs.Dimension.{is_exponent}
use Rattle.unit_core.specs.Gcd.{gcd, gcd_within}
use Rattle.unit_core.specs.Measure.{Measure, one, over_measure, power_measure, steps, times_measure}
use Rattle.unit_core.specs.Ratio.{over_ratio, quotient, times_ratio}
use Rattle.unit_core.specs.declared.fault.UnitFault.{UnitFault}

-- A step that gives 1 again leads nowhere else.
steps_still : (step : Measure → Result Measure UnitFault) → step one ≡ Ok one → (n : ℕ) → steps step n one ≡ Ok one
unfolding steps
steps_still step h zero = refl
steps_still step h (suc n) = rw h (steps_still step h n)

pub power-one : (n : ℤ) → power_measure one n ≡ Ok one
unfolding gcd gcd_within is_exponent over_measure over_ratio power_measure quotient times_measure times_ratio
power-one (pos n) = steps_still (λ v. times_measure v one) refl n
power-one (negsuc n) = steps_still (λ v. over_measure v one) refl (suc n)

module _ (step : Measure → Result Measure UnitFault) (u : Measure) where
  pub steps-end : (n : ℕ) → n ≡ 0 → steps step n u ≡ Ok u
  unfolding steps
  steps-end n h = rw h

  pub steps-ok : (n k : ℕ) (v : Measure) → n ≡ suc k → Ok v ≡ step u → steps step n u ≡ steps step k v
  unfolding steps
  steps-ok n k v h e = rw (h, ← e)

  pub steps-err : (n k : ℕ) (e : UnitFault) → n ≡ suc k → Err e ≡ step u → steps step n u ≡ Err e
  unfolding steps
  steps-err n k f h e = rw (h, ← e)
