-- Measures: a dimension, and a size in grid counts. Products, quotients and powers.
use Rattle.std.specs.Prelude.{ℕ, zero, suc, ℤ, pos, negsuc, cond, Result, Ok, Err}
use Rattle.unit_core.specs.Dimension.{are_exponents, dim_over, dim_times}
use Rattle.unit_core.specs.Ratio.{Ratio, ratio, over_ratio, times_ratio}
use Rattle.unit_core.specs.Results.{and_then}
use Rattle.unit_core.specs.declared.dim.Dim.{Dim}
use Rattle.unit_core.specs.declared.fault.FractionFault.{FractionFault}
use Rattle.unit_core.specs.declared.fault.UnitFault.TheVariants.{Exponent, Range}
use Rattle.unit_core.specs.declared.fault.UnitFault.{UnitFault}
use Rattle.unit_core.specs.declared.unit.Unit.{Unit}

pub record Measure : Type 0 where
  pub dim : Dim
  pub size : Ratio

abbrev pub measure : Unit → Measure
measure u = record { dim = u.dim; size = ratio u.size }

-- the measure of that dimension, if its size is in range
abbrev pub sized : Dim → Result Ratio FractionFault → Result Measure UnitFault
sized d (Ok r) = Ok (record { dim = d; size = r })
sized d (Err e) = Err Range

-- The exponents are tested before the size.
abbrev pub tested : Dim → Result Ratio FractionFault → Result Measure UnitFault
tested d size = cond (are_exponents d) (sized d size) (Err Exponent)

unfoldable pub times_measure : Measure → Measure → Result Measure UnitFault
times_measure u v = tested (dim_times u.dim v.dim) (times_ratio u.size v.size)

unfoldable pub over_measure : Measure → Measure → Result Measure UnitFault
over_measure u v = tested (dim_over u.dim v.dim) (over_ratio u.size v.size)

-- no dimension, and the size 1
abbrev pub one : Measure
one = record {
  dim = record { mass = pos 0; length = pos 0; time = pos 0; current = pos 0; money = pos 0; bits = pos 0 };
  size = record { num = 1; den = 1 };
}

-- n steps, one from the outcome of the other
unfoldable pub steps : (Measure → Result Measure UnitFault) → ℕ → Measure → Result Measure UnitFault
steps step zero u = Ok u
steps step (suc n) u = and_then (steps step n) (step u)

-- 1, multiplied by u or divided by it as often as the exponent says
unfoldable pub power_measure : Measure → ℤ → Result Measure UnitFault
power_measure u (pos n) = steps (λ v. times_measure v u) n one
power_measure u (negsuc n) = steps (λ v. over_measure v u) (suc n) one
