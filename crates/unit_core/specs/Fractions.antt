-- Fractions from ratios.
use Rattle.std.specs.Prelude.{◌≡◌, Bool, true, false, Option, Some, None}
use Rattle.std.proofs.Common.{refl}
use Rattle.unit_core.specs.declared.fraction.Fraction.{Fraction}
use Rattle.unit_core.specs.InRange.{is_fraction}
use Rattle.unit_core.specs.InRangeLaws.{whole, reduced, num_in_range, den_in_range}
use Rattle.unit_core.specs.Ratio.{Ratio}

-- the fraction of the ratio's parts, where the test says that it is one
abbrev pub fraction_if : (r : Ratio) (b : Bool) → is_fraction r ≡ b → Option Fraction
fraction_if r true e = Some (record { num = r.num; den = r.den; whole = whole r e; reduced = reduced r e; num_in_range = num_in_range r e; den_in_range = den_in_range r e })
fraction_if r false e = None

-- the fraction that the ratio is, if it is one
abbrev pub fraction_of : Ratio → Option Fraction
fraction_of r = fraction_if r (is_fraction r) refl
