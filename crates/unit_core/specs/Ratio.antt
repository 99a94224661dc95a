-- Quotients of whole numbers in lowest terms.
use Rattle.std.specs.Prelude.{◌≡◌, ℕ, zero, suc, ◌*◌, ◌/◌, ◌<◌, cond, ◌&&◌, nat_le, Result, Ok, Err}
use Rattle.unit_core.specs.Gcd.{gcd}
pub use Rattle.unit_core.specs.Range.{greatest_part}
use Rattle.unit_core.specs.declared.fault.FractionFault.TheVariants.{Range, Zero}
use Rattle.unit_core.specs.declared.fault.FractionFault.{FractionFault}
use Rattle.unit_core.specs.declared.fraction.Fraction.{Fraction}

pub record Ratio : Type 0 where
  pub num : ℕ
  pub den : ℕ

abbrev pub ratio : Fraction → Ratio
ratio f = record { num = f.num; den = f.den }

-- a over b, both divided by what divides both
abbrev pub lowest : ℕ → ℕ → Ratio
lowest a b = record { num = a / gcd a b; den = b / gcd a b }

-- the ratio, if both parts are in range
abbrev pub ranged : Ratio → Result Ratio FractionFault
ranged r = cond (nat_le r.num greatest_part && nat_le r.den greatest_part) (Ok r) (Err Range)

-- a over b
unfoldable pub quotient : ℕ → ℕ → Result Ratio FractionFault
quotient a zero = Err Zero
quotient a (suc b) = ranged (lowest a (suc b))

unfoldable pub times_ratio : Ratio → Ratio → Result Ratio FractionFault
times_ratio x y = quotient (x.num * y.num) (x.den * y.den)

unfoldable pub over_ratio : Ratio → Ratio → Result Ratio FractionFault
over_ratio x y = quotient (x.num * y.den) (x.den * y.num)

-- The ratio is a over b, and no number but 1 divides both parts.
pub record IsInLowestTerms (a b : ℕ) (r : Ratio) : Type 0 where
  pub same : r.num * b ≡ a * r.den
  pub whole : 0 < r.den
  pub reduced : gcd r.num r.den ≡ 1
