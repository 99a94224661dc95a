-- A fraction is its ratio, and a unit its measure.
use Rattle.std.specs.Prelude.{◌≡◌, ◌<◌, ◌≤◌, Bool, true, false, Option, Some, unwrap_or}
use Rattle.std.proofs.Common.{refl, ap, arith, sym}
use Rattle.std.proofs.lemmas.Bool.Decides.{nat_tests}
use Rattle.std.specs.Coded.{Coded-set, coded_ℕ, le_prop}
use mathlib.Core.HLevel.{is_prop→PathP}
use Rattle.unit_core.specs.declared.fraction.Fraction.{Fraction}
use Rattle.unit_core.specs.declared.unit.Unit.{Unit}
use Rattle.unit_core.specs.Fractions.{fraction_if, fraction_of}
use Rattle.unit_core.specs.Gcd.{gcd}
use Rattle.unit_core.specs.InRange.{is_fraction}
use Rattle.unit_core.specs.Measure.{measure}
use Rattle.unit_core.specs.Range.{greatest_part}
use Rattle.unit_core.specs.Ratio.{Ratio, ratio}

-- Fractions of one ratio are one.
pub same_fraction : (f g : Fraction) → ratio f ≡ ratio g → f ≡ g
same_fraction f g e = λ i. record {
  num = (e i).num;
  den = (e i).den;
  whole = is_prop→PathP (λ j. 0 < (e j).den) (λ j. le_prop) f.whole g.whole i;
  reduced = is_prop→PathP (λ j. gcd (e j).num (e j).den ≡ 1) (λ j. Coded-set coded_ℕ (gcd (e j).num (e j).den) 1) f.reduced g.reduced i;
  num_in_range = is_prop→PathP (λ j. (e j).num ≤ greatest_part) (λ j. le_prop) f.num_in_range g.num_in_range i;
  den_in_range = is_prop→PathP (λ j. (e j).den ≤ greatest_part) (λ j. le_prop) f.den_in_range g.den_in_range i;
}

-- Units of one measure are one.
pub same_unit : (u v : Unit) → measure u ≡ measure v → u ≡ v
same_unit u v e =
    let size : u.size ≡ v.size = same_fraction u.size v.size (ap (λ m. m.size) e) in
    λ i. record { dim = (e i).dim; size = size i; positive = is_prop→PathP (λ j. 0 < (size j).num) (λ j. le_prop) u.positive v.positive i }

passes : (f : Fraction) → is_fraction (ratio f) ≡ true
passes f =
    let w = f.whole in
    let r = f.reduced in
    let n = f.num_in_range in
    let d = f.den_in_range in
    grind (arith, nat_tests)

-- A fraction is that of its own ratio.
pub fraction_again : (f : Fraction) → fraction_of (ratio f) ≡ Some f
fraction_again f = go (is_fraction (ratio f)) refl (passes f)
  where
    go : (b : Bool) (e : is_fraction (ratio f) ≡ b) → b ≡ true → fraction_if (ratio f) b e ≡ Some f
    go true e h = ap (λ g. Some g) (same_fraction _ f refl)
    go false e h = absurd (cc)

-- The ratio of the fraction that a ratio is, is that ratio.
pub ratio_again : (r : Ratio) (f : Fraction) → fraction_of r ≡ Some f → ratio f ≡ r
ratio_again r f h = go (is_fraction r) refl h
  where
    go : (b : Bool) (e : is_fraction r ≡ b) → fraction_if r b e ≡ Some f → ratio f ≡ r
    go true e k = ap (λ (o : Option Fraction). ratio (unwrap_or o f)) (sym k)
    go false e k = absurd (cc)
