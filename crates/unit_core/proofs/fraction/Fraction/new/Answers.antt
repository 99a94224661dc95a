use Rattle.std.proofs.Common.{◌≡◌, ◌<◌, ℕ, ◌/◌, arith, sym, subst}
use Rattle.unit_core.specs.Gcd.{gcd}
use Rattle.unit_core.specs.RatioLaws.{lowest_is, divisor_pos}
use Rattle.unit_core.proofs.fraction.Fraction.new.Goals as goal

pub nonzero_div-reduced_num : goal.nonzero_div-reduced_num
nonzero_div-reduced_num c = omega (arith, divisor_pos c.args.num c.args.den (omega arith))

pub nonzero_div-reduced_den : goal.nonzero_div-reduced_den
nonzero_div-reduced_den c = omega (arith, divisor_pos c.args.num c.args.den (omega arith))

parts : (a b g : ℕ) → 0 < b → g ≡ gcd a b → (0 < b / g) × (gcd (a / g) (b / g) ≡ 1)
parts a b g p e = subst (λ v. (0 < b / v) × (gcd (a / v) (b / v) ≡ 1)) (sym e) (let l = lowest_is a b p in (l.whole, l.reduced))

pub invariant_of-result : goal.invariant_of-result
invariant_of-result c =
    let p = parts c.args.num c.args.den _ (omega arith) c.greatest_common_divisor-divisor.ensures in
    record { whole = p.0; reduced = p.1; num_in_range = omega arith; den_in_range = omega arith }
