use Rattle.std.proofs.Common.{◌≡◌}
use Rattle.unit_core.specs.Gcd.{gcd}
use Rattle.unit_core.proofs.divisor.greatest_common_divisor.Given as goal

-- The steps keep the greatest common divisor.
abbrev pub invariant-loop-lesser : goal.invariant-loop-lesser
invariant-loop-lesser l = gcd l.fn.a l.fn.b ≡ gcd l.greater l.lesser

abbrev pub decreases-loop-lesser : goal.decreases-loop-lesser
decreases-loop-lesser l = l.lesser
