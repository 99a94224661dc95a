use Rattle.std.proofs.Common.{refl}
use Rattle.unit_core.specs.Gcd.{gcd, gcd_within}
use Rattle.unit_core.specs.Ratio.{quotient}
use Rattle.unit_core.proofs.laws.quotients_worked_out.Goals as goal

pub returns : goal.returns
unfolding gcd gcd_within quotient
returns c = record { lowest = refl; reduced = refl; zero = refl; no_divisor = refl; greatest = refl; above = refl; long = refl; finest = refl }
