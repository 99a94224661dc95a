use Rattle.std.proofs.Common.{arith}
use Rattle.unit_core.specs.GcdLaws.{gcd-one_right}
use Rattle.unit_core.proofs.unit.Unit.whole.Goals as goal

pub invariant_of-size : goal.invariant_of-size
invariant_of-size c = record { whole = omega arith; reduced = gcd-one_right _; num_in_range = omega arith; den_in_range = omega arith }
