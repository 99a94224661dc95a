use Rattle.std.proofs.Math.Nat.{one-le-mul}
use Rattle.unit_core.specs.Ratio.{ratio, times_ratio}
use Rattle.unit_core.proofs.RatioLemmas.{quotient-num_pos}
use Rattle.unit_core.proofs.unit.Unit.times.Goals as goal

pub invariant_of-result : goal.invariant_of-result
unfolding times_ratio
invariant_of-result c =
    record { positive = quotient-num_pos _ _ (ratio c.in-Ok.size) c.in-Ok.ensures (one-le-mul c.args.self.positive c.args.other.positive) }
