use Rattle.std.proofs.Math.Nat.{one-le-mul}
use Rattle.unit_core.specs.Ratio.{ratio, over_ratio}
use Rattle.unit_core.proofs.RatioLemmas.{quotient-num_pos}
use Rattle.unit_core.proofs.unit.Unit.over.Goals as goal

pub invariant_of-result : goal.invariant_of-result
unfolding over_ratio
invariant_of-result c =
    record { positive = quotient-num_pos _ _ (ratio c.in-Ok.size) c.in-Ok.ensures (one-le-mul c.args.self.positive c.args.other.size.whole) }
