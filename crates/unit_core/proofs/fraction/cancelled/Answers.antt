use Rattle.unit_core.specs.RatioLaws.{divisor_pos}
use Rattle.unit_core.proofs.fraction.cancelled.Goals as goal

pub nonzero_div-result : goal.nonzero_div-result
nonzero_div-result c = rw c.greatest_common_divisor-divisor.ensures (divisor_pos c.args.a c.args.b c.requires)

pub nonzero_div-result-2 : goal.nonzero_div-result-2
nonzero_div-result-2 c = rw c.greatest_common_divisor-divisor.ensures (divisor_pos c.args.a c.args.b c.requires)
