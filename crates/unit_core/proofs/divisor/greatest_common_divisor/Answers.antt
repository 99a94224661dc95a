use Rattle.std.proofs.Common.{◌∙◌, sym}
use Rattle.unit_core.specs.GcdLaws.{gcd-zero, gcd-mod}
use Rattle.unit_core.proofs.divisor.greatest_common_divisor.Goals as goal

pub loop-lesser-preserved : goal.loop-lesser-preserved
loop-lesser-preserved c = c.loop-lesser.invariant ∙ gcd-mod _ _

pub returns : goal.returns
returns c = sym (c.loop-lesser.invariant ∙ gcd-zero _ _ c.loop-lesser-test.false)
