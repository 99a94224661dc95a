use Rattle.std.proofs.Common.{length}
use Rattle.template_expand.proofs.trail.+original.Given as goal

abbrev pub decreases-original : goal.decreases-original
decreases-original l = length l.trail.now
