use Rattle.std.proofs.Common.{arith}
use Rattle.std.proofs.lemmas.Grind.{common_steps}
use Rattle.std.proofs.lemmas.List.Elements.{filter_map-append}
use Rattle.cut_plan.proofs.heights.parts_of.Goals as goal

pub loop-tuple-preserved : goal.loop-tuple-preserved
loop-tuple-preserved c = grind (arith, common_steps, filter_map-append)
