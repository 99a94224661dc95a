use Rattle.std.proofs.Common.{drop, map}
use Rattle.expr_lower.proofs.PartLemmas.{PartsLeft}
use Rattle.expr_lower.specs.Reading.{reading}
use Rattle.expr_lower.proofs.expr.+operand.Given as goal

-- What is left decides.
abbrev pub invariant-lowered_parts-loop-part : goal.invariant-lowered_parts-loop-part
invariant-lowered_parts-loop-part g l = PartsLeft (map (reading l.types (g.R.Readable.readable l.ports)) l.parts) (map (reading l.types (g.R.Readable.readable l.ports)) (drop l.part-index l.parts)) l.lowers.items
