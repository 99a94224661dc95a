use Rattle.std.proofs.Common.{length, ◌-◌}
use Rattle.design_lexer.proofs.Cutting.{IsCutTo}
use Rattle.design_lexer.proofs.scan.lex.Given as goal

abbrev pub invariant-loop-at : goal.invariant-loop-at
invariant-loop-at l = IsCutTo l.text l.at l.tokens.items

abbrev pub decreases-loop-at : goal.decreases-loop-at
decreases-loop-at l = length l.text - l.at
