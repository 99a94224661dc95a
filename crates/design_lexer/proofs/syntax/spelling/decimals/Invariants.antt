use Rattle.std.proofs.Common.{◌≡◌, drop}
use Rattle.design_lexer.specs.Syntax.Spelled.{decimals_of}
use Rattle.design_lexer.proofs.syntax.spelling.decimals.Given as goal

abbrev pub invariant-loop-at : goal.invariant-loop-at
invariant-loop-at l = decimals_of (drop l.at l.bytes) ≡ decimals_of l.bytes
