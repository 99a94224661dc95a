use Rattle.std.proofs.Common.{◌≡◌, length}
use Rattle.design_lexer.specs.Syntax.Classes.{one_of}
use Rattle.design_lexer.specs.Syntax.Reading.{many_at}
use Rattle.design_lexer.specs.Syntax.Words.{at_end}
use Rattle.design_parser.specs.Readers.{joints, further_factor_at, unit_at}
use Rattle.design_parser.proofs.units.unit.Given as goal

-- what is left, added to what was read, gives what all gives
abbrev pub invariant-loop-alloc : goal.invariant-loop-alloc
invariant-loop-alloc l = many_at at_end (one_of joints) further_factor_at l.factors.items l.lexemes ≡ unit_at l.fn.lexemes

abbrev pub decreases-loop-alloc : goal.decreases-loop-alloc
decreases-loop-alloc l = length l.lexemes
