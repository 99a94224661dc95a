use Rattle.std.proofs.Common.{◌≡◌, length}
use Rattle.design_lexer.specs.Syntax.Classes.{is}
use Rattle.design_lexer.specs.Syntax.Reading.{many_at, sym_at, listed_at}
use Rattle.design_lexer.specs.Syntax.Spelled.{name_at}
use Rattle.design_lexer.specs.Syntax.Words.{at_end}
use Rattle.design_parser.proofs.names.listed.Given as goal

-- what is left, added to the names so far, gives what all gives
abbrev pub invariant-loop-alloc : goal.invariant-loop-alloc
invariant-loop-alloc l = many_at at_end (is l.separator) (sym_at l.separator name_at) l.names.items l.lexemes ≡ listed_at l.separator name_at l.fn.lexemes

abbrev pub decreases-loop-alloc : goal.decreases-loop-alloc
decreases-loop-alloc l = length l.lexemes
