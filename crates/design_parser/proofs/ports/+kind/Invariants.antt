use Rattle.std.proofs.Common.{◌≡◌, ◌+◌, ◌*◌, length}
use Rattle.design_lexer.specs.declared.syntax.class.Class.TheVariants as class
use Rattle.design_lexer.specs.Syntax.Classes.{is}
use Rattle.design_lexer.specs.Syntax.Reading.{many_at, sym_at, listed_at}
use Rattle.design_lexer.specs.Syntax.Words.{at_end}
use Rattle.design_parser.specs.Readers.{type_at}
use Rattle.design_parser.proofs.ports.+kind.Given as goal

abbrev pub decreases-kind : goal.decreases-kind
decreases-kind l = 3 * l.room

abbrev pub decreases-kinds : goal.decreases-kinds
decreases-kinds l = 3 * l.room + 1

abbrev pub decreases-product : goal.decreases-product
decreases-product l = 3 * l.room + 2

-- what is left, added to what was read, gives what all gives
abbrev pub invariant-kinds-loop-alloc : goal.invariant-kinds-loop-alloc
invariant-kinds-loop-alloc l = many_at at_end (is class.Comma) (sym_at class.Comma (type_at l.room)) l.kinds.items l.lexemes ≡ listed_at class.Comma (type_at l.room) l.fn.lexemes

abbrev pub decreases-kinds-loop-alloc : goal.decreases-kinds-loop-alloc
decreases-kinds-loop-alloc l = length l.lexemes
