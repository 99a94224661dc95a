use Rattle.std.proofs.Common.{◌≡◌, ◌+◌, ◌*◌, length}
use Rattle.design_lexer.specs.declared.syntax.class.Class.TheVariants as class
use Rattle.design_lexer.specs.Syntax.Classes.{is}
use Rattle.design_lexer.specs.Syntax.Reading.{many_at, sym_at}
use Rattle.design_lexer.specs.Syntax.Words.{at_end}
use Rattle.design_parser.specs.Readers.{value_at, cells_at}
use Rattle.design_parser.proofs.values.+value.Given as goal

abbrev pub decreases-value : goal.decreases-value
decreases-value l = 3 * l.room

abbrev pub decreases-cells : goal.decreases-cells
decreases-cells l = 3 * l.room + 1

abbrev pub decreases-tuple : goal.decreases-tuple
decreases-tuple l = 3 * l.room + 2

-- what is left, added to what was read, gives what all gives
abbrev pub invariant-cells-loop-alloc : goal.invariant-cells-loop-alloc
invariant-cells-loop-alloc l = many_at at_end (is class.Comma) (sym_at class.Comma (value_at l.room)) l.cells.items l.lexemes ≡ cells_at l.room l.fn.lexemes

abbrev pub decreases-cells-loop-alloc : goal.decreases-cells-loop-alloc
decreases-cells-loop-alloc l = length l.lexemes
