use Rattle.std.proofs.Common.{◌≡◌, ◌+◌, ◌*◌, length}
use Rattle.design_lexer.specs.declared.syntax.class.Class.TheVariants as class
use Rattle.design_lexer.specs.Syntax.Classes.{is}
use Rattle.design_lexer.specs.Syntax.Reading.{many_at, sym_at, listed_at}
use Rattle.design_lexer.specs.Syntax.Words.{at_end}
use Rattle.design_parser.specs.Readers.{ref_at, arg_at}
use Rattle.design_parser.proofs.references.+reference.Given as goal

abbrev pub decreases-reference : goal.decreases-reference
decreases-reference l = 5 * l.room

abbrev pub decreases-argument : goal.decreases-argument
decreases-argument l = 5 * l.room + 1

abbrev pub decreases-listed_arguments : goal.decreases-listed_arguments
decreases-listed_arguments l = 5 * l.room + 2

abbrev pub decreases-full_reference : goal.decreases-full_reference
decreases-full_reference l = 5 * l.room + 4

abbrev pub decreases-arguments : goal.decreases-arguments
decreases-arguments l = 5 * l.room + 3

-- what is left, added to what was read, gives what all gives
abbrev pub invariant-listed_arguments-loop-alloc : goal.invariant-listed_arguments-loop-alloc
invariant-listed_arguments-loop-alloc l = many_at at_end (is class.Comma) (sym_at class.Comma (arg_at (ref_at l.room))) l.arguments.items l.lexemes ≡ listed_at class.Comma (arg_at (ref_at l.room)) l.fn.lexemes

abbrev pub decreases-listed_arguments-loop-alloc : goal.decreases-listed_arguments-loop-alloc
decreases-listed_arguments-loop-alloc l = length l.lexemes
