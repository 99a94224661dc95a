use Rattle.std.proofs.Common.{◌≡◌, length}
use Rattle.design_lexer.specs.declared.syntax.class.Class.TheVariants as class
use Rattle.design_lexer.specs.Syntax.Classes.{is}
use Rattle.design_lexer.specs.Syntax.Reading.{many_at, sym_at}
use Rattle.design_lexer.specs.Syntax.Words.{at_end}
use Rattle.design_parser.specs.Readers.{param_at, params_at}
use Rattle.design_parser.proofs.references.params.Given as goal

-- what is left, added to what was read, gives what all gives
abbrev pub invariant-loop-alloc : goal.invariant-loop-alloc
invariant-loop-alloc l = many_at at_end (is class.Comma) (sym_at class.Comma param_at) l.params.items l.lexemes ≡ params_at l.fn.lexemes

abbrev pub decreases-loop-alloc : goal.decreases-loop-alloc
decreases-loop-alloc l = length l.lexemes
