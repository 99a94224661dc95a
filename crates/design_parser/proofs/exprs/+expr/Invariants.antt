use Rattle.std.proofs.Common.{◌≡◌, ◌+◌, ◌*◌, length}
use Rattle.design_lexer.specs.declared.syntax.class.Class.TheVariants as class
use Rattle.design_lexer.specs.Syntax.Classes.{is}
use Rattle.design_lexer.specs.Syntax.Reading.{many_at, sym_at, listed_at}
use Rattle.design_lexer.specs.Syntax.Words.{at_end}
use Rattle.design_parser.specs.Readers.{item_at, term_at, expr_at}
use Rattle.design_parser.specs.Trees.{sum, product}
use Rattle.design_parser.proofs.exprs.+expr.Given as goal

abbrev pub decreases-item : goal.decreases-item
decreases-item l = 6 * l.room

abbrev pub decreases-term : goal.decreases-term
decreases-term l = 6 * l.room + 1

abbrev pub decreases-expr : goal.decreases-expr
decreases-expr l = 6 * l.room + 2

abbrev pub decreases-exprs : goal.decreases-exprs
decreases-exprs l = 6 * l.room + 3

abbrev pub decreases-operands : goal.decreases-operands
decreases-operands l = 6 * l.room + 3

abbrev pub decreases-round : goal.decreases-round
decreases-round l = 6 * l.room + 3

abbrev pub decreases-tuple : goal.decreases-tuple
decreases-tuple l = 6 * l.room + 4

abbrev pub decreases-opened : goal.decreases-opened
decreases-opened l = 6 * l.room + 5

abbrev pub decreases-call : goal.decreases-call
decreases-call l = 6 * l.room + 4

-- what is left, added to what was read, gives what all gives
abbrev pub invariant-exprs-loop-alloc : goal.invariant-exprs-loop-alloc
invariant-exprs-loop-alloc l = many_at at_end (is class.Comma) (sym_at class.Comma (expr_at l.room)) l.exprs.items l.lexemes ≡ listed_at class.Comma (expr_at l.room) l.fn.lexemes

abbrev pub decreases-exprs-loop-alloc : goal.decreases-exprs-loop-alloc
decreases-exprs-loop-alloc l = length l.lexemes

-- what is left, added to what was read, gives what all gives
abbrev pub invariant-term-loop-alloc : goal.invariant-term-loop-alloc
invariant-term-loop-alloc l = many_at product (is class.Star) (sym_at class.Star (item_at l.room)) l.left l.lexemes ≡ term_at l.room l.fn.lexemes

abbrev pub decreases-term-loop-alloc : goal.decreases-term-loop-alloc
decreases-term-loop-alloc l = length l.lexemes

-- what is left, added to what was read, gives what all gives
abbrev pub invariant-expr-loop-alloc : goal.invariant-expr-loop-alloc
invariant-expr-loop-alloc l = many_at sum (is class.Plus) (sym_at class.Plus (term_at l.room)) l.left l.lexemes ≡ expr_at l.room l.fn.lexemes

abbrev pub decreases-expr-loop-alloc : goal.decreases-expr-loop-alloc
decreases-expr-loop-alloc l = length l.lexemes
