use Rattle.std.proofs.Common.{sym, arith}
use Rattle.std.proofs.lemmas.Result.{err_from_is_err_and}
use Rattle.design_lexer.specs.declared.syntax.class.Class.TheVariants as class
use Rattle.design_lexer.specs.Syntax.Classes.{is, one_of}
use Rattle.design_lexer.specs.Syntax.LoopLaws.{goes_on_after, ends_after, is_done, smaller_after}
use Rattle.design_lexer.specs.Syntax.PartLaws.{done_is}
use Rattle.design_lexer.specs.Syntax.Reading.{sym_at, listed_at}
use Rattle.design_lexer.specs.Syntax.Words.{at_end}
use Rattle.design_parser.specs.Grammar.{Item, Term, Expr}
use Rattle.design_parser.specs.Readers.{item_at, term_at, expr_at}
use Rattle.design_parser.specs.Trees.{sum, product}
use Rattle.design_parser.proofs.ExprParts.{plain_on, term_on, sums_on, item_part, term_part, expr_part}
use Rattle.design_parser.proofs.Rooms.{item_none, item_plain, item_open}
use Rattle.design_parser.proofs.exprs.+expr.Goals as goal

pub exprs-returns-in_err-expr-2 : goal.exprs-returns-in_err-expr-2
exprs-returns-in_err-expr-2 t c =
    let p = err_from_is_err_and c.from_residual-in_err-expr-2.result c.from_residual-in_err-expr-2.ensures.1 in
    rw (p.1, p.2) (ends_after at_end (one_of sums_on) class.Comma (Expr c.args.room) (expr_at c.args.room) (expr_part c.args.room) c.in_err-expr-2.field-0.0 c.starts.result c.loop-alloc.exprs.items c.loop-alloc.lexemes c.skip.new.self (listed_at class.Comma (expr_at c.args.room) c.args.lexemes.now)
    c.starts.ensures c.loop-alloc-test.true c.skip.ensures c.in_err-expr-2.ensures c.loop-alloc.invariant)

pub exprs-loop-alloc-smaller : goal.exprs-loop-alloc-smaller
exprs-loop-alloc-smaller t c =
    smaller_after (one_of sums_on) class.Comma (Expr c.args.room) (expr_at c.args.room) (expr_part c.args.room) c.starts.result c.loop-alloc.lexemes c.skip.new.self c.expr-in-loop-alloc.new.lexemes c.in_ok-expr-2.field-0
    c.starts.ensures c.loop-alloc-test.true c.skip.ensures c.in_ok-expr-2.ensures

pub exprs-loop-alloc-preserved : goal.exprs-loop-alloc-preserved
exprs-loop-alloc-preserved t c =
    goes_on_after at_end (one_of sums_on) class.Comma (Expr c.args.room) (expr_at c.args.room) (expr_part c.args.room) c.starts.result c.loop-alloc.exprs.items c.push-in-loop-alloc.new.self.items c.loop-alloc.lexemes c.skip.new.self c.expr-in-loop-alloc.new.lexemes c.in_ok-expr-2.field-0 (listed_at class.Comma (expr_at c.args.room) c.args.lexemes.now)
    c.starts.ensures c.loop-alloc-test.true c.skip.ensures c.in_ok-expr-2.ensures c.in_ok-push-2.ensures.items c.loop-alloc.invariant

pub exprs-returns : goal.exprs-returns
exprs-returns t c = is_done at_end (is class.Comma) (sym_at class.Comma (expr_at c.args.room)) c.starts.result c.loop-alloc.exprs.items c.loop-alloc.lexemes (listed_at class.Comma (expr_at c.args.room) c.args.lexemes.now) c.starts.ensures c.loop-alloc-test.false c.loop-alloc.invariant

pub term-returns-in_err-right : goal.term-returns-in_err-right
term-returns-in_err-right t c =
    let p = err_from_is_err_and c.from_residual-in_err-right.result c.from_residual-in_err-right.ensures.1 in
    rw (p.1, p.2) (ends_after product (one_of plain_on) class.Star (Item c.args.room) (item_at c.args.room) (item_part c.args.room) c.in_err-right.field-0.0 c.starts.result c.loop-alloc.left c.loop-alloc.lexemes c.skip.new.self (term_at c.args.room c.args.lexemes.now)
    c.starts.ensures c.loop-alloc-test.true c.skip.ensures c.in_err-right.ensures c.loop-alloc.invariant)

pub term-loop-alloc-smaller : goal.term-loop-alloc-smaller
term-loop-alloc-smaller t c =
    smaller_after (one_of plain_on) class.Star (Item c.args.room) (item_at c.args.room) (item_part c.args.room) c.starts.result c.loop-alloc.lexemes c.skip.new.self c.item-in-loop-alloc.new.lexemes c.in_ok-right.right
    c.starts.ensures c.loop-alloc-test.true c.skip.ensures c.in_ok-right.ensures

pub term-loop-alloc-preserved : goal.term-loop-alloc-preserved
term-loop-alloc-preserved t c =
    goes_on_after product (one_of plain_on) class.Star (Item c.args.room) (item_at c.args.room) (item_part c.args.room) c.starts.result c.loop-alloc.left _ c.loop-alloc.lexemes c.skip.new.self c.item-in-loop-alloc.new.lexemes c.in_ok-right.right (term_at c.args.room c.args.lexemes.now)
    c.starts.ensures c.loop-alloc-test.true c.skip.ensures c.in_ok-right.ensures (done_is _ _ (sym c.in_ok-left-2.ensures)) c.loop-alloc.invariant

pub term-returns : goal.term-returns
term-returns t c = is_done product (is class.Star) (sym_at class.Star (item_at c.args.room)) c.starts.result c.loop-alloc.left c.loop-alloc.lexemes (term_at c.args.room c.args.lexemes.now) c.starts.ensures c.loop-alloc-test.false c.loop-alloc.invariant

pub expr-returns-in_err-right : goal.expr-returns-in_err-right
expr-returns-in_err-right t c =
    let p = err_from_is_err_and c.from_residual-in_err-right.result c.from_residual-in_err-right.ensures.1 in
    rw (p.1, p.2) (ends_after sum (one_of term_on) class.Plus (Term (Item c.args.room)) (term_at c.args.room) (term_part c.args.room) c.in_err-right.field-0.0 c.starts.result c.loop-alloc.left c.loop-alloc.lexemes c.skip.new.self (expr_at c.args.room c.args.lexemes.now)
    c.starts.ensures c.loop-alloc-test.true c.skip.ensures c.in_err-right.ensures c.loop-alloc.invariant)

pub expr-loop-alloc-smaller : goal.expr-loop-alloc-smaller
expr-loop-alloc-smaller t c =
    smaller_after (one_of term_on) class.Plus (Term (Item c.args.room)) (term_at c.args.room) (term_part c.args.room) c.starts.result c.loop-alloc.lexemes c.skip.new.self c.term-in-loop-alloc.new.lexemes c.in_ok-right.right
    c.starts.ensures c.loop-alloc-test.true c.skip.ensures c.in_ok-right.ensures

pub expr-loop-alloc-preserved : goal.expr-loop-alloc-preserved
expr-loop-alloc-preserved t c =
    goes_on_after sum (one_of term_on) class.Plus (Term (Item c.args.room)) (term_at c.args.room) (term_part c.args.room) c.starts.result c.loop-alloc.left _ c.loop-alloc.lexemes c.skip.new.self c.term-in-loop-alloc.new.lexemes c.in_ok-right.right (expr_at c.args.room c.args.lexemes.now)
    c.starts.ensures c.loop-alloc-test.true c.skip.ensures c.in_ok-right.ensures (done_is _ _ (sym c.in_ok-left-2.ensures)) c.loop-alloc.invariant

pub expr-returns : goal.expr-returns
expr-returns t c = is_done sum (is class.Plus) (sym_at class.Plus (term_at c.args.room)) c.starts.result c.loop-alloc.left c.loop-alloc.lexemes (expr_at c.args.room c.args.lexemes.now) c.starts.ensures c.loop-alloc-test.false c.loop-alloc.invariant

pub item-returns-then-room-eq0 : goal.item-returns-then-room-eq0
item-returns-then-room-eq0 t c = rw (item_none c.args.room c.args.lexemes.now c.if-room-eq0.true) c.plain_item.ensures

pub item-returns-then-starts_any : goal.item-returns-then-starts_any
item-returns-then-starts_any t c = rw (item_plain c.args.room c.args.lexemes.now c.starts_any.result c.starts_any.ensures c.if-starts_any.true) c.plain_item-then-starts_any.ensures

pub item-returns : goal.item-returns
item-returns t c = rw (item_open c.args.room c.args.lexemes.now c.starts_any.result (omega arith) c.starts_any.ensures c.if-starts_any.false) c.opened.ensures
