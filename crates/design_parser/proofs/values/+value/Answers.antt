use Rattle.std.proofs.Common.{arith}
use Rattle.std.proofs.lemmas.Result.{err_from_is_err_and}
use Rattle.design_lexer.specs.declared.syntax.class.Class.TheVariants as class
use Rattle.design_lexer.specs.Syntax.Classes.{is, one_of}
use Rattle.design_lexer.specs.Syntax.LoopLaws.{goes_on_after, ends_after, is_done, smaller_after}
use Rattle.design_lexer.specs.Syntax.Reading.{sym_at}
use Rattle.design_lexer.specs.Syntax.Words.{at_end}
use Rattle.design_parser.specs.Grammar.{Value}
use Rattle.design_parser.specs.Readers.{value_at, cells_at}
use Rattle.design_parser.proofs.NameParts.{constant_on}
use Rattle.design_parser.proofs.ValueParts.{value_part}
use Rattle.design_parser.proofs.Rooms.{value_none, value_open, value_plain}
use Rattle.design_parser.proofs.values.+value.Goals as goal

pub cells-returns-in_err-value-2 : goal.cells-returns-in_err-value-2
cells-returns-in_err-value-2 t c =
    let p = err_from_is_err_and c.from_residual-in_err-value-2.result c.from_residual-in_err-value-2.ensures.1 in
    rw (p.1, p.2) (ends_after at_end (one_of constant_on) class.Comma (Value c.args.room) (value_at c.args.room) (value_part c.args.room) c.in_err-value-2.field-0.0 c.starts.result c.loop-alloc.cells.items c.loop-alloc.lexemes c.skip.new.self (cells_at c.args.room c.args.lexemes.now)
    c.starts.ensures c.loop-alloc-test.true c.skip.ensures c.in_err-value-2.ensures c.loop-alloc.invariant)

pub cells-loop-alloc-smaller : goal.cells-loop-alloc-smaller
cells-loop-alloc-smaller t c =
    smaller_after (one_of constant_on) class.Comma (Value c.args.room) (value_at c.args.room) (value_part c.args.room) c.starts.result c.loop-alloc.lexemes c.skip.new.self c.value-in-loop-alloc.new.lexemes c.in_ok-value-2.field-0
    c.starts.ensures c.loop-alloc-test.true c.skip.ensures c.in_ok-value-2.ensures

pub cells-loop-alloc-preserved : goal.cells-loop-alloc-preserved
cells-loop-alloc-preserved t c =
    goes_on_after at_end (one_of constant_on) class.Comma (Value c.args.room) (value_at c.args.room) (value_part c.args.room) c.starts.result c.loop-alloc.cells.items c.push-in-loop-alloc.new.self.items c.loop-alloc.lexemes c.skip.new.self c.value-in-loop-alloc.new.lexemes c.in_ok-value-2.field-0 (cells_at c.args.room c.args.lexemes.now)
    c.starts.ensures c.loop-alloc-test.true c.skip.ensures c.in_ok-value-2.ensures c.in_ok-push-2.ensures.items c.loop-alloc.invariant

pub cells-returns : goal.cells-returns
cells-returns t c = rw c.shrink_to_fit.ensures.items (is_done at_end (is class.Comma) (sym_at class.Comma (value_at c.args.room)) c.starts.result c.loop-alloc.cells.items c.loop-alloc.lexemes (cells_at c.args.room c.args.lexemes.now) c.starts.ensures c.loop-alloc-test.false c.loop-alloc.invariant)

pub value-returns-then-room-eq0 : goal.value-returns-then-room-eq0
value-returns-then-room-eq0 t c = rw (value_none c.args.room c.args.lexemes.now c.if-room-eq0.true) c.plain_value.ensures

pub value-returns-then-starts : goal.value-returns-then-starts
value-returns-then-starts t c = rw (value_open c.args.room c.args.lexemes.now c.starts.result (omega arith) c.starts.ensures c.if-starts.true) c.tuple.ensures

pub value-returns : goal.value-returns
value-returns t c = rw (value_plain c.args.room c.args.lexemes.now c.starts.result c.starts.ensures c.if-starts.false) c.plain_value-2.ensures
