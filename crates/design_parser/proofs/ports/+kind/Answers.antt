use Rattle.std.proofs.Common.{arith}
use Rattle.std.proofs.lemmas.Result.{err_from_is_err_and}
use Rattle.design_lexer.specs.declared.syntax.class.Class.TheVariants as class
use Rattle.design_lexer.specs.Syntax.Classes.{is, one_of}
use Rattle.design_lexer.specs.Syntax.LoopLaws.{goes_on_after, ends_after, is_done, smaller_after}
use Rattle.design_lexer.specs.Syntax.Reading.{sym_at, listed_at}
use Rattle.design_lexer.specs.Syntax.Words.{at_end}
use Rattle.design_parser.specs.Grammar.{Type_}
use Rattle.design_parser.specs.Readers.{type_at}
use Rattle.design_parser.proofs.NameParts.{unit_on}
use Rattle.design_parser.proofs.ValueParts.{type_part}
use Rattle.design_parser.proofs.Rooms.{type_none, type_open, type_plain}
use Rattle.design_parser.proofs.ports.+kind.Goals as goal

pub kinds-returns-in_err-kind-2 : goal.kinds-returns-in_err-kind-2
kinds-returns-in_err-kind-2 t c =
    let p = err_from_is_err_and c.from_residual-in_err-kind-2.result c.from_residual-in_err-kind-2.ensures.1 in
    rw (p.1, p.2) (ends_after at_end (one_of unit_on) class.Comma (Type_ c.args.room) (type_at c.args.room) (type_part c.args.room) c.in_err-kind-2.field-0.0 c.starts.result c.loop-alloc.kinds.items c.loop-alloc.lexemes c.skip.new.self (listed_at class.Comma (type_at c.args.room) c.args.lexemes.now)
    c.starts.ensures c.loop-alloc-test.true c.skip.ensures c.in_err-kind-2.ensures c.loop-alloc.invariant)

pub kinds-loop-alloc-smaller : goal.kinds-loop-alloc-smaller
kinds-loop-alloc-smaller t c =
    smaller_after (one_of unit_on) class.Comma (Type_ c.args.room) (type_at c.args.room) (type_part c.args.room) c.starts.result c.loop-alloc.lexemes c.skip.new.self c.kind-in-loop-alloc.new.lexemes c.in_ok-kind-2.field-0
    c.starts.ensures c.loop-alloc-test.true c.skip.ensures c.in_ok-kind-2.ensures

pub kinds-loop-alloc-preserved : goal.kinds-loop-alloc-preserved
kinds-loop-alloc-preserved t c =
    goes_on_after at_end (one_of unit_on) class.Comma (Type_ c.args.room) (type_at c.args.room) (type_part c.args.room) c.starts.result c.loop-alloc.kinds.items c.push-in-loop-alloc.new.self.items c.loop-alloc.lexemes c.skip.new.self c.kind-in-loop-alloc.new.lexemes c.in_ok-kind-2.field-0 (listed_at class.Comma (type_at c.args.room) c.args.lexemes.now)
    c.starts.ensures c.loop-alloc-test.true c.skip.ensures c.in_ok-kind-2.ensures c.in_ok-push-2.ensures.items c.loop-alloc.invariant

pub kinds-returns : goal.kinds-returns
kinds-returns t c = is_done at_end (is class.Comma) (sym_at class.Comma (type_at c.args.room)) c.starts.result c.loop-alloc.kinds.items c.loop-alloc.lexemes (listed_at class.Comma (type_at c.args.room) c.args.lexemes.now) c.starts.ensures c.loop-alloc-test.false c.loop-alloc.invariant

pub kind-returns-then-room-eq0 : goal.kind-returns-then-room-eq0
kind-returns-then-room-eq0 t c = rw (type_none c.args.room c.args.lexemes.now c.if-room-eq0.true) c.plain_type.ensures

pub kind-returns-then-starts : goal.kind-returns-then-starts
kind-returns-then-starts t c = rw (type_open c.args.room c.args.lexemes.now c.starts.result (omega arith) c.starts.ensures c.if-starts.true) c.product.ensures

pub kind-returns : goal.kind-returns
kind-returns t c = rw (type_plain c.args.room c.args.lexemes.now c.starts.result c.starts.ensures c.if-starts.false) c.plain_type-2.ensures
