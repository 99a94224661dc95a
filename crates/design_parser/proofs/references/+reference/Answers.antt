use Rattle.std.proofs.Common.{arith}
use Rattle.std.proofs.lemmas.Result.{err_from_is_err_and}
use Rattle.design_lexer.specs.declared.syntax.class.Class.TheVariants as class
use Rattle.design_lexer.specs.Syntax.Classes.{is, one_of}
use Rattle.design_lexer.specs.Syntax.LoopLaws.{goes_on_after, ends_after, is_done, smaller_after}
use Rattle.design_lexer.specs.Syntax.Reading.{sym_at, listed_at}
use Rattle.design_lexer.specs.Syntax.Words.{at_end}
use Rattle.design_parser.specs.Grammar.{Arg, Ref}
use Rattle.design_parser.specs.Readers.{arg_at, ref_at}
use Rattle.design_parser.proofs.BodyParts.{ref_on, arg_part, ref_part}
use Rattle.design_parser.proofs.Rooms.{ref_none, ref_open}
use Rattle.design_parser.proofs.references.+reference.Goals as goal

pub listed_arguments-returns-in_err-argument-2 : goal.listed_arguments-returns-in_err-argument-2
listed_arguments-returns-in_err-argument-2 t c =
    let p = err_from_is_err_and c.from_residual-in_err-argument-2.result c.from_residual-in_err-argument-2.ensures.1 in
    rw (p.1, p.2) (ends_after at_end (one_of ref_on) class.Comma (Arg (Ref c.args.room)) (arg_at (ref_at c.args.room)) (arg_part (Ref c.args.room) (ref_at c.args.room) (ref_part c.args.room)) c.in_err-argument-2.field-0.0 c.starts.result c.loop-alloc.arguments.items c.loop-alloc.lexemes c.skip.new.self (listed_at class.Comma (arg_at (ref_at c.args.room)) c.args.lexemes.now)
    c.starts.ensures c.loop-alloc-test.true c.skip.ensures c.in_err-argument-2.ensures c.loop-alloc.invariant)

pub listed_arguments-loop-alloc-smaller : goal.listed_arguments-loop-alloc-smaller
listed_arguments-loop-alloc-smaller t c =
    smaller_after (one_of ref_on) class.Comma (Arg (Ref c.args.room)) (arg_at (ref_at c.args.room)) (arg_part (Ref c.args.room) (ref_at c.args.room) (ref_part c.args.room)) c.starts.result c.loop-alloc.lexemes c.skip.new.self c.argument-in-loop-alloc.new.lexemes c.in_ok-argument-2.field-0
    c.starts.ensures c.loop-alloc-test.true c.skip.ensures c.in_ok-argument-2.ensures

pub listed_arguments-loop-alloc-preserved : goal.listed_arguments-loop-alloc-preserved
listed_arguments-loop-alloc-preserved t c =
    goes_on_after at_end (one_of ref_on) class.Comma (Arg (Ref c.args.room)) (arg_at (ref_at c.args.room)) (arg_part (Ref c.args.room) (ref_at c.args.room) (ref_part c.args.room)) c.starts.result c.loop-alloc.arguments.items c.push-in-loop-alloc.new.self.items c.loop-alloc.lexemes c.skip.new.self c.argument-in-loop-alloc.new.lexemes c.in_ok-argument-2.field-0 (listed_at class.Comma (arg_at (ref_at c.args.room)) c.args.lexemes.now)
    c.starts.ensures c.loop-alloc-test.true c.skip.ensures c.in_ok-argument-2.ensures c.in_ok-push-2.ensures.items c.loop-alloc.invariant

pub listed_arguments-returns : goal.listed_arguments-returns
listed_arguments-returns t c = is_done at_end (is class.Comma) (sym_at class.Comma (arg_at (ref_at c.args.room))) c.starts.result c.loop-alloc.arguments.items c.loop-alloc.lexemes (listed_at class.Comma (arg_at (ref_at c.args.room)) c.args.lexemes.now) c.starts.ensures c.loop-alloc-test.false c.loop-alloc.invariant

pub reference-returns-then-room-eq0 : goal.reference-returns-then-room-eq0
reference-returns-then-room-eq0 t c = rw (ref_none c.args.room c.args.lexemes.now c.if-room-eq0.true) c.plain_reference.ensures

pub reference-returns : goal.reference-returns
reference-returns t c = rw (ref_open c.args.room c.args.lexemes.now (omega arith)) c.full_reference.ensures
