use Rattle.std.proofs.lemmas.Result.{err_from_is_err_and}
use Rattle.design_lexer.specs.declared.syntax.class.Class.TheVariants as class
use Rattle.design_lexer.specs.Syntax.Classes.{is}
use Rattle.design_lexer.specs.Syntax.LoopLaws.{goes_on, ends, is_done, smaller}
use Rattle.design_lexer.specs.Syntax.Parts.{none}
use Rattle.design_lexer.specs.Syntax.Words.{at_end}
use Rattle.design_parser.specs.Grammar.{Row}
use Rattle.design_parser.specs.Readers.{row_at, listed_rows_at}
use Rattle.design_parser.proofs.BodyParts.{row_item}
use Rattle.design_parser.proofs.bodies.listed_rows.Goals as goal

pub returns-in_err-row : goal.returns-in_err-row
returns-in_err-row c =
    let p = err_from_is_err_and c.from_residual.result c.from_residual.ensures.1 in
    rw (p.1, p.2) (ends at_end none (is class.Row) Row row_at row_item c.in_err-row.field-0.0 c.starts.result c.loop-alloc.rows.items c.loop-alloc.lexemes (listed_rows_at c.args.lexemes.now)
    c.starts.ensures c.loop-alloc-test.true c.in_err-row.ensures c.loop-alloc.invariant)

pub loop-alloc-smaller : goal.loop-alloc-smaller
loop-alloc-smaller c = smaller none (is class.Row) Row row_at row_item c.starts.result c.loop-alloc.lexemes c.row.new.lexemes c.in_ok-row.field-0 c.starts.ensures c.loop-alloc-test.true c.in_ok-row.ensures

pub loop-alloc-preserved : goal.loop-alloc-preserved
loop-alloc-preserved c =
    goes_on at_end none (is class.Row) Row row_at row_item c.starts.result c.loop-alloc.rows.items c.push.new.self.items c.loop-alloc.lexemes c.row.new.lexemes c.in_ok-row.field-0 (listed_rows_at c.args.lexemes.now)
    c.starts.ensures c.loop-alloc-test.true c.in_ok-row.ensures c.in_ok-push.ensures.items c.loop-alloc.invariant

pub returns : goal.returns
returns c = rw (c.of.ensures, c.shrink_to_fit.ensures.items) (is_done at_end (is class.Row) row_at c.starts.result c.loop-alloc.rows.items c.loop-alloc.lexemes (listed_rows_at c.args.lexemes.now) c.starts.ensures c.loop-alloc-test.false c.loop-alloc.invariant)
