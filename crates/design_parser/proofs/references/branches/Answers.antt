use Rattle.std.proofs.lemmas.Result.{err_from_is_err_and}
use Rattle.design_lexer.specs.declared.syntax.class.Class.TheVariants as class
use Rattle.design_lexer.specs.Syntax.Classes.{is}
use Rattle.design_lexer.specs.Syntax.LoopLaws.{goes_on, ends, is_done, smaller}
use Rattle.design_lexer.specs.Syntax.Parts.{none}
use Rattle.design_lexer.specs.Syntax.Words.{at_end}
use Rattle.design_parser.specs.Grammar.{Branch}
use Rattle.design_parser.specs.Readers.{branch_at, branches_at}
use Rattle.design_parser.proofs.BodyParts.{branch_item}
use Rattle.design_parser.proofs.references.branches.Goals as goal

pub returns-in_err-branch-2 : goal.returns-in_err-branch-2
returns-in_err-branch-2 c =
    let p = err_from_is_err_and c.from_residual-in_err-branch-2.result c.from_residual-in_err-branch-2.ensures.1 in
    rw (p.1, p.2) (ends at_end none (is class.Name) Branch branch_at branch_item c.in_err-branch-2.field-0.0 c.starts.result c.loop-alloc.branches.items c.loop-alloc.lexemes (branches_at c.args.lexemes.now)
    c.starts.ensures c.loop-alloc-test.true c.in_err-branch-2.ensures c.loop-alloc.invariant)

pub loop-alloc-smaller : goal.loop-alloc-smaller
loop-alloc-smaller c = smaller none (is class.Name) Branch branch_at branch_item c.starts.result c.loop-alloc.lexemes c.branch-alloc-in-loop-alloc.new.lexemes c.in_ok-branch-2.field-0 c.starts.ensures c.loop-alloc-test.true c.in_ok-branch-2.ensures

pub loop-alloc-preserved : goal.loop-alloc-preserved
loop-alloc-preserved c =
    goes_on at_end none (is class.Name) Branch branch_at branch_item c.starts.result c.loop-alloc.branches.items c.push-in-loop-alloc.new.self.items c.loop-alloc.lexemes c.branch-alloc-in-loop-alloc.new.lexemes c.in_ok-branch-2.field-0 (branches_at c.args.lexemes.now)
    c.starts.ensures c.loop-alloc-test.true c.in_ok-branch-2.ensures c.in_ok-push-2.ensures.items c.loop-alloc.invariant

pub returns : goal.returns
returns c = rw c.of.ensures (is_done at_end (is class.Name) branch_at c.starts.result c.loop-alloc.branches.items c.loop-alloc.lexemes (branches_at c.args.lexemes.now) c.starts.ensures c.loop-alloc-test.false c.loop-alloc.invariant)
