use Rattle.design_lexer.specs.declared.tree.BranchTree.{BranchTree}
use Rattle.name_rules.specs.Twice.{reference_repeats}
use Rattle.name_rules.proofs.NoteLemmas.{left_next}
use Rattle.name_rules.proofs.references.note_twice_branches.Goals as goal

pub loop-branch-preserved : goal.loop-branch-preserved
loop-branch-preserved c =
    left_next (λ (b : BranchTree). reference_repeats b.reference) c.args.branches.now c.loop-branch.branch-index c.branch-item.result c.loop-branch-test.true c.branch-item.is
    c.loop-branch.first c.note_twice_arguments.new.first _ c.loop-branch.invariant c.in_ok-note_twice_arguments.ensures
