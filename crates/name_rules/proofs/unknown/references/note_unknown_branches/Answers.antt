use Rattle.std.proofs.Common.{◌∙◌, ap, ℕ, Bool, ◌||◌, List}
use Rattle.design_lexer.specs.declared.tree.BranchTree.{BranchTree}
use Rattle.fault_list.specs.Faults.{earlier, least}
use Rattle.name_rules.specs.References.{reference_names}
use Rattle.name_rules.specs.Unknown.{reference_unknown, unknown_names}
use Rattle.name_rules.proofs.NoteLemmas.{left_next}
use Rattle.name_rules.proofs.UnknownLemmas.{same_function}
use Rattle.name_rules.proofs.unknown.references.note_unknown_branches.Goals as goal

pub loop-branch-preserved : goal.loop-branch-preserved
loop-branch-preserved g c =
    let known = g.L.Library.known c.args.library.now in
    let branch = c.branch-item.result in
    let first = c.loop-branch.first in
    let same = same_function (λ (name : List ℕ). ap (λ (there : Bool). there || known.design name) (c.in_ok-names.ensures name)) in
    left_next (λ (b : BranchTree). reference_unknown known c.args.params.now b.reference) c.args.branches.now c.loop-branch.branch-index branch c.loop-branch-test.true c.branch-item.is
    first c.note_unknown_reference.new.first _ c.loop-branch.invariant
    (c.note_unknown_reference.ensures ∙ ap (λ (finds : List ℕ → Bool). earlier first (least (unknown_names finds (reference_names branch.reference)))) same)
