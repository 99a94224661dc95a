use Rattle.std.proofs.Common.{◌∙◌, ap, sym, length}
use Rattle.std.specs.List.{flat_map}
use Rattle.design_lexer.specs.declared.tree.RuleTree.{RuleTree}
use Rattle.name_index.specs.Names.{number_of}
use Rattle.unit_check.specs.Connection.{read}
use Rattle.unit_check.specs.Marks.{all_marked}
use Rattle.unit_check.proofs.MarkLemmas.{marked_next}
use Rattle.unit_check.proofs.marks.mark_read.Goals as goal
use Rattle.unit_check.proofs.marks.mark_read.Goals.{in-Above+in_ok-mark_expr-in-Above, in-Ignore+in_ok-mark-in-Ignore}

pub loop-rule-preserved : goal.loop-rule-preserved
loop-rule-preserved c =
    let find = number_of c.args.parts.now in
    let rules = c.args.rules.now in
    let marks = c.loop-rule.marks.items in
    let next = marked_next find read rules c.loop-rule.rule-index c.rule-item.result c.loop-rule-test.true c.rule-item.is marks c.match-rule.marks.items (all_marked find c.args.marks.now.items (flat_map read rules)) c.loop-rule.invariant.1 in
    elim c.match-rule.branch [
      | in-Above+in_ok-mark_expr-in-Above w ↦ (
        ap (λ v. length v.items) w.marks-is ∙ w.mark_expr.ensures.size ∙ c.loop-rule.invariant.0,
        next (ap (λ v. v.items) w.marks-is ∙ w.in_ok-mark_expr-in-Above.ensures.marked ∙ ap (λ (r : RuleTree). all_marked find marks (read r)) (sym w.in-Above.is)),
      )
      | in-Ignore+in_ok-mark-in-Ignore w ↦ (
        ap (λ v. length v.items) w.marks-is ∙ w.mark.ensures.size ∙ c.loop-rule.invariant.0,
        next (ap (λ v. v.items) w.marks-is ∙ w.in_ok-mark-in-Ignore.ensures.marked ∙ ap (λ (r : RuleTree). all_marked find marks (read r)) (sym w.in-Ignore.is)),
      )
    ]
