use Rattle.name_rules.specs.Unknown.{rule_unknown}
use Rattle.name_rules.proofs.NoteLemmas.{left_next}
use Rattle.name_rules.proofs.unknown.expressions.note_unknown_in_rules.Goals as goal

pub loop-rule-preserved : goal.loop-rule-preserved
loop-rule-preserved g c =
    left_next (rule_unknown (g.L.Library.known c.args.library.now)) c.args.rules.now c.loop-rule.rule-index c.rule-item.result c.loop-rule-test.true c.rule-item.is
    c.loop-rule.first c.note_unknown_in_rule.new.first _ c.loop-rule.invariant c.note_unknown_in_rule.ensures
