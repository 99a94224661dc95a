use Rattle.std.proofs.Common.{◌+◌, ap, ap₂, List, ℕ, drop, sym, ◌∙◌, map}
use Rattle.design_measure.specs.Scales.{refer_value, value_of, weighed}
use Rattle.design_measure.specs.declared.form.Form.{Form}
use Rattle.design_measure.proofs.FormLemmas.{added_module, added_none, argument_added, argument_none, arguments_done, ok_weaker}
use Rattle.design_measure.proofs.LinearLemmas.{no_factor}
use Rattle.design_measure.proofs.forms.+add.Goals.{add_arguments-in-Some+in_ok-add_unless_none, add_arguments-in_default}
use Rattle.reference_meaning.specs.declared.module.Resolved.{Resolved}
use Rattle.design_measure.proofs.forms.+add.Goals as goal

pub add-returns-in-Some : goal.add-returns-in-Some
add-returns-in-Some g t c =
    ok_weaker c.add_arguments.result _ _
    (λ x h values. added_module (g.M.Measuring.measure c.args.measuring.now).scale (g.met.M.Measuring.laws c.args.measuring.now).scale c.args.forms.now values c.args.reference.now c.args.total.now c.add_arguments.new.total c.plus-total.result c.args.factor c.in-Module.number c.in-Module.arguments c.in-Some.form.now
    c.in-Module.is (sym c.in-Some.ensures) (c.plus-total.ensures ∙ ap ((g.M.Measuring.measure c.args.measuring.now).scale.plus c.args.total.now.constant) c.times-constant.ensures)
    (h values ∙ ap₂ (λ (fs : List ℕ) (rs : List Resolved). (g.M.Measuring.measure c.args.measuring.now).scale.plus (value_of (g.M.Measuring.measure c.args.measuring.now).scale (record { constant = c.plus-total.result; factors = c.args.total.now.factors }) values) ((g.M.Measuring.measure c.args.measuring.now).scale.times c.args.factor (weighed (g.M.Measuring.measure c.args.measuring.now).scale fs (map (refer_value (g.M.Measuring.measure c.args.measuring.now).scale c.args.forms.now values) rs)))) c.deref.ensures.value c.items.ensures))
    c.add_arguments.ensures

pub add-returns-in-None : goal.add-returns-in-None
add-returns-in-None g t c = λ values.
    added_none (g.M.Measuring.measure c.args.measuring.now).scale (g.met.M.Measuring.laws c.args.measuring.now).scale c.args.forms.now values c.args.reference.now c.args.total.now c.args.factor c.in-Module.number c.in-Module.arguments c.in-Module.is (sym c.in-None.ensures)

pub add_arguments-loop-at-preserved : goal.add_arguments-loop-at-preserved
add_arguments-loop-at-preserved g t c = λ values. elim c.match-argument_at.branch [
  | add_arguments-in-Some+in_ok-add_unless_none w ↦
      argument_added (g.M.Measuring.measure c.args.measuring.now).scale (g.met.M.Measuring.laws c.args.measuring.now).scale c.args.forms.now values c.args.factors.now c.args.arguments.now c.loop-at.at c.args.factor _ c.loop-at-test.true c.loop-at.total (c.loop-at.invariant values)
      w.in-Some.argument.now w.add_unless_none.new.total w.times-by.result w.in-Some.ensures w.times-by.ensures (w.in_ok-add_unless_none.ensures values)
      ∙ ap (λ (total : Form). (g.M.Measuring.measure c.args.measuring.now).scale.plus (value_of (g.M.Measuring.measure c.args.measuring.now).scale total values) ((g.M.Measuring.measure c.args.measuring.now).scale.times c.args.factor (weighed (g.M.Measuring.measure c.args.measuring.now).scale (drop (c.loop-at.at + 1) c.args.factors.now) (drop (c.loop-at.at + 1) (map (refer_value (g.M.Measuring.measure c.args.measuring.now).scale c.args.forms.now values) c.args.arguments.now))))) (sym w.total-is)
  | add_arguments-in_default w ↦
      argument_none (g.M.Measuring.measure c.args.measuring.now).scale (g.met.M.Measuring.laws c.args.measuring.now).scale c.args.forms.now values c.args.factors.now c.args.arguments.now c.loop-at.at c.args.factor _ c.loop-at-test.true c.loop-at.total (c.loop-at.invariant values) w.in_default.ensures
      ∙ ap (λ (total : Form). (g.M.Measuring.measure c.args.measuring.now).scale.plus (value_of (g.M.Measuring.measure c.args.measuring.now).scale total values) ((g.M.Measuring.measure c.args.measuring.now).scale.times c.args.factor (weighed (g.M.Measuring.measure c.args.measuring.now).scale (drop (c.loop-at.at + 1) c.args.factors.now) (drop (c.loop-at.at + 1) (map (refer_value (g.M.Measuring.measure c.args.measuring.now).scale c.args.forms.now values) c.args.arguments.now))))) (sym w.total-is)
]

pub add_arguments-returns : goal.add_arguments-returns
add_arguments-returns g t c = λ values.
    arguments_done (g.M.Measuring.measure c.args.measuring.now).scale (g.met.M.Measuring.laws c.args.measuring.now).scale c.loop-at.total values c.args.factors.now (map (refer_value (g.M.Measuring.measure c.args.measuring.now).scale c.args.forms.now values) c.args.arguments.now) c.loop-at.at c.args.factor _ c.loop-at-test.false (c.loop-at.invariant values)

pub add_unless_none-returns-then-factor-eq0 : goal.add_unless_none-returns-then-factor-eq0
add_unless_none-returns-then-factor-eq0 g t c = λ values.
    sym (ap (λ k. (g.M.Measuring.measure c.args.measuring.now).scale.plus (value_of (g.M.Measuring.measure c.args.measuring.now).scale c.args.total.now values) ((g.M.Measuring.measure c.args.measuring.now).scale.times k (refer_value (g.M.Measuring.measure c.args.measuring.now).scale c.args.forms.now values c.args.reference.now))) c.if-factor-eq0.true
    ∙ no_factor (g.M.Measuring.measure c.args.measuring.now).scale (g.met.M.Measuring.laws c.args.measuring.now).scale c.args.total.now.constant _ _)
