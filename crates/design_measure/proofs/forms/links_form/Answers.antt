use Rattle.std.proofs.Common.{ap, ◌∙◌}
use Rattle.design_measure.specs.Scales.{links_value}
use Rattle.design_measure.proofs.FormLemmas.{link_added, links_done}
use Rattle.design_measure.proofs.forms.links_form.Goals as goal

pub loop-link-preserved : goal.loop-link-preserved
loop-link-preserved g c = λ values.
    link_added (g.M.Measuring.measure c.args.measuring.now).scale (g.met.M.Measuring.laws c.args.measuring.now).scale c.args.forms.now values c.args.links.now c.loop-link.link-index c.step-step.result _ c.link-item.result c.loop-link.total c.add.new.total
    c.loop-link-test.true c.link-item.is (c.loop-link.invariant values) (c.in_ok-add.ensures values)

pub returns : goal.returns
returns g c = λ values.
    links_done (g.M.Measuring.measure c.args.measuring.now).scale (g.met.M.Measuring.laws c.args.measuring.now).scale c.args.forms.now values c.args.links.now c.loop-link.link-index c.step-step.result _ c.loop-link.total c.loop-link-test.false (c.loop-link.invariant values)
    ∙ ap (λ s. (g.M.Measuring.measure c.args.measuring.now).scale.plus c.args.own ((g.M.Measuring.measure c.args.measuring.now).scale.times s (links_value (g.M.Measuring.measure c.args.measuring.now).scale c.args.forms.now values c.args.links.now))) c.step-step.ensures
