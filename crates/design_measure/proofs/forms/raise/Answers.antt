use Rattle.std.proofs.Common.{ap, ◌∙◌, set}
use Rattle.std.proofs.lemmas.Option.{slice_get-get_or}
use Rattle.design_measure.specs.Scales.{weighed}
use Rattle.design_measure.proofs.LinearLemmas.{raised}
use Rattle.design_measure.proofs.forms.raise.Goals as goal

pub returns : goal.returns
returns g c = λ values.
    ap (λ x. weighed (g.M.Measuring.measure c.args.measuring.now).scale (set c.args.factors.now c.args.number x) values) c.plus.ensures
    ∙ raised (g.M.Measuring.measure c.args.measuring.now).scale (g.met.M.Measuring.laws c.args.measuring.now).scale c.args.factors.now c.args.number c.args.factor _ values (slice_get-get_or c.args.factors.now c.args.number 0 c.requires)
