use Rattle.std.proofs.Common.{◌-◌, ◌++◌, ap, ℕ, List, replicate, ◌∙◌, arith}
use Rattle.std.proofs.lemmas.List.{take_all}
use Rattle.std.specs.Vec.{vec_len}
use Rattle.design_measure.specs.Scales.{weighed}
use Rattle.design_measure.proofs.LinearLemmas.{grown}
use Rattle.design_measure.proofs.forms.grow.Goals as goal

pub returns-in_ok-resize-clause-same : goal.returns-in_ok-resize-clause-same
returns-in_ok-resize-clause-same c = λ a laws values. ap (λ (xs : List ℕ). weighed a xs values) c.in_ok-resize.ensures.items
    ∙ ap (λ (xs : List ℕ). weighed a (xs ++ replicate (c.args.size - vec_len c.args.factors.now) 0) values) (take_all c.args.size c.args.factors.now.items (omega (arith, c.if-len-size.true, c.len.ensures))) ∙ grown a laws c.args.factors.now.items (c.args.size - vec_len c.args.factors.now) values
