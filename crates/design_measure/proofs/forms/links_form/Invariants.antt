use Rattle.std.proofs.Common.{◌≡◌, ℕ, List, drop}
use Rattle.design_measure.specs.Scales.{links_value, value_of}
use Rattle.design_measure.proofs.forms.links_form.Given as goal

-- What is added, and what is left, are all of it.
abbrev pub invariant-loop-link : goal.invariant-loop-link
invariant-loop-link g l =
    (values : List ℕ) → (g.M.Measuring.measure l.measuring).scale.plus l.own ((g.M.Measuring.measure l.measuring).scale.times l.step (links_value (g.M.Measuring.measure l.measuring).scale l.forms values l.links))
    ≡ (g.M.Measuring.measure l.measuring).scale.plus (value_of (g.M.Measuring.measure l.measuring).scale l.total values) ((g.M.Measuring.measure l.measuring).scale.times l.step (links_value (g.M.Measuring.measure l.measuring).scale l.forms values (drop l.link-index l.links)))
