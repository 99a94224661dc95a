use Rattle.std.proofs.Common.{◌≡◌, ℕ, List, drop, map}
use Rattle.design_measure.specs.Scales.{refer_value, value_of, weighed}
use Rattle.design_measure.proofs.forms.+add.Given as goal

-- What is added, and what is left, are all of it.
abbrev pub invariant-add_arguments-loop-at : goal.invariant-add_arguments-loop-at
invariant-add_arguments-loop-at g l =
    (values : List ℕ) → (g.M.Measuring.measure l.measuring).scale.plus (value_of (g.M.Measuring.measure l.measuring).scale l.fn.total values) ((g.M.Measuring.measure l.measuring).scale.times l.factor (weighed (g.M.Measuring.measure l.measuring).scale l.factors (map (refer_value (g.M.Measuring.measure l.measuring).scale l.forms values) l.arguments)))
    ≡ (g.M.Measuring.measure l.measuring).scale.plus (value_of (g.M.Measuring.measure l.measuring).scale l.total values) ((g.M.Measuring.measure l.measuring).scale.times l.factor (weighed (g.M.Measuring.measure l.measuring).scale (drop l.at l.factors) (drop l.at (map (refer_value (g.M.Measuring.measure l.measuring).scale l.forms values) l.arguments))))
