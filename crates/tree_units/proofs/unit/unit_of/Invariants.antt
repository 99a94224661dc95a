use Rattle.std.proofs.Common.{◌≡◌, drop}
use Rattle.unit_core.specs.Measure.{measure}
use Rattle.tree_units.specs.Units.{measure_of, product_from}
use Rattle.tree_units.proofs.unit.unit_of.Given as goal

-- What is left decides.
abbrev pub invariant-loop-factor : goal.invariant-loop-factor
invariant-loop-factor l = measure_of l.at l.factors ≡ product_from l.at (measure l.unit) (drop l.factor-index l.factors)
