use Rattle.std.proofs.Common.{◌≡◌, drop}
use Rattle.std.specs.List.{list_all}
use Rattle.ascent_examples.specs.Rows.{is_row}
use Rattle.ascent_examples.proofs.rows.Rows.are_values.Given as goal

-- what is left decides
abbrev pub invariant-loop-step : goal.invariant-loop-step
invariant-loop-step g l =
    list_all (is_row (g.O.Order.is_value l.self.order)) l.self.steps ≡ list_all (is_row (g.O.Order.is_value l.self.order)) (drop l.step-index l.steps)
