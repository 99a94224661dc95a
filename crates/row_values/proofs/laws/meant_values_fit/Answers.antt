use Rattle.std.specs.Prelude.{[]}
use Rattle.row_values.proofs.FitLemmas.{rows_typed, table_typed, values_fit}
use Rattle.row_values.proofs.laws.meant_values_fit.Goals as goal

pub returns-clause-values : goal.returns-clause-values
returns-clause-values c = λ types rounding kind tree v named e. values_fit types rounding named kind tree v e

pub returns-clause-rows : goal.returns-clause-rows
returns-clause-rows c = λ types provides requires_ trees rows named e. rows_typed types named provides requires_ trees rows e

pub returns-clause-tables : goal.returns-clause-tables
returns-clause-tables c = λ types provides requires_ bytes rows named h. table_typed types named provides requires_ [] h.records rows h.are_rows
