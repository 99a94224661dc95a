use Rattle.row_values.proofs.OnceLemmas.{tables_same}
use Rattle.row_values.proofs.laws.tables_mean_one_list_of_rows.Goals as goal

pub returns : goal.returns
returns c = λ types provides requires_ bytes rows others h k. tables_same types provides requires_ bytes rows others h k
