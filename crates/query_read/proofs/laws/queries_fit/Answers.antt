use Rattle.row_values.proofs.FitLemmas.{cells_fit}
use Rattle.query_read.proofs.laws.queries_fit.Goals as goal

pub returns : goal.returns
returns c = λ types rounding ports text row h named. cells_fit types rounding named ports h.trees row h.means
