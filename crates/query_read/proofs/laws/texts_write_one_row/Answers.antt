use Rattle.query_read.proofs.RowLemmas.{rows_same}
use Rattle.query_read.proofs.laws.texts_write_one_row.Goals as goal

pub returns : goal.returns
returns c = rows_same
