use Rattle.row_values.proofs.FindsLemmas.{never_cut}
use Rattle.row_values.proofs.table.cell.tokens_of.Goals as goal

pub returns-in-Err-BadToken : goal.returns-in-Err-BadToken
returns-in-Err-BadToken c = never_cut c.args.cell.now c.in-Err-BadToken.field-0 c.in-Err-BadToken.field-0-0 c.in-Err-BadToken.field-0-is c.in-Err-BadToken.ensures.refused
