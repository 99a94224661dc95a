use Rattle.name_table.proofs.OnePosetLemmas.{posets_same}
use Rattle.name_table.proofs.laws.files_have_one_list_of_posets.Goals as goal

pub returns : goal.returns
returns c = posets_same
