use Rattle.name_index.specs.NameLaws.{number_with}
use Rattle.name_index.proofs.laws.names_keep_their_first_number.Goals as goal

pub returns : goal.returns
returns c = number_with
