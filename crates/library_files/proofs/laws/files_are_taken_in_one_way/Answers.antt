use Rattle.library_files.proofs.TakenLemmas.{some_taken}
use Rattle.library_files.proofs.OneWayLemmas.{taken_same}
use Rattle.library_files.proofs.laws.files_are_taken_in_one_way.Goals as goal

pub returns : goal.returns
returns c = record { some = some_taken; one = taken_same }
