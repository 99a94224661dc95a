use Rattle.library_files.proofs.FaultLemmas.{text_fault_same}
use Rattle.library_files.proofs.laws.texts_have_one_fault.Goals as goal

pub returns : goal.returns
returns c = text_fault_same
