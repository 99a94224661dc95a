use Rattle.library_files.proofs.BranchLemmas.{all_branched}
use Rattle.library_files.proofs.laws.parsed_choices_have_branches.Goals as goal

pub returns : goal.returns
returns c = all_branched
