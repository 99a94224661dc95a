use Rattle.library_load.proofs.LoadedLemmas.{not_gathered}
use Rattle.library_load.proofs.loading.load.Goals as goal

pub returns-in-Err-clause-loaded : goal.returns-in-Err-clause-loaded
returns-in-Err-clause-loaded g c = λ files told. let gathered = c.in-Err.ensures.gathered files told in not_gathered files gathered.0 gathered.1 c.in-Err.fault gathered.2
