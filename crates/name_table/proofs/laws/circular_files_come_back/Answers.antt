use Rattle.std.specs.Prelude.{length}
use Rattle.name_table.proofs.ReferenceLemmas.{references_below}
use Rattle.name_table.specs.References.{references}
use Rattle.reachability.specs.LeadsLaws.{leads_reaches}
use Rattle.name_table.proofs.laws.circular_files_come_back.Goals as goal

pub returns : goal.returns
returns c = λ files i. leads_reaches (references files) (length files) (references_below files) i i
