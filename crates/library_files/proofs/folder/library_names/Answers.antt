use Rattle.std.proofs.Common.{subst, List, ℕ}
use Rattle.std.specs.List.Sorted.{IsPermutation}
use Rattle.library_files.proofs.TakenLemmas.{listed_recognised}
use Rattle.library_files.proofs.folder.library_names.Goals as goal

pub returns-in-Ok-clause-recognised : goal.returns-in-Ok-clause-recognised
returns-in-Ok-clause-recognised g c = listed_recognised c.into_vec-names.result.items c.sort_names.new.names.items (subst (λ (names : List (List ℕ)). IsPermutation names c.sort_names.new.names.items) c.in-Ok.ensures c.sort_names.ensures.permutation)
