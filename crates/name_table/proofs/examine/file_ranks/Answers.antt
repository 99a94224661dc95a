use Rattle.std.proofs.Common.{◌≡◌, ◌∙◌, sym, subst, ℕ, IsTrue, List, length}
use Rattle.std.specs.List.{list_all}
use Rattle.fault_list.specs.Answers.{Answers}
use Rattle.name_table.proofs.ReferenceLemmas.{references_below}
use Rattle.name_table.specs.Ranks.{AreRanks}
use Rattle.name_table.specs.References.{circular_from, references, references_from}
use Rattle.order_core.specs.Walk.{is_pair_below}
use Rattle.name_table.proofs.examine.file_ranks.Goals as goal

pub ranks_of-requires-clause-pairs : goal.ranks_of-requires-clause-pairs
ranks_of-requires-clause-pairs c =
    let files = c.args.files.now in
    let pairs : c.as_slice.result.now ≡ references files = c.as_slice.ensures.value ∙ c.in_ok-pairs.ensures ∙ (λ i. references_from (λ stem. c.requires.designs stem i) 0 files) in
    subst (λ (ps : List (ℕ × ℕ)). IsTrue (list_all (is_pair_below (length files)) ps)) (sym pairs) (references_below files)

pub returns : goal.returns
returns c =
    let files = c.args.files.now in
    let pairs : c.as_slice.result.now ≡ references files = c.as_slice.ensures.value ∙ c.in_ok-pairs.ensures ∙ (λ i. references_from (λ stem. c.requires.designs stem i) 0 files) in
    subst (λ (ps : List (ℕ × ℕ)). Answers (circular_from ps (length files) 0 files) (AreRanks (length files) ps) c.ranks_of.result) pairs c.ranks_of.ensures
