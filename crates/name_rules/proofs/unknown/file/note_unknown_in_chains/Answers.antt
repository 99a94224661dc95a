use Rattle.std.proofs.Common.{◌∙◌, ap, ℕ, Bool, List}
use Rattle.std.proofs.lemmas.List.{map-id}
use Rattle.design_lexer.specs.declared.tree.NameAt.{NameAt}
use Rattle.fault_list.specs.Faults.{earlier, least}
use Rattle.name_rules.specs.Twice.{is_listed}
use Rattle.name_rules.specs.Unknown.{unknown_names}
use Rattle.name_rules.proofs.NoteLemmas.{left_next}
use Rattle.name_rules.proofs.UnknownLemmas.{same_function}
use Rattle.name_rules.proofs.unknown.file.note_unknown_in_chains.Goals as goal

pub loop-chain-preserved : goal.loop-chain-preserved
loop-chain-preserved c =
    let elements = c.args.poset.now.elements in
    let first = c.loop-chain.first in
    let names = c.items-in-loop-chain.result.now in
    let same = same_function (λ (name : List ℕ). c.in_ok-elements.ensures name ∙ ap (λ (ns : List NameAt). is_listed ns name) (map-id c.items.result.now ∙ c.items.ensures)) in
    left_next (unknown_names (is_listed elements)) c.items-chain-items.result.now c.loop-chain.chain-index c.chain-item.result c.loop-chain-test.true c.chain-item.is
    first c.note_not_in.new.first _ c.loop-chain.invariant
    (c.note_not_in.ensures ∙ ap (λ (finds : List ℕ → Bool). earlier first (least (unknown_names finds names))) same ∙ ap (λ (ns : List NameAt). earlier first (least (unknown_names (is_listed elements) ns))) c.items-in-loop-chain.ensures)
