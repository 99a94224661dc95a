use Rattle.std.proofs.Common.{◌≡◌, ◌∙◌, refl, sym, ap, ℕ, ◌||◌, List}
use Rattle.std.specs.List.{flat_map}
use Rattle.std.specs.Prelude.{is_some}
use Rattle.design_lexer.specs.declared.tree.ArgTree.{ArgTree, out-ArgTree}
use Rattle.design_lexer.specs.declared.tree.RefTree.{out-RefTree}
use Rattle.fault_list.specs.Faults.{earlier, least}
use Rattle.fault_list.specs.declared.fault.Fault.{Fault}
use Rattle.name_index.specs.Names.{number_of}
use Rattle.name_rules.specs.References.{reference_names}
use Rattle.name_rules.specs.Unknown.{unknown_names, unknown_unless}
use Rattle.name_rules.proofs.NoteLemmas.{noted_both, left_next}
use Rattle.name_rules.proofs.UnknownLemmas.{reference_unknown_is}
use Rattle.name_rules.proofs.unknown.references.+note_unknown_reference.Goals as goal

pub loop-argument-init : goal.loop-argument-init
loop-argument-init g t c =
    let finds = λ (name : List ℕ). is_some (number_of c.args.params.now name) || (g.L.Library.known c.args.library.now).design name in
    let r = c.args.reference.now in
    let name = (out-RefTree r).name in
    let first = c.args.first.now in
    let middle = c.note_unless.new.first in
    let within = flat_map (λ (a : ArgTree). unknown_names finds (reference_names (out-ArgTree a).reference)) (out-RefTree r).arguments in
    let told : c.leads_on-found.result ≡ finds name.name = rw c.as_str.ensures at c.leads_on-found.ensures in
    let noted : middle ≡ earlier first (least (unknown_unless finds name)) = rw told at c.note_unless.ensures in
    ap (λ (xs : List ArgTree). earlier middle (least (flat_map (λ (a : ArgTree). unknown_names finds (reference_names (out-ArgTree a).reference)) xs))) c.items-argument-items.ensures
    ∙ noted_both (unknown_unless finds name) within first middle (earlier middle (least within)) noted refl ∙ ap (λ (xs : List Fault). earlier first (least xs)) (sym (reference_unknown_is finds r))

pub loop-argument-preserved : goal.loop-argument-preserved
loop-argument-preserved g t c =
    let finds = λ (name : List ℕ). is_some (number_of c.args.params.now name) || (g.L.Library.known c.args.library.now).design name in
    left_next (λ (a : ArgTree). unknown_names finds (reference_names (out-ArgTree a).reference)) c.items-argument-items.result.now c.loop-argument.argument-index c.argument-item.result c.loop-argument-test.true c.argument-item.is
    c.loop-argument.first c.note_unknown_reference.new.first _ c.loop-argument.invariant c.note_unknown_reference.ensures
