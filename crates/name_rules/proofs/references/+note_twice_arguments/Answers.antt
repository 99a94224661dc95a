use Rattle.std.proofs.Common.{◌≡◌, ◌∙◌, refl, sym, ap, List, [], map}
use Rattle.std.specs.List.{flat_map}
use Rattle.design_lexer.specs.declared.tree.ArgTree.{ArgTree, out-ArgTree}
use Rattle.design_lexer.specs.declared.tree.RefTree.{out-RefTree}
use Rattle.fault_list.specs.Faults.{earlier, least}
use Rattle.fault_list.specs.declared.fault.Fault.{Fault}
use Rattle.name_rules.specs.Twice.{reference_repeats, repeats}
use Rattle.name_rules.proofs.NoteLemmas.{noted_both, left_next}
use Rattle.name_rules.proofs.ReferenceLemmas.{reference_is}
use Rattle.name_rules.proofs.references.+note_twice_arguments.Goals as goal

pub loop-argument-init : goal.loop-argument-init
loop-argument-init t c =
    let r = c.args.reference.now in
    let first = c.args.first.now in
    let middle = c.note_twice.new.first in
    let arguments = (out-RefTree r).arguments in
    let names = repeats [] (map (λ (a : ArgTree). (out-ArgTree a).name) arguments) in
    let within = flat_map (λ (a : ArgTree). reference_repeats (out-ArgTree a).reference) arguments in
    let noted : middle ≡ earlier first (least names) = c.in_ok-note_twice.ensures ∙ ap (λ (xs : List ArgTree). earlier first (least (repeats [] (map (λ (a : ArgTree). (out-ArgTree a).name) xs)))) c.items.ensures in
    ap (λ (xs : List ArgTree). earlier middle (least (flat_map (λ (a : ArgTree). reference_repeats (out-ArgTree a).reference) xs))) c.items-argument-items.ensures
    ∙ noted_both names within first middle (earlier middle (least within)) noted refl ∙ ap (λ (xs : List Fault). earlier first (least xs)) (sym (reference_is r))

pub loop-argument-preserved : goal.loop-argument-preserved
loop-argument-preserved t c =
    left_next (λ (a : ArgTree). reference_repeats (out-ArgTree a).reference) c.items-argument-items.result.now c.loop-argument.argument-index c.argument-item.result c.loop-argument-test.true c.argument-item.is
    c.loop-argument.first c.note_twice_arguments.new.first _ c.loop-argument.invariant c.in_ok-note_twice_arguments.ensures
