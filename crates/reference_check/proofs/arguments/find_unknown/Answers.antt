use Rattle.std.proofs.Common.{◌∙◌, ap, map}
use Rattle.std.specs.Option.{option_copied}
use Rattle.design_lexer.specs.declared.tree.ArgTree.{ArgTree, out-ArgTree}
use Rattle.fault_list.specs.Faults.{first_fault}
use Rattle.fault_list.specs.RestLaws.{rest_first, rest_none}
use Rattle.name_index.specs.Places.{named_item}
use Rattle.reference_check.proofs.GivenLemmas.{flat_mapped, mapped_there, nothing_left, unknown_none, unknown_one}
use Rattle.reference_check.specs.Fronts.{wanted_held}
use Rattle.reference_rules.specs.ReferenceFaults.{unknown, unknown_argument}
use Rattle.reference_check.proofs.arguments.find_unknown.Goals as goal

pub returns-then-is_none : goal.returns-then-is_none
returns-then-is_none c =
    let wanted = c.args.wanted.now.wanted in
    let a = c.argument-item.result in
    let named = c.named.ensures ∙ ap (named_item (λ w. w.name) wanted) c.as_str.ensures in
    ap first_fault (flat_mapped (unknown (map wanted_held wanted)) (λ (a : ArgTree). (out-ArgTree a).name) c.args.arguments.now)
    ∙ rest_first (λ a. unknown (map wanted_held wanted) (out-ArgTree a).name) c.args.arguments.now c.loop-argument.argument-index a c.loop-argument-test.true c.argument-item.is _ c.loop-argument.invariant (unknown_argument (out-ArgTree a).name)
    (unknown_one wanted a (option_copied c.named.result) named (mapped_there _ c.named.result ∙ c.if-is_none.ensures))

pub loop-argument-preserved : goal.loop-argument-preserved
loop-argument-preserved c =
    let wanted = c.args.wanted.now.wanted in
    let a = c.argument-item.result in
    let named = c.named.ensures ∙ ap (named_item (λ w. w.name) wanted) c.as_str.ensures in
    rest_none (λ a. unknown (map wanted_held wanted) (out-ArgTree a).name) c.args.arguments.now c.loop-argument.argument-index a c.loop-argument-test.true c.argument-item.is _ c.loop-argument.invariant
    (unknown_none wanted a (option_copied c.named.result) named (mapped_there _ c.named.result ∙ c.if-is_none.ensures))

pub returns : goal.returns
returns c = (
  flat_mapped (unknown (map wanted_held c.args.wanted.now.wanted)) (λ (a : ArgTree). (out-ArgTree a).name) c.args.arguments.now
      ∙ nothing_left (λ a. unknown (map wanted_held c.args.wanted.now.wanted) (out-ArgTree a).name) c.args.arguments.now c.loop-argument.argument-index _ c.loop-argument-test.false c.loop-argument.invariant,
  tt,
)
