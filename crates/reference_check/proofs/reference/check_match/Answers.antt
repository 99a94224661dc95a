use Rattle.std.proofs.Common.{◌∙◌, ap, map}
use Rattle.std.specs.Prelude.{not}
use Rattle.design_lexer.specs.declared.tree.ArgTree.{out-ArgTree}
use Rattle.design_lexer.specs.declared.tree.RefTree.{out-RefTree}
use Rattle.fault_list.specs.Faults.{fault_if, first_fault}
use Rattle.fault_list.specs.declared.fault.Fault.{Fault}
use Rattle.fault_list.specs.declared.fault.FaultKind.TheVariants.{PortsDiffer}
use Rattle.name_index.specs.Places.{named_item}
use Rattle.reference_check.proofs.ReferenceLemmas.{match_by, match_none}
use Rattle.reference_check.specs.Fronts.{fronts_held, sides_outlined, wanted_held}
use Rattle.reference_meaning.specs.Sources.{argument_of}
use Rattle.reference_rules.specs.Outlines.{same_outlines}
use Rattle.reference_rules.specs.ReferenceFaults.{param_named, ports_by}
use Rattle.side_ports.specs.Held.{sides_held}
use Rattle.reference_check.proofs.reference.check_match.Goals as goal

pub returns-in_default : goal.returns-in_default
returns-in_default c = (match_none (fronts_held c.args.scope.now.names.now.files c.args.scope.now.fronts.now) (map wanted_held c.args.scope.now.own.now.wanted) c.args.callee.now.wanted (out-ArgTree c.args.argument.now).name.name _ (c.in_default.ensures ∙ ap (named_item (λ w. w.name) c.args.callee.now.wanted) c.as_str.ensures), tt)

pub returns-then-not-matches_interface : goal.returns-then-not-matches_interface
returns-then-not-matches_interface c =
    let front = fronts_held c.args.scope.now.names.now.files c.args.scope.now.fronts.now in
    let params = map wanted_held c.args.scope.now.own.now.wanted in
    let q = argument_of c.args.argument.now in
    ap first_fault (match_by front params c.args.callee.now.wanted (out-ArgTree c.args.argument.now).name.name q c.in-Some.parameter.now c.matches_interface.result
    (c.in-Some.ensures ∙ ap (named_item (λ w. w.name) c.args.callee.now.wanted) c.as_str.ensures)
    (c.matches_interface.ensures ∙ (λ i. same_outlines (sides_outlined (sides_held (c.get.ensures i))) (ports_by front (param_named params (c.as_str-2.ensures i)) (c.as_str-2.ensures i))))
    ∙ ap (λ t. fault_if {F = Fault} (not t) (record { kind = PortsDiffer; at = (out-RefTree q).name.at })) c.if-not-matches_interface.true)

pub returns : goal.returns
returns c =
    let front = fronts_held c.args.scope.now.names.now.files c.args.scope.now.fronts.now in
    let params = map wanted_held c.args.scope.now.own.now.wanted in
    let q = argument_of c.args.argument.now in (
      match_by front params c.args.callee.now.wanted (out-ArgTree c.args.argument.now).name.name q c.in-Some.parameter.now c.matches_interface.result
          (c.in-Some.ensures ∙ ap (named_item (λ w. w.name) c.args.callee.now.wanted) c.as_str.ensures)
          (c.matches_interface.ensures ∙ (λ i. same_outlines (sides_outlined (sides_held (c.get.ensures i))) (ports_by front (param_named params (c.as_str-2.ensures i)) (c.as_str-2.ensures i))))
          ∙ ap (λ t. fault_if {F = Fault} (not t) (record { kind = PortsDiffer; at = (out-RefTree q).name.at })) c.if-not-matches_interface.false,
      tt,
    )
