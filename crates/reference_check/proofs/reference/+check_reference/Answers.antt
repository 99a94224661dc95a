use Rattle.std.proofs.Common.{◌∙◌, ◌++◌, ap, sym, map, []}
use Rattle.std.proofs.lemmas.Result.{err_from_is_err_and}
use Rattle.std.specs.List.{flat_map}
use Rattle.std.specs.Option.{option_copied}
use Rattle.design_lexer.specs.declared.tree.ArgTree.{out-ArgTree}
use Rattle.design_lexer.specs.declared.tree.RefTree.{out-RefTree}
use Rattle.fault_list.specs.AnswersLaws.{answers_weaker, stopped_left}
use Rattle.fault_list.specs.FaultLaws.{first_left}
use Rattle.fault_list.specs.Faults.{first_fault}
use Rattle.name_index.specs.Places.{named_item}
use Rattle.reference_check.proofs.GivenLemmas.{flat_mapped, mapped_there, nothing_left}
use Rattle.reference_check.proofs.ScopeLemmas.{param_absent, param_there}
use Rattle.reference_check.proofs.ReferenceLemmas.{argument_done, argument_next, faults_of, match_next, nowhere, param_first, param_none, placed}
use Rattle.reference_check.specs.Fronts.{front_held, fronts_held, wanted_held}
use Rattle.reference_meaning.specs.Sources.{argument_of, arguments_of, name_of}
use Rattle.reference_rules.specs.ReferenceFaults.{argument_faults, given_faults, referred, unknown}
use Rattle.reference_rules.specs.ReferenceLaws.{argued}
use Rattle.reference_check.proofs.reference.+check_reference.Goals as goal

pub check_arguments-returns-in_err-check_reference : goal.check_arguments-returns-in_err-check_reference
check_arguments-returns-in_err-check_reference t c =
    let front = fronts_held c.args.scope.now.names.now.files c.args.scope.now.fronts.now in
    let params = map wanted_held c.args.scope.now.own.now.wanted in
    let held = c.args.callee.now.wanted in
    let a = c.argument-item.result in
    let p = err_from_is_err_and c.from_residual.result c.from_residual.ensures.1 in
    rw (p.1, p.2) (stopped_left {A = Unit {0}} {B = Unit {0}} (referred front params (argument_of a)).faults _ _ (λ _. Unit {0}) (λ _. Unit {0}) c.in_err-check_reference.field-0.0
    (flat_mapped (argument_faults (map wanted_held held)) (argued front params) c.args.arguments.now ∙ argument_next front params held c.args.arguments.now c.loop-argument.argument-index a c.loop-argument-test.true c.argument-item.is c.loop-argument.invariant)
    c.in_err-check_reference.ensures)

pub check_arguments-returns-in-Err : goal.check_arguments-returns-in-Err
check_arguments-returns-in-Err t c =
    let front = fronts_held c.args.scope.now.names.now.files c.args.scope.now.fronts.now in
    let params = map wanted_held c.args.scope.now.own.now.wanted in
    let held = c.args.callee.now.wanted in
    let a = c.argument-item.result in
    ap first_fault (flat_mapped (argument_faults (map wanted_held held)) (argued front params) c.args.arguments.now
    ∙ match_next front params held c.args.arguments.now c.loop-argument.argument-index a c.loop-argument-test.true c.argument-item.is c.loop-argument.invariant c.in_ok-check_reference.ensures.0)
    ∙ first_left c.in-Err.fault _ _ c.in-Err.ensures

pub check_arguments-loop-argument-preserved : goal.check_arguments-loop-argument-preserved
check_arguments-loop-argument-preserved t c =
    let front = fronts_held c.args.scope.now.names.now.files c.args.scope.now.fronts.now in
    let params = map wanted_held c.args.scope.now.own.now.wanted in
    argument_done front params c.args.callee.now.wanted c.args.arguments.now c.loop-argument.argument-index c.argument-item.result c.loop-argument-test.true c.argument-item.is c.loop-argument.invariant c.in_ok-check_reference.ensures.0 c.in-Ok.ensures.0

pub check_arguments-returns : goal.check_arguments-returns
check_arguments-returns t c =
    let front = fronts_held c.args.scope.now.names.now.files c.args.scope.now.fronts.now in
    let params = map wanted_held c.args.scope.now.own.now.wanted in (
      flat_mapped (argument_faults (map wanted_held c.args.callee.now.wanted)) (argued front params) c.args.arguments.now
          ∙ nothing_left (faults_of front params c.args.callee.now.wanted) c.args.arguments.now c.loop-argument.argument-index _ c.loop-argument-test.false c.loop-argument.invariant,
      tt,
    )

pub check_reference-returns-in-Ok : goal.check_reference-returns-in-Ok
check_reference-returns-in-Ok t c =
    let front = fronts_held c.args.scope.now.names.now.files c.args.scope.now.fronts.now in
    let held = c.args.scope.now.own.now.wanted in
    let q = c.args.reference.now in
    let w = param_there held (name_of q) (option_copied c.named.result) (c.named.ensures ∙ ap (named_item (λ w. w.name) held) c.as_str.ensures) (mapped_there _ c.named.result ∙ sym c.is_some.ensures ∙ c.if-is_some.true) in
    (param_none front (map wanted_held held) q w.0 w.1 ((λ i. flat_map (unknown []) (map (λ a. (out-ArgTree a).name) (sym c.items-arguments.ensures i))) ∙ c.in-Ok.ensures.0), tt)

pub check_reference-returns-in-Err : goal.check_reference-returns-in-Err
check_reference-returns-in-Err t c =
    let front = fronts_held c.args.scope.now.names.now.files c.args.scope.now.fronts.now in
    let held = c.args.scope.now.own.now.wanted in
    let q = c.args.reference.now in
    let w = param_there held (name_of q) (option_copied c.named.result) (c.named.ensures ∙ ap (named_item (λ w. w.name) held) c.as_str.ensures) (mapped_there _ c.named.result ∙ sym c.is_some.ensures ∙ c.if-is_some.true) in
    param_first front (map wanted_held held) q w.0 c.in-Err.fault w.1 ((λ i. first_fault (flat_map (unknown []) (map (λ a. (out-ArgTree a).name) (sym c.items-arguments.ensures i)))) ∙ c.in-Err.ensures)

pub check_reference-returns-in_err-check_given-in-Some : goal.check_reference-returns-in_err-check_given-in-Some
check_reference-returns-in_err-check_given-in-Some t c =
    let front = fronts_held c.args.scope.now.names.now.files c.args.scope.now.fronts.now in
    let held = c.args.scope.now.own.now.wanted in
    let params = map wanted_held held in
    let q = c.args.reference.now in
    let f = front_held c.in-Some.callee.now in
    let none = param_absent held (name_of q) (option_copied c.named.result) (c.named.ensures ∙ ap (named_item (λ w. w.name) held) c.as_str.ensures) (mapped_there _ c.named.result ∙ sym c.is_some.ensures ∙ c.if-is_some.false) in
    let there = ap front (sym c.as_str-2.ensures) ∙ sym c.in-Some.ensures in
    let p = err_from_is_err_and c.from_residual.result c.from_residual.ensures.1 in
    rw (p.1, p.2) (stopped_left {A = Unit {0}} {B = Unit {0}} (given_faults f.wanted (map (λ a. (out-ArgTree a).name) c.items-arguments.result.now) (out-RefTree q).name.at) (flat_map (argument_faults f.wanted) (map (argued front params) (arguments_of q))) (referred front params q).faults (λ _. Unit {0}) (λ _. Unit {0}) c.in_err-check_given-in-Some.field-0.0
    (placed front params q f none there ∙ (λ i. given_faults f.wanted (map (λ a. (out-ArgTree a).name) (sym c.items-arguments.ensures i)) (out-RefTree q).name.at ++ flat_map (argument_faults f.wanted) (map (argued front params) (arguments_of q))))
    c.in_err-check_given-in-Some.ensures)

pub check_reference-returns-in_ok-check_given-in-Some : goal.check_reference-returns-in_ok-check_given-in-Some
check_reference-returns-in_ok-check_given-in-Some t c =
    let front = fronts_held c.args.scope.now.names.now.files c.args.scope.now.fronts.now in
    let held = c.args.scope.now.own.now.wanted in
    let params = map wanted_held held in
    let q = c.args.reference.now in
    let f = front_held c.in-Some.callee.now in
    let none = param_absent held (name_of q) (option_copied c.named.result) (c.named.ensures ∙ ap (named_item (λ w. w.name) held) c.as_str.ensures) (mapped_there _ c.named.result ∙ sym c.is_some.ensures ∙ c.if-is_some.false) in
    let there = ap front (sym c.as_str-2.ensures) ∙ sym c.in-Some.ensures in
    answers_weaker {A = Unit {0}} (flat_map (argument_faults f.wanted) (map (argued front params) c.items-arguments.result.now)) (referred front params q).faults (λ _. Unit {0}) (λ _. Unit {0}) c.check_arguments.result
    (sym (placed front params q f none there
    ∙ (λ i. given_faults f.wanted (map (λ a. (out-ArgTree a).name) (sym c.items-arguments.ensures i)) (out-RefTree q).name.at ++ flat_map (argument_faults f.wanted) (map (argued front params) (sym c.items-arguments.ensures i)))
    ∙ ap (λ fs. fs ++ flat_map (argument_faults f.wanted) (map (argued front params) c.items-arguments.result.now)) c.in_ok-check_given-in-Some.ensures.0))
    (λ x h. h) c.check_arguments.ensures

pub check_reference-returns-in-None : goal.check_reference-returns-in-None
check_reference-returns-in-None t c =
    let front = fronts_held c.args.scope.now.names.now.files c.args.scope.now.fronts.now in
    let held = c.args.scope.now.own.now.wanted in
    let q = c.args.reference.now in
    nowhere front (map wanted_held held) q
    (param_absent held (name_of q) (option_copied c.named.result) (c.named.ensures ∙ ap (named_item (λ w. w.name) held) c.as_str.ensures) (mapped_there _ c.named.result ∙ sym c.is_some.ensures ∙ c.if-is_some.false))
    (ap front (sym c.as_str-2.ensures) ∙ sym c.in-None.ensures)
