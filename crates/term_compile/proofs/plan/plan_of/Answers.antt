use Rattle.std.proofs.Common.{◌≡◌, ◌++◌, ◌∙◌, ap, ◌+◌, length, map, refl, rules}
use Rattle.std.proofs.lemmas.List.{length-map}
use Rattle.cut_plan.specs.CutReads.{signal_at}
use Rattle.cut_plan.specs.Nets.{net_in}
use Rattle.cut_plan.specs.NetsLaws.{net_is}
use Rattle.design_model.specs.Cuts.{cut_signals}
use Rattle.design_model.specs.Evaluation.{evaluation_order}
use Rattle.design_model.specs.Steady.{wiring}
use Rattle.design_model.specs.Step.{state_kinds}
use Rattle.design_model.specs.Wiring.{Wiring, wiring_of}
use Rattle.design_model.specs.declared.design.Design.{Design}
use Rattle.term_compile.proofs.GivenLemmas.{kinds_are, planned}
use Rattle.term_compile.proofs.plan.plan_of.Goals as goal
use Rattle.value_type.specs.PortKinds.{port_kinds}

pub returns : goal.returns
returns c =
    let net : Wiring = wiring_of (λ p. p) c.args.provides.now c.args.requires_.now c.args.parts.now c.args.constraints.now in
    let is : wiring (net_in c.args.net.now) ≡ net =
    ap (λ (d : Design). wiring (net_in d)) c.requires ∙ ap wiring (net_is c.args.provides.now c.args.requires_.now c.args.parts.now c.args.constraints.now) in
    let order : c.in_ok-cuts.cuts.order ≡ evaluation_order net = c.in_ok-cuts.ensures.order ∙ ap evaluation_order is in
    let signals : c.items-signals.result.now ≡ map signal_at (cut_signals net) = c.items-signals.ensures ∙ (c.in_ok-cuts.ensures.signals ∙ ap (λ (w : Wiring). map signal_at (cut_signals w)) is) in
    let state : c.of.result ≡ state_kinds net =
    c.of.ensures ∙ (c.in_ok-push_port_kinds.ensures ∙ ap (λ kinds. kinds ++ port_kinds c.args.requires_.now) (kinds_are net c.in_ok-state.state.items c.items-signals.result.now signals c.in_ok-state.ensures)) in
    let wires = rw c.new-wires.ensures.items at c.in_ok-start.ensures.wires in
    let kinds = rw (c.as_slice.ensures.value, ← c.of.ensures) at c.in_ok-kinds.ensures in
    let waiting = rw c.items.ensures at c.in_ok-waiting.ensures in
    let first : c.in_ok-first.first ≡ 0 + length (port_kinds c.args.provides.now) = search (rules, length-map) in
    planned net _ c.in_ok-first.first c.items-signals.result.now c.in_ok-kinds.kinds.items order signals (search rules) state kinds c.in_ok-start.ensures.next refl wires first waiting
