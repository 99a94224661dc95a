use Rattle.std.proofs.lemmas.Option.{slice_get-get_or}
use Rattle.std.proofs.Common.{◌≡◌, ◌∙◌, ◌+◌, ◌++◌, ◌∷◌, ◌<◌, Some, length, slice_get, get_or, sym, ap, map, drop, add-one, drop-cons, refl}
use Rattle.compiled_term.specs.CompiledTerm.{compiled}
use Rattle.compiled_term.specs.CompiledTermLaws.{compiled-Choice, known_of, net_term_is}
use Rattle.compiled_term.specs.Joined.{joined}
use Rattle.compiled_term.specs.Stages.{Standing, stages}
use Rattle.design_model.specs.Wiring.{Wiring, wiring_of}
use Rattle.design_model.specs.declared.design.Part.{Part}
use Rattle.design_term.specs.declared.term.Term.TheVariants as term
use Rattle.term_compile.proofs.GivenLemmas.{net_by_plan}
use Rattle.term_compile.proofs.StagesLemmas.{one_stage}
use Rattle.term_compile.proofs.terms.+term_of.Goals as goal
use Rattle.term_compile.specs.Given.{IsPlanOf}
use Rattle.term_compile.specs.Stands.{standing_of}
use Rattle.value_type.specs.PortKinds.{port_kinds}

pub term_of-returns-in_ok-term-in-Net : goal.term_of-returns-in_ok-term-in-Net
term_of-returns-in_ok-term-in-Net t c =
    let net : Wiring = wiring_of (λ p. p) c.in-Net.provides c.in-Net.requires_ c.in-Net.parts c.in-Net.constraints in
    let plan : IsPlanOf net c.in_ok-plan-in-Net.plan =
    rw (c.items-in-Net.ensures, c.items-in-Net-2.ensures, c.items-in-Net-3.ensures, c.items-in-Net-4.ensures) at c.in_ok-plan-in-Net.ensures in
    let required : c.in_ok-required-in-Net.required ≡ net.requires_ = c.in_ok-required-in-Net.ensures ∙ ap port_kinds c.items-in-Net-5.ensures in
    let state : c.in_ok-to-in-Net.to ≡ c.in_ok-plan-in-Net.plan.state = c.in_ok-to-in-Net.ensures ∙ c.items-in-Net-6.ensures in
    let stages_are = rw (c.items-in-Net-7.ensures, c.items-in-Net-8.ensures, state) at c.in_ok-stages-in-Net.ensures in
    c.in_ok-term-in-Net.ensures
    ∙ (net_by_plan net (map known_of c.in-Net.parts) c.in_ok-plan-in-Net.plan plan _ _ required (c.in_ok-body-in-Net.ensures ∙ ap joined stages_are)
    ∙ (sym (net_term_is c.in-Net.provides c.in-Net.requires_ c.in-Net.parts c.in-Net.constraints) ∙ ap compiled (sym c.in-Net.is)))

pub term_of-returns-in_ok-terms-in-Choice : goal.term_of-returns-in_ok-terms-in-Choice
term_of-returns-in_ok-terms-in-Choice t c =
    ap term.Alt (c.of.ensures ∙ (c.in_ok-terms-in-Choice.ensures ∙ ap (map (λ (p : Part). compiled p.design)) c.items-in-Choice.ensures))
    ∙ (sym (compiled-Choice c.in-Choice.provides c.in-Choice.requires_ c.in-Choice.branches) ∙ ap compiled (sym c.in-Choice.is))

pub stages_of-loop-number-preserved : goal.stages_of-loop-number-preserved
stages_of-loop-number-preserved t c =
    let order = c.args.order.now in
    let at = c.loop-number.number-index in
    let number = get_or order at 0 in
    let within : at < length order = c.loop-number-test.true in
    let next : drop at order ≡ number ∷ drop (at + 1) order = rw (add-one, drop-cons order at 0) refl in
    let found : slice_get c.args.parts.now number ≡ Some c.in-Some.part.now = slice_get-get_or c.args.parts.now number c.in-Some.part.now c.in-Some.ensures.lookup.3.0 ∙ ap Some (sym c.in-Some.ensures.lookup.1) in
    let now : Standing = standing_of c.loop-number.now in
    let stage = one_stage c.args.start c.args.state c.args.parts.now now number (drop (at + 1) order) c.in-Some.part.now c.in_ok-inner.inner (standing_of c.in_ok-now.now) c.loop-number.made.items c.push_stage.new.into.items
    found c.in_ok-inner.ensures c.in_ok-now.ensures.terms c.in_ok-now.ensures.then in
    record {
      below = c.in_ok-now.ensures.below;
      same = c.loop-number.invariant.same ∙ (ap (λ left. c.loop-number.made.items ++ stages c.args.start c.args.state (map known_of c.args.parts.now) now left) next ∙ stage);
    }
