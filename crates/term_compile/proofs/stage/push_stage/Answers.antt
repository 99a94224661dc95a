use Rattle.std.proofs.Common.{◌≡◌, ap, ◌∙◌, append_assoc, refl}
use Rattle.compiled_term.specs.Stages.{keep_all}
use Rattle.compiled_term.specs.Wires.{wire_kinds}
use Rattle.design_model.specs.Parts.{required_ports}
use Rattle.term_compile.proofs.stage.push_stage.Goals as goal
use Rattle.value_type.specs.PortKinds.{port_kinds}

pub returns : goal.returns
returns c =
    let keep : c.in_ok-keep.keep ≡ keep_all (wire_kinds c.args.now.wires.items) = c.in_ok-keep.ensures ∙ ap keep_all (c.in_ok-wire_kinds.ensures ∙ ap wire_kinds c.as_slice.ensures.value) in
    let required : c.in_ok-required.required ≡ port_kinds (required_ports c.args.design.now) = c.in_ok-required.ensures ∙ ap port_kinds c.required_ports.ensures in
    record {
      terms = rw (c.in_ok-then.ensures.terms, c.in_ok-push_both.ensures, append_assoc, keep, c.in_ok-through.ensures, required) refl;
      then = rw required at c.in_ok-then.ensures.then;
      below = c.in_ok-then.ensures.below;
    }
