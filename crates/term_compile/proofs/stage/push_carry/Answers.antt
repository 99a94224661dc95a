use Rattle.std.proofs.Common.{◌≡◌, ◌++◌, ◌+◌, [], ◌∷◌, length, map, sym, ap, subst, ◌∙◌, rules}
use Rattle.compiled_term.specs.Stages.{Compiled, ReadOn, Standing, all_read_on, not_into, widened}
use Rattle.compiled_term.specs.Wires.{wire_kinds}
use Rattle.expr_residual.specs.declared.frame.Frame.{Frame}
use Rattle.term_compile.proofs.StageLemmas.{carried_is, carry_is, then_below, then_is}
use Rattle.term_compile.proofs.stage.push_carry.Goals as goal
use Rattle.term_compile.specs.Marks.{AreMarks}
use Rattle.term_compile.specs.Stands.{AreBelow, requiring, standing_of}

pub returns : goal.returns
returns c =
    let start = c.args.start in
    let p = c.args.part in
    let now : Standing = standing_of c.args.now in
    let part : Compiled = requiring c.args.required in
    let next = c.in_ok-next.next in
    let on : ReadOn = record { waiting = c.in_ok-waiting.waiting.items; made = c.all_read_on.new.made.items } in
    let wide : c.push_wires.new.into.items ≡ widened start [] now part = rw c.into_vec.ensures at c.in_ok-next.ensures.wires in
    let next_is : next ≡ now.next + length part.required = rw c.into_vec.ensures at c.in_ok-next.ensures.next in
    let frame : Frame = record { start = start; part = p; from = now.next; next = next } in
    let on_is : all_read_on frame (not_into p now.waiting) [] ≡ on = (λ i. all_read_on frame (sym c.in_ok-others.ensures i) (sym c.new-made.ensures.items i)) ∙ c.in_ok-waiting.ensures in
    let last : c.in_ok-last.last ≡ next + length on.made = search rules in
    let are : AreMarks on.waiting c.in_ok-marks.marks.items = rw c.as_slice.ensures.value at c.in_ok-marks.ensures.marks in
    let values = rw (c.as_slice-2.ensures.value, c.as_slice-3.ensures.value, c.as_slice-4.ensures.value) at c.in_ok-carried.ensures in
    let carried = carried_is start p now part c.requires _ next on wide next_is on_is c.in_ok-marks.marks.items c.in_ok-carried.carried.items are (c.in_ok-marks.ensures.size ∙ last) values in
    let wires : c.targets_from.new.wires.items ≡ map (λ v. v.wire) c.in_ok-carried.carried.items = rw c.new-wires.ensures.items at c.in_ok-targets.ensures.wires in
    let kinds = c.in_ok-kinds.ensures ∙ ap wire_kinds (c.as_slice-5.ensures.value ∙ wires) in
    let stands = then_is start p now part c.requires _ next on wide next_is on_is _ _ _ carried wires last in
    record {
      terms = c.in_ok-push_term.ensures ∙ ap (λ t. c.args.into.now.items ++ t ∷ []) (carry_is start p now part c.requires _ next on wide next_is on_is _ _ _ carried kinds c.in_ok-targets.ensures.targets);
      then = stands;
      below = subst (λ (s : Standing). AreBelow s.next s.wires) (sym stands) (then_below start p now part c.requires);
    }
