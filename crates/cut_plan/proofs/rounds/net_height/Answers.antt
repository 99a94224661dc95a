use Rattle.std.proofs.Common.{◌≡◌, List, map, ap, ◌∙◌}
use Rattle.std.proofs.lemmas.Result.{IfOk-weaker}
use Rattle.value_type.specs.declared.port.Port.{Port}
use Rattle.design_model.specs.Heights.{net_height, surveyed, sum_all}
use Rattle.design_model.specs.HeightsLaws.{of_part}
use Rattle.cut_plan.proofs.NetHeightsLemmas.{heights_are}
use Rattle.cut_plan.specs.Totals.{clipped, all_heights}
use Rattle.cut_plan.proofs.rounds.net_height.Goals as goal

pub returns : goal.returns
returns c =
    let t = c.args.types.now in
    let parts = c.args.parts.now in
    let constraints = c.args.constraints.now in
    let cut = c.in_ok-plan.plan.cut.items in
    IfOk-weaker c.heights_of_parts.result (λ found. found ≡ clipped (sum_all (all_heights t cut 0 parts)))
    (λ found. (provides requires_ : List Port) → found ≡ clipped (net_height t (surveyed provides requires_ (map (of_part t) parts) constraints) (map (of_part t) parts)))
    (λ found h provides requires_. h ∙ ap clipped (heights_are t provides requires_ parts constraints cut c.in_ok-plan.ensures.cut))
    (rw c.as_slice.ensures.value at c.heights_of_parts.ensures)
