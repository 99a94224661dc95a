use Rattle.std.proofs.Common.{◌≡◌, true, rules}
use Rattle.cut_plan.proofs.rounds.height_if.Goals as goal

pub returns : goal.returns
returns c =
    let cut : c.args.is_cut ≡ true = search rules in
    rw (cut, ← c.in_ok-values.ensures c.args.types.now, ← c.as_ref.ensures.value) c.height_of.ensures
