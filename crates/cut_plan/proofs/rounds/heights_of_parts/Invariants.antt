use Rattle.std.proofs.Common.{◌≡◌, ◌<◌, ◌^◌, drop}
use Rattle.cut_plan.specs.Totals.{clipped, sum_from, all_heights}
use Rattle.design_model.specs.Heights.{sum_all}
use Rattle.cut_plan.proofs.rounds.heights_of_parts.Given as goal

-- The sum so far, with the heights of the parts left, is the sum of all.
abbrev pub invariant-loop-number : goal.invariant-loop-number
invariant-loop-number l = record {
  small : l.total < 2 ^ 64;
  sums : clipped (sum_all (all_heights l.types l.listed 0 l.parts)) ≡ sum_from l.total (all_heights l.types l.listed l.number (drop l.number l.parts));
}
