use Rattle.std.proofs.Common.{◌≡◌, ◌<◌, ◌^◌, map, drop}
use Rattle.std.specs.Option.{option_copied}
use Rattle.cut_plan.specs.Totals.{clipped, sum_from}
use Rattle.design_model.specs.Heights.{height, part_heights, sum_all}
use Rattle.cut_plan.proofs.heights.+height_of.Given as goal

-- The sum so far, with the heights of the parts left, is the sum of all.
abbrev pub invariant-tuple_height-loop-at : goal.invariant-tuple_height-loop-at
invariant-tuple_height-loop-at l = record {
  small : l.total < 2 ^ 64;
  sums : clipped (sum_all (part_heights 0 (map (height l.types) l.kinds) (option_copied l.values)))
      ≡ sum_from l.total (part_heights l.at (map (height l.types) (drop l.at l.kinds)) (option_copied l.values));
}
