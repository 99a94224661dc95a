use Rattle.std.proofs.Common.{◌≡◌, ◌<◌, ◌^◌, drop}
use Rattle.cut_plan.specs.Totals as spec
use Rattle.cut_plan.proofs.rounds.+rounds_enough.Given as goal

-- The greatest so far, with the parts left, is the greatest of all.
abbrev pub invariant-greatest_of-loop-part : goal.invariant-greatest_of-loop-part
invariant-greatest_of-loop-part l = record {
  small : l.most < 2 ^ 64;
  decides : spec.clipped (spec.greatest_of l.types l.least l.parts) ≡ spec.clipped (spec.greatest_of l.types l.most (drop l.part-index l.parts));
}
