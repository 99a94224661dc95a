use Rattle.std.proofs.Common.{◌≡◌, map, drop, length}
use Rattle.design_model.specs.Above.{are_above}
use Rattle.design_model.specs.ValueOf.{value_of, together}
use Rattle.design_model.proofs.comparing.+above_in.Given as goal

-- What is left decides.
abbrev pub invariant-all_above-loop-at : goal.invariant-all_above-loop-at
invariant-all_above-loop-at g l = record {
  decides : are_above l.types l.kinds l.xs (together (map value_of l.parts) (g.R.Reading.reads l.reading))
      ≡ are_above l.types (drop l.at l.kinds) (drop l.at l.xs) (together (map value_of (drop l.at l.parts)) (g.R.Reading.reads l.reading));
  xs_length : length l.kinds ≡ length l.xs;
  parts_length : length l.kinds ≡ length l.parts;
}
