use Rattle.std.proofs.Common.{◌≡◌, drop, length}
use Rattle.value_type.specs.Leq as spec
use Rattle.value_type.proofs.leq.+leq.Given as goal

-- What is left decides.
abbrev pub invariant-leq_all-loop-at : goal.invariant-leq_all-loop-at
invariant-leq_all-loop-at l = record {
  decides : spec.row_leq l.types l.kinds l.xs l.ys ≡ spec.row_leq l.types (drop l.at l.kinds) (drop l.at l.xs) (drop l.at l.ys);
  xs_length : length l.kinds ≡ length l.xs;
  ys_length : length l.kinds ≡ length l.ys;
}
