use Rattle.std.proofs.Common.{◌≡◌, ◌++◌, drop, length, IsTrue}
use Rattle.order_core.specs.Tuple.{AreAllBounds}
use Rattle.value_type.specs.Fits.{fits, row_fits}
use Rattle.value_type.specs.Leq.{leq}
use Rattle.value_type.proofs.bounds.+bounds.Given as goal

-- What is left fits, and with lists for it there is one for each type.
abbrev pub invariant-bounds_of_each-loop-at : goal.invariant-bounds_of_each-loop-at
invariant-bounds_of_each-loop-at l = record {
  xs_length : length l.kinds ≡ length l.xs;
  ys_length : length l.kinds ≡ length l.ys;
  xs_fit : IsTrue (row_fits l.types (drop l.at l.kinds) (drop l.at l.xs));
  ys_fit : IsTrue (row_fits l.types (drop l.at l.kinds) (drop l.at l.ys));
  bounds : (rest : _) → AreAllBounds (fits l.types) (leq l.types) (drop l.at l.kinds) (drop l.at l.xs) (drop l.at l.ys) rest
      → AreAllBounds (fits l.types) (leq l.types) l.kinds l.xs l.ys (l.made.items ++ rest);
}
