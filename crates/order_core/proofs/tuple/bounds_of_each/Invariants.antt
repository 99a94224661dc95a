use Rattle.std.proofs.Common.{◌≡◌, ◌++◌, length, drop, map, IsTrue}
use Rattle.order_core.specs.Tuple.{are_values, AreAllBounds}
use Rattle.order_core.proofs.tuple.bounds_of_each.Given as goal

-- What is left is of values, and with lists for it there is one for each part.
abbrev pub invariant-loop-at : goal.invariant-loop-at
invariant-loop-at g l = record {
  xs_length : length l.parts ≡ length l.xs;
  ys_length : length l.parts ≡ length l.ys;
  xs_values : IsTrue (are_values (map g.O.Order.is_value (drop l.at l.parts)) (drop l.at l.xs));
  ys_values : IsTrue (are_values (map g.O.Order.is_value (drop l.at l.parts)) (drop l.at l.ys));
  bounds : (rest : _) → AreAllBounds g.O.Order.is_value g.O.Order.leq (drop l.at l.parts) (drop l.at l.xs) (drop l.at l.ys) rest → AreAllBounds g.O.Order.is_value g.O.Order.leq l.parts l.xs l.ys (l.made.items ++ rest);
}
