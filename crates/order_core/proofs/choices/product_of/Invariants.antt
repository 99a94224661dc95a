use Rattle.std.proofs.Common.{◌≡◌, length, drop, take, map, IsTrue}
use Rattle.std.specs.List.{list_all}
use Rattle.order_core.specs.Tuple.{are_values, product}
use Rattle.order_core.proofs.Growth.{joined}
use Rattle.order_core.proofs.choices.product_of.Given as goal

-- The tuples so far are of values, and with those of what is left they make the product.
abbrev pub invariant-loop-at : goal.invariant-loop-at
invariant-loop-at g l = record {
  same_length : length l.parts ≡ length l.choices;
  choices : IsTrue (are_values (map (λ part. list_all (g.C.Copier.can_copy part)) (drop l.at l.parts)) (drop l.at l.choices));
  tuples : IsTrue (list_all (are_values (map g.C.Copier.can_copy (take l.at l.parts))) l.made.items);
  made : joined l.made.items (product (drop l.at l.choices)) ≡ product l.choices;
}
