use Rattle.std.proofs.Common.{◌≡◌, ◌++◌, drop, map}
use Rattle.name_table.proofs.orders.names_of.Given as goal

-- What is left follows.
abbrev pub invariant-loop-name : goal.invariant-loop-name
invariant-loop-name l = map (λ n. n.name) l.names ≡ l.made.items ++ map (λ n. n.name) (drop l.name-index l.names)
