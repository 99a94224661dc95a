use Rattle.std.proofs.Common.{◌≡◌, ◌++◌, drop}
use Rattle.std.specs.Prelude.{None}
use Rattle.name_index.specs.Names.{number_of}
use Rattle.name_table.specs.Orders.{chain_after}
use Rattle.name_table.proofs.orders.add_chain.Given as goal

-- What is left follows.
abbrev pub invariant-loop-name : goal.invariant-loop-name
invariant-loop-name l = l.pairs.items ++ chain_after (number_of l.places) l.before (drop l.name-index l.chain) ≡ l.initial.pairs.items ++ chain_after (number_of l.places) None l.chain
