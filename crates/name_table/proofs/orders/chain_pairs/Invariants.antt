use Rattle.std.proofs.Common.{◌≡◌, ◌++◌, drop}
use Rattle.name_index.specs.Names.{number_of}
use Rattle.name_table.specs.Orders.{chain_pairs}
use Rattle.name_table.proofs.orders.chain_pairs.Given as goal

-- What is left follows.
abbrev pub invariant-loop-chain : goal.invariant-loop-chain
invariant-loop-chain l = chain_pairs (number_of l.places) l.chains ≡ l.pairs.items ++ chain_pairs (number_of l.places) (drop l.chain-index l.chains)
