use Rattle.std.proofs.Common.{◌≡◌}
use Rattle.reachability.proofs.BitSetLemmas.{united_to}
use Rattle.reachability.proofs.bits.BitSet.unite.Given as goal

-- The words so far are united.
abbrev pub invariant-loop-at : goal.invariant-loop-at
invariant-loop-at l = l.self-inside.words.items ≡ united_to l.fn.self l.other l.at
