use Rattle.std.proofs.Common.{◌≡◌, ◌+◌, drop}
use Rattle.term_compile.specs.Given.{place_among}
use Rattle.term_compile.proofs.over_wires.place_among.Given as goal

-- None of the signals so far is of this port.
abbrev pub invariant-loop-at : goal.invariant-loop-at
invariant-loop-at l = place_among l.signals l.part l.port ≡ place_among (drop l.at l.signals) l.part l.port + l.at
