use Rattle.std.proofs.Common.{◌≡◌, take, List, ℕ}
use Rattle.name_index.specs.Names.{number_of}
use Rattle.name_index.specs.Places.{place_of}
use Rattle.side_ports.proofs.ports.port_numbers.Given as goal

-- The names so far have their first places.
abbrev pub invariant-loop-at : goal.invariant-loop-at
invariant-loop-at l = (name : List ℕ) → number_of l.names name ≡ place_of (λ p. p.name) (take l.at l.ports) name
