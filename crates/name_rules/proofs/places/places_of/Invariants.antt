use Rattle.std.proofs.Common.{◌≡◌, take, List, ℕ}
use Rattle.name_index.specs.Names.{number_of}
use Rattle.name_rules.specs.Places.{place_of}
use Rattle.name_rules.proofs.places.places_of.Given as goal

-- The names so far have their first places.
abbrev pub invariant-loop-at : goal.invariant-loop-at
invariant-loop-at g l = (name : List ℕ) → number_of l.names name ≡ place_of g.T.Named.named (take l.at l.items) name
