use Rattle.std.proofs.Common.{◌≡◌, take, List, ℕ, map}
use Rattle.std.specs.Prelude.{is_some}
use Rattle.name_index.specs.Names.{number_of}
use Rattle.name_rules.specs.Twice.{is_listed}
use Rattle.name_rules.proofs.places.names_of.Given as goal

-- The names so far are in the index.
abbrev pub invariant-loop-item : goal.invariant-loop-item
invariant-loop-item g l = (name : List ℕ) → is_some (number_of l.names name) ≡ is_listed (map g.T.Named.named (take l.item-index l.items)) name
