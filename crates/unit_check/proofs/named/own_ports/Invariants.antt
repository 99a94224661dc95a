use Rattle.std.proofs.Common.{◌≡◌, take, List, ℕ}
use Rattle.std.specs.Prelude.{is_some}
use Rattle.name_index.specs.Names.{number_of}
use Rattle.unit_check.specs.Connection.{is_own, is_placed}
use Rattle.unit_check.proofs.named.own_ports.Given as goal

-- The own ports that the rules so far name.
abbrev pub invariant-loop-rule : goal.invariant-loop-rule
invariant-loop-rule l = (name : List ℕ) → is_some (number_of l.own name) ≡ is_placed (take l.rule-index l.rules) (is_own name)
