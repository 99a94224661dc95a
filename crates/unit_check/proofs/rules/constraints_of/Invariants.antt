use Rattle.std.proofs.Common.{◌≡◌, ◌++◌, drop}
use Rattle.unit_check.specs.Constraints.{constraints_of}
use Rattle.unit_check.specs.Held.{ports_held}
use Rattle.unit_check.specs.Rules.{rules_faults}
use Rattle.unit_check.proofs.rules.constraints_of.Given as goal

-- What is left decides, and is left to be written.
abbrev pub invariant-loop-rule : goal.invariant-loop-rule
invariant-loop-rule l =
    (rules_faults l.names.types (ports_held l.scope) l.rules ≡ rules_faults l.names.types (ports_held l.scope) (drop l.rule-index l.rules))
    × (constraints_of l.names.types (ports_held l.scope) l.rules ≡ l.made.items ++ constraints_of l.names.types (ports_held l.scope) (drop l.rule-index l.rules))
