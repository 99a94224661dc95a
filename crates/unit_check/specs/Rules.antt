-- What is wrong with the rules of a net.
use Rattle.std.specs.Prelude.{ℕ, Bool, false, not, List, [], ◌++◌, Option, Some, None, option_map}
use Rattle.std.specs.List.{flat_map}
use Rattle.design_lexer.specs.declared.tree.NameAt.{NameAt}
use Rattle.design_lexer.specs.declared.tree.PlaceTree.{PlaceTree}
use Rattle.design_lexer.specs.declared.tree.RuleTree.{RuleTree}
use Rattle.design_lexer.specs.declared.tree.RuleTree.TheVariants as rule
use Rattle.expr_lower.specs.Meanings.{lowered}
use Rattle.expr_lower.specs.Reading.{no_port, reading}
use Rattle.expr_lower.specs.declared.meaning.Lower.{Lower}
use Rattle.fault_list.specs.Faults.{fault_if, fault_unless}
use Rattle.fault_list.specs.declared.fault.Fault.{Fault}
use Rattle.fault_list.specs.declared.fault.FaultKind.TheVariants.{Mismatch}
use Rattle.side_ports.specs.Sides.{Sides, has_port}
use Rattle.unit_check.specs.Scopes.{ScopePorts, Target, part_at, readable, target}
use Rattle.value_type.specs.SameForm.{same_kind}
use Rattle.value_type.specs.declared.poset.Types.{Types}

-- that the two sides of a rule differ in type, at its greater place
abbrev pub sides_differ : PlaceTree → Fault
sides_differ place = record { kind = Mismatch; at = place.first.at }

-- Both sides are there, and their types differ.
abbrev pub side_faults : PlaceTree → Option Target → Option Lower → List Fault
side_faults place (Some t) (Some l) = fault_if (not (same_kind t.kind l.kind)) (sides_differ place)
side_faults place _ _ = []

abbrev pub part_has_port : Option (ℕ × Sides) → List ℕ → Bool
part_has_port (Some part) name = has_port part.1 name
part_has_port None name = false

abbrev pub is_port_by : ScopePorts → List ℕ → Option NameAt → Bool
is_port_by scope first None = has_port scope.own first
is_port_by scope first (Some second) = part_has_port (part_at scope.parts first) second.name

-- The place is an own port, or a part's port, of either side.
abbrev pub is_port : ScopePorts → PlaceTree → Bool
is_port scope place = is_port_by scope place.first.name place.second

-- the faults of the greater place, then those of the lower expression, then that of the two sides
abbrev pub rule_faults : Types → ScopePorts → RuleTree → List Fault
rule_faults types scope (rule.Above place lower) =
    fault_unless (target scope place) (no_port place)
    ++ (reading types (readable scope) lower).faults
    ++ side_faults place (target scope place) (option_map lowered (reading types (readable scope) lower).meaning)
rule_faults types scope (rule.Ignore place) = fault_if (not (is_port scope place)) (no_port place)

abbrev pub rules_faults : Types → ScopePorts → List RuleTree → List Fault
rules_faults types scope rules = flat_map (rule_faults types scope) rules
