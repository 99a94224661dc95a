-- The constraints that the rules of a net write.
use Rattle.std.specs.Prelude.{List, [], ◌∷◌, map, Option, Some, None, option_map}
use Rattle.std.specs.List.{flat_map}
use Rattle.design_lexer.specs.declared.tree.RuleTree.{RuleTree}
use Rattle.design_lexer.specs.declared.tree.RuleTree.TheVariants as rule
use Rattle.design_model.specs.Typed.{HasPorts}
use Rattle.design_model.specs.Wiring.{Wiring}
use Rattle.design_model.specs.declared.design.Part.{Part}
use Rattle.design_model.specs.declared.expr.Constraint.{Constraint}
use Rattle.expr_lower.specs.Meanings.{lowered}
use Rattle.expr_lower.specs.Reading.{reading}
use Rattle.expr_lower.specs.declared.meaning.Lower.{Lower}
use Rattle.order_core.specs.Pointwise.{Pointwise}
use Rattle.unit_check.specs.Scopes.{PartPorts, ScopePorts, Target, readable, target}
use Rattle.value_type.specs.PortKinds.{port_kinds}
use Rattle.value_type.specs.declared.poset.Types.{Types}

-- what may be there, as a list
abbrev pub listed : Option Constraint → List Constraint
listed (Some c) = c ∷ []
listed None = []

-- the constraint of a greater port and a lower expression, where both are there
abbrev pub constraint_by : Option Target → Option Lower → List Constraint
constraint_by (Some t) (Some l) = record { greater = t.greater; lower = l.expr } ∷ []
constraint_by _ _ = []

-- the constraint that a rule writes, if it isn't `ignore`
abbrev pub constraint_of : Types → ScopePorts → RuleTree → List Constraint
constraint_of types scope (rule.Above place lower) = constraint_by (target scope place) (option_map lowered (reading types (readable scope) lower).meaning)
constraint_of types scope (rule.Ignore place) = []

-- the constraints of a net, in the order of its rules
abbrev pub constraints_of : Types → ScopePorts → List RuleTree → List Constraint
constraints_of types scope rules = flat_map (constraint_of types scope) rules

-- the types of the ports of a scope, and these constraints
abbrev pub scope_wiring : ScopePorts → List Constraint → Wiring
scope_wiring scope constraints = record {
  provides = port_kinds scope.own.provides;
  requires_ = port_kinds scope.own.requires_;
  provided = map (λ p. port_kinds p.ports.provides) scope.parts;
  required = map (λ p. port_kinds p.ports.requires_) scope.parts;
  constraints = constraints;
}

-- The designs have the types of ports that the parts of the scope have.
abbrev pub FitParts : List PartPorts → List Part → Type 0
FitParts parts designs = Pointwise (λ p part. HasPorts p.ports.provides p.ports.requires_ part) parts designs
