-- Nets whose rules have no fault are typed but for their parts.
use Rattle.std.proofs.Common.{◌≡◌, ◌<◌, ◌≤◌, ◌^◌, arith, refl, sym, subst, ℕ, List, [], ◌∷◌, ◌++◌, length, map}
use Rattle.std.proofs.lemmas.List.{length-map}
use Rattle.std.specs.Prelude.{Option, Some, None, slice_get}
use Rattle.design_lexer.specs.declared.tree.BodyTree.{BodyTree}
use Rattle.design_lexer.specs.declared.tree.BodyTree.TheVariants as body
use Rattle.design_lexer.specs.declared.tree.File.{File}
use Rattle.design_lexer.specs.declared.tree.File.TheVariants as file
use Rattle.design_lexer.specs.declared.tree.PortTree.{PortTree}
use Rattle.design_lexer.specs.declared.tree.RuleTree.{RuleTree}
use Rattle.design_lexer.specs.declared.tree.RuleTree.TheVariants as rule
use Rattle.design_lexer.specs.declared.tree.Side.{Side}
use Rattle.design_lexer.specs.declared.tree.Side.TheVariants.{Provides, Requires}
use Rattle.design_model.specs.Parts.{provided_ports, required_ports}
use Rattle.design_model.specs.Typed.{ArePorts, ConstraintIsTyped, IsTypedNet}
use Rattle.design_model.specs.Wiring.{Wiring, wiring_of}
use Rattle.design_model.specs.declared.design.Part.{Part}
use Rattle.design_model.specs.declared.expr.Constraint.{Constraint}
use Rattle.expr_lower.specs.declared.meaning.Lower.{Lower}
use Rattle.name_rules.specs.Sizes.{IsSmall, IsSmallBody}
use Rattle.name_table.specs.Library.{AreSmall}
use Rattle.name_table.specs.SmallLaws.{small_at}
use Rattle.name_table.specs.declared.source.SourceFile.{SourceFile}
use Rattle.order_core.specs.Pointwise.{Each}
use Rattle.order_core.specs.PointwiseLaws.{pointwise_length}
use Rattle.side_ports.specs.Sides.{side_ports}
use Rattle.tree_units.specs.Posets.{poset_place}
use Rattle.unit_check.specs.Constraints.{FitParts, constraint_by, constraint_of, constraints_of, scope_wiring}
use Rattle.unit_check.specs.Declaring.{params_of, parts_of, ports_at}
use Rattle.unit_check.specs.PortLaws.{declared_few, parts_few}
use Rattle.unit_check.specs.Scopes.{PartPorts, ScopePorts, Target, part_scope, scope_at}
use Rattle.unit_check.specs.TypeFaults.{rules_of}
use Rattle.value_type.specs.PortKinds.{port_kinds}
use Rattle.value_type.specs.declared.poset.Types.{Types}

-- ---- constraints

body_rules_few : (b : BodyTree) → IsSmallBody b → length (rules_of (file.Design b)) < 2 ^ 32
body_rules_few (body.Catalogue ports rows table) small = omega arith
body_rules_few (body.Choose branches) small = omega arith
body_rules_few (body.Net ports parts rules) small = small.2

rules_few : (f : File) → IsSmall f → length (rules_of f) < 2 ^ 32
rules_few (file.Poset poset) small = omega arith
rules_few (file.Interface ports) small = omega arith
rules_few (file.Design b) small = body_rules_few b small
rules_few (file.Template params b) small = body_rules_few b small.1

constraints_few : (types : Types) (scope : ScopePorts) (rules : List RuleTree) → length (constraints_of types scope rules) ≤ length rules
constraints_few types scope [] = omega arith
constraints_few types scope (r ∷ rules) = joined (constraint_of types scope r) (one r) (constraints_few types scope rules)
  where
    by : (t : Option Target) (l : Option Lower) → length (constraint_by t l) ≤ 1
    by (Some t) (Some l) = omega arith
    by (Some t) None = omega arith
    by None l = omega arith

    one : (r : RuleTree) → length (constraint_of types scope r) ≤ 1
    one (rule.Above place lower) = by _ _
    one (rule.Ignore place) = omega arith

    joined : (cs : List Constraint) → length cs ≤ 1 → length (constraints_of types scope rules) ≤ length rules → length (cs ++ constraints_of types scope rules) ≤ length (r ∷ rules)
    joined [] l k = omega (arith, k)
    joined (c ∷ []) l k = omega (arith, k)
    joined (c ∷ d ∷ cs) l k = absurd (omega (arith, l))

-- The wiring of a net whose parts have the ports of the scope.
fit_kinds : (parts : List PartPorts) (designs : List Part) → FitParts parts designs
    → (map (λ p. port_kinds p.ports.provides) parts ≡ map (λ d. port_kinds (provided_ports d.design)) designs) × (map (λ p. port_kinds p.ports.requires_) parts ≡ map (λ d. port_kinds (required_ports d.design)) designs)
fit_kinds [] [] fit = (refl, refl)
fit_kinds [] (d ∷ designs) fit = absurd fit
fit_kinds (p ∷ parts) [] fit = absurd fit
fit_kinds (p ∷ parts) (d ∷ designs) fit = let rest = fit_kinds parts designs fit.1 in (λ i. sym fit.0.provided i ∷ rest.0 i, λ i. sym fit.0.required i ∷ rest.1 i)

wiring_same : (scope : ScopePorts) (designs : List Part) (constraints : List Constraint) → FitParts scope.parts designs → scope_wiring scope constraints ≡ wiring_of (λ p. p) scope.own.provides scope.own.requires_ designs constraints
wiring_same scope designs constraints fit = let kinds = fit_kinds scope.parts designs fit in
    λ i. record { provides = port_kinds scope.own.provides; requires_ = port_kinds scope.own.requires_; provided = kinds.0 i; required = kinds.1 i; constraints = constraints }

-- A net of small files with these parts.
pub net_typed : (files : List SourceFile) (types : Types) (small : ∥ AreSmall files ∥₁) (i : ℕ) (f : SourceFile) (got : slice_get files i ≡ Some f) (designs : List Part) (T : Type 0)
    → ((side : Side) (trees : List PortTree) → length trees < 2 ^ 32 → ArePorts types (side_ports (poset_place types) side trees))
    → Each (ConstraintIsTyped types (scope_wiring (scope_at files types i f.tree) (constraints_of types (scope_at files types i f.tree) (rules_of f.tree)))) (constraints_of types (scope_at files types i f.tree) (rules_of f.tree))
    → FitParts (scope_at files types i f.tree).parts designs → T
    → IsTypedNet types (scope_at files types i f.tree).own.provides (scope_at files types i f.tree).own.requires_ designs (constraints_of types (scope_at files types i f.tree) (rules_of f.tree)) T
net_typed files types small i f got designs T ports each fit t =
    let scope = scope_at files types i f.tree in
    let constraints = constraints_of types scope (rules_of f.tree) in
    let is_small = small_at files i f small got in
    let parts = pointwise_length _ scope.parts designs fit in
    let mapped = length-map (parts_of f.tree) (part_scope files types (params_of f.tree)) in
    let some = parts_few f.tree is_small in
    let rules = rules_few f.tree is_small in
    let few = constraints_few types scope (rules_of f.tree) in
    record {
      provided_ports = ports Provides (ports_at files i) (declared_few files i small);
      required_ports = ports Requires (ports_at files i) (declared_few files i small);
      few_parts = omega (arith, parts, mapped, some);
      few_constraints = omega (arith, rules, few);
      each_constraint = subst (λ (net : Wiring). Each (ConstraintIsTyped types net) constraints) (wiring_same scope designs constraints fit) each;
      typed = t;
    }
