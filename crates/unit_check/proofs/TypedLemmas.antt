-- Rules without a fault write typed constraints.
use Rattle.std.proofs.Common.{◌≡◌, ◌∙◌, refl, sym, ap, subst, ℕ, Bool, true, false, IsTrue, List, [], ◌∷◌, ◌++◌, map}
use Rattle.std.proofs.lemmas.Option.{slice_get-map}
use Rattle.std.specs.Prelude.{Option, Some, None, not, option_and_then, option_map, slice_get}
use Rattle.design_lexer.specs.declared.tree.ExprTree.{ExprTree}
use Rattle.design_lexer.specs.declared.tree.NameAt.{NameAt}
use Rattle.design_lexer.specs.declared.tree.PlaceTree.{PlaceTree}
use Rattle.design_lexer.specs.declared.tree.RuleTree.{RuleTree}
use Rattle.design_lexer.specs.declared.tree.RuleTree.TheVariants as rule
use Rattle.design_model.specs.ExprKinds.{has_form, is_of_kind}
use Rattle.design_model.specs.ExprLaws.{kind-Inner, kind-Own}
use Rattle.design_model.specs.Typed.{ConstraintIsTyped}
use Rattle.design_model.specs.Wiring.{Wiring, greater_kind, kind_at}
use Rattle.design_model.specs.Wiring as wiring
use Rattle.design_model.specs.declared.expr.Constraint.{Constraint}
use Rattle.expr_lower.specs.Meanings.{lowered}
use Rattle.expr_lower.specs.Reading.{Means, no_port, reading}
use Rattle.expr_lower.specs.declared.meaning.Lower.{Lower}
use Rattle.expr_lower.specs.declared.meaning.Meaning.{Meaning}
use Rattle.fault_list.specs.FaultLaws.{none_left}
use Rattle.fault_list.specs.Faults.{fault_if, fault_unless}
use Rattle.fault_list.specs.RestLaws.{none_right}
use Rattle.fault_list.specs.declared.fault.Fault.{Fault}
use Rattle.name_index.specs.Places.{place_of}
use Rattle.order_core.specs.Pointwise.{Each}
use Rattle.side_ports.specs.Sides.{Sides, port_at}
use Rattle.unit_check.specs.Constraints.{constraint_by, constraint_of, constraints_of, scope_wiring}
use Rattle.unit_check.specs.Rules.{rule_faults, rules_faults, side_faults, sides_differ}
use Rattle.unit_check.specs.Scopes.{PartPorts, ScopePorts, Target, inner_read, inner_target, own_read, own_target, part_at, readable, readable_by, target, target_by}
use Rattle.value_type.specs.PortKinds.{port_kinds}
use Rattle.value_type.specs.SameForm.{same_kind}
use Rattle.value_type.specs.SameFormLaws.{same_form_itself, same_kind_is}
use Rattle.value_type.specs.declared.kind.Kind.{Kind}
use Rattle.value_type.specs.declared.port.Port.{Port}
use Rattle.value_type.specs.declared.poset.Types.{Types}

-- A port that is found has its number and its type.
port_found : (ports : List Port) (name : List ℕ) (p : ℕ × Kind) → port_at ports name ≡ Some p → slice_get (port_kinds ports) p.0 ≡ Some p.1
port_found ports name p e = go (place_of (λ (q : Port). q.name) ports name) e
  where
    numbered : ℕ → Port → ℕ × Kind
    numbered j port = (j, port.kind)

    at : (j : ℕ) (o : Option Port) → slice_get ports j ≡ o → option_map (numbered j) o ≡ Some p → slice_get (port_kinds ports) p.0 ≡ Some p.1
    at j (Some port) got h =
        let same : numbered j port ≡ p = cc in
        subst (λ (q : ℕ × Kind). slice_get (port_kinds ports) q.0 ≡ Some q.1) same (slice_get-map (λ (q : Port). q.kind) ports j ∙ ap (option_map (λ (q : Port). q.kind)) got)
    at j None got h = absurd (cc)

    go : (o : Option ℕ) → option_and_then (λ j. option_map (numbered j) (slice_get ports j)) o ≡ Some p → slice_get (port_kinds ports) p.0 ≡ Some p.1
    go (Some j) h = at j (slice_get ports j) refl h
    go None h = absurd (cc)

-- A part that is found has its number and its ports.
part_found : (parts : List PartPorts) (name : List ℕ) (p : ℕ × Sides) → part_at parts name ≡ Some p → (part : PartPorts) × (slice_get parts p.0 ≡ Some part) × (part.ports ≡ p.1)
part_found parts name p e = go (place_of (λ (q : PartPorts). q.name) parts name) e
  where
    numbered : ℕ → PartPorts → ℕ × Sides
    numbered i part = (i, part.ports)

    at : (i : ℕ) (o : Option PartPorts) → slice_get parts i ≡ o → option_map (numbered i) o ≡ Some p → (part : PartPorts) × (slice_get parts p.0 ≡ Some part) × (part.ports ≡ p.1)
    at i (Some part) got h =
        let same : numbered i part ≡ p = cc in
        (part, ap (λ (q : ℕ × Sides). slice_get parts q.0) (sym same) ∙ got, ap (λ (q : ℕ × Sides). q.1) same)
    at i None got h = absurd (cc)

    go : (o : Option ℕ) → option_and_then (λ i. option_map (numbered i) (slice_get parts i)) o ≡ Some p → (part : PartPorts) × (slice_get parts p.0 ≡ Some part) × (part.ports ≡ p.1)
    go (Some i) h = at i (slice_get parts i) refl h
    go None h = absurd (cc)

-- The type of a port of a part that is found.
inner_found : (side : Sides → List Port) (parts : List PartPorts) (first second : List ℕ) (part : ℕ × Sides) (port : ℕ × Kind) → part_at parts first ≡ Some part → port_at (side part.1) second ≡ Some port
    → kind_at (map (λ p. port_kinds (side p.ports)) parts) part.0 port.0 ≡ Some port.1
inner_found side parts first second part port e f =
    let w = part_found parts first part e in
    let kinds : slice_get (map (λ (p : PartPorts). port_kinds (side p.ports)) parts) part.0 ≡ Some (port_kinds (side part.1))
    = slice_get-map (λ (p : PartPorts). port_kinds (side p.ports)) parts part.0 ∙ ap (option_map (λ (p : PartPorts). port_kinds (side p.ports))) w.1 ∙ ap (λ (sides : Sides). Some (port_kinds (side sides))) w.2 in
    ap (option_and_then (λ (ports : List Kind). slice_get ports port.0)) kinds ∙ port_found (side part.1) second port f

module _ (types : Types) (scope : ScopePorts) (constraints : List Constraint) where
  abbrev net : Wiring
  net = scope_wiring scope constraints

  has_form_itself : (o : Option Kind) (k : Kind) → o ≡ Some k → IsTrue (has_form o k)
  has_form_itself o k e = subst (λ (q : Option Kind). IsTrue (has_form q k)) (sym e) (same_form_itself k)

  -- Each port that an expression may read is typed.
  pub readable_typed : (place : PlaceTree) (l : Lower) → readable scope place ≡ Some l → IsTrue (is_of_kind types (wiring.readable net) l.expr l.kind)
  readable_typed place l e = by_second place.second e
    where
      own : (o : Option (ℕ × Kind)) → port_at scope.own.provides place.first.name ≡ o → option_map own_read o ≡ Some l → IsTrue (is_of_kind types (wiring.readable net) l.expr l.kind)
      own (Some p) got h =
          let same : own_read p ≡ l = cc in
          subst (λ (m : Lower). IsTrue (is_of_kind types (wiring.readable net) m.expr m.kind)) same
          (subst IsTrue (sym (kind-Own types (wiring.readable net) p.0 p.1)) (has_form_itself _ p.1 (port_found scope.own.provides place.first.name p got)))
      own None got h = absurd (cc)

      inner : (second : NameAt) (part : ℕ × Sides) → part_at scope.parts place.first.name ≡ Some part → (o : Option (ℕ × Kind)) → port_at part.1.requires_ second.name ≡ o → option_map (inner_read part.0) o ≡ Some l → IsTrue (is_of_kind types (wiring.readable net) l.expr l.kind)
      inner second part at (Some p) got h =
          let same : inner_read part.0 p ≡ l = cc in
          subst (λ (m : Lower). IsTrue (is_of_kind types (wiring.readable net) m.expr m.kind)) same
          (subst IsTrue (sym (kind-Inner types (wiring.readable net) part.0 p.0 p.1)) (has_form_itself _ p.1 (inner_found (λ s. s.requires_) scope.parts place.first.name second.name part p at got)))
      inner second part at None got h = absurd (cc)

      of_part : (second : NameAt) (o : Option (ℕ × Sides)) → part_at scope.parts place.first.name ≡ o → option_and_then (λ part. option_map (inner_read part.0) (port_at part.1.requires_ second.name)) o ≡ Some l → IsTrue (is_of_kind types (wiring.readable net) l.expr l.kind)
      of_part second (Some part) at h = inner second part at (port_at part.1.requires_ second.name) refl h
      of_part second None at h = absurd (cc)

      by_second : (o : Option NameAt) → readable_by scope place.first.name o ≡ Some l → IsTrue (is_of_kind types (wiring.readable net) l.expr l.kind)
      by_second None h = own (port_at scope.own.provides place.first.name) refl h
      by_second (Some second) h = of_part second (part_at scope.parts place.first.name) refl h

  -- Each port that a rule may constrain has its type.
  pub target_typed : (place : PlaceTree) (t : Target) → target scope place ≡ Some t → greater_kind net t.greater ≡ Some t.kind
  target_typed place t e = by_second place.second e
    where
      own : (o : Option (ℕ × Kind)) → port_at scope.own.requires_ place.first.name ≡ o → option_map own_target o ≡ Some t → greater_kind net t.greater ≡ Some t.kind
      own (Some p) got h =
          let same : own_target p ≡ t = cc in
          subst (λ (u : Target). greater_kind net u.greater ≡ Some u.kind) same (port_found scope.own.requires_ place.first.name p got)
      own None got h = absurd (cc)

      inner : (second : NameAt) (part : ℕ × Sides) → part_at scope.parts place.first.name ≡ Some part → (o : Option (ℕ × Kind)) → port_at part.1.provides second.name ≡ o → option_map (inner_target part.0) o ≡ Some t → greater_kind net t.greater ≡ Some t.kind
      inner second part at (Some p) got h =
          let same : inner_target part.0 p ≡ t = cc in
          subst (λ (u : Target). greater_kind net u.greater ≡ Some u.kind) same (inner_found (λ s. s.provides) scope.parts place.first.name second.name part p at got)
      inner second part at None got h = absurd (cc)

      of_part : (second : NameAt) (o : Option (ℕ × Sides)) → part_at scope.parts place.first.name ≡ o → option_and_then (λ part. option_map (inner_target part.0) (port_at part.1.provides second.name)) o ≡ Some t → greater_kind net t.greater ≡ Some t.kind
      of_part second (Some part) at h = inner second part at (port_at part.1.provides second.name) refl h
      of_part second None at h = absurd (cc)

      by_second : (o : Option NameAt) → target_by scope place.first.name o ≡ Some t → greater_kind net t.greater ≡ Some t.kind
      by_second None h = own (port_at scope.own.requires_ place.first.name) refl h
      by_second (Some second) h = of_part second (part_at scope.parts place.first.name) refl h

  module _ (means : (tree : ExprTree) → (reading types (readable scope) tree).faults ≡ [] → (m : Meaning) × Means types (readable scope) tree m)
      (typed : (tree : ExprTree) (m : Meaning) → Means types (readable scope) tree m → IsTrue (is_of_kind types (wiring.readable net) (lowered m).expr (lowered m).kind)) where
    -- What a rule writes that has both its sides.
    pub above_typed : (place : PlaceTree) (tree : ExprTree) → rule_faults types scope (rule.Above place tree) ≡ [] → (c : Constraint) × (constraint_of types scope (rule.Above place tree) ≡ c ∷ []) × ConstraintIsTyped types net c
    above_typed place tree none = at (target scope place) refl none
      where
        faults : List Fault
        faults = (reading types (readable scope) tree).faults

        sides : List Fault
        sides = side_faults place (target scope place) (option_map lowered (reading types (readable scope) tree).meaning)

        first : List Fault
        first = fault_unless (target scope place) (no_port place)

        kinds_are : (t : Target) (l : Lower) (same : Bool) → same_kind t.kind l.kind ≡ same → fault_if (not same) (sides_differ place) ≡ [] → t.kind ≡ l.kind
        kinds_are t l true e h = same_kind_is t.kind l.kind e
        kinds_are t l false e h = absurd (cc)

        at : (o : Option Target) → target scope place ≡ o → first ++ faults ++ sides ≡ [] → (c : Constraint) × (constraint_of types scope (rule.Above place tree) ≡ c ∷ []) × ConstraintIsTyped types net c
        at (Some t) placed h =
            let m = means tree (none_right first faults (none_left (first ++ faults) sides h)) in
            let l = lowered m.0 in
            let meant : option_map lowered (reading types (readable scope) tree).meaning ≡ Some l = ap (option_map lowered) m.1 in
            let equal = kinds_are t l (same_kind t.kind l.kind) refl (sym (λ j. side_faults place (placed j) (meant j)) ∙ none_right (first ++ faults) sides h) in (
              record { greater = t.greater; lower = l.expr },
              (λ j. constraint_by (placed j) (meant j)),
              record { kind = t.kind; greater = target_typed place t placed; lower = subst (λ (k : Kind). IsTrue (is_of_kind types (wiring.readable net) l.expr k)) (sym equal) (typed tree m.0 m.1) },
            )
        at None placed h =
            let none : no_port place ∷ [] ≡ [] = sym (ap (λ (o : Option Target). fault_unless o (no_port place)) placed) ∙ none_left first faults (none_left (first ++ faults) sides h) in absurd (cc)

    each_joined : {A : Type 0} (P : A → Type 0) (xs ys : List A) → Each P xs → Each P ys → Each P (xs ++ ys)
    each_joined P [] ys h k = k
    each_joined P (x ∷ xs) ys h k = (h.0, each_joined P xs ys h.1 k)

    rule_typed : (r : RuleTree) → rule_faults types scope r ≡ [] → Each (ConstraintIsTyped types net) (constraint_of types scope r)
    rule_typed (rule.Above place tree) none = let w = above_typed place tree none in subst (Each (ConstraintIsTyped types net)) (sym w.1) (w.2, tt)
    rule_typed (rule.Ignore place) none = tt

    -- The constraints of rules without a fault are typed.
    pub rules_typed : (rules : List RuleTree) → rules_faults types scope rules ≡ [] → Each (ConstraintIsTyped types net) (constraints_of types scope rules)
    rules_typed [] none = tt
    rules_typed (r ∷ rules) none =
        each_joined (ConstraintIsTyped types net) (constraint_of types scope r) (constraints_of types scope rules) (rule_typed r (none_left (rule_faults types scope r) (rules_faults types scope rules) none))
        (rules_typed rules (none_right (rule_faults types scope r) (rules_faults types scope rules) none))
