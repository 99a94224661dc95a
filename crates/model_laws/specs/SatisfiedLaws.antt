-- A constraint stays satisfied where its greater port carries no less, and what its lower expression reads is no more.
use Rattle.std.specs.Prelude.{◌≡◌, ℕ, Bool, IsTrue, List, [], ◌∷◌, map, Some}
use Rattle.std.proofs.Common.{sym, subst, ◌∙◌}
use Rattle.order_core.specs.Pointwise.{Pointwise}
use Rattle.value_type.specs.declared.kind.Kind.{Kind}
use Rattle.value_type.specs.declared.poset.Types.{Types}
use Rattle.value_type.specs.declared.value.Value.{Value}
use Rattle.value_type.specs.Fits.{row_fits}
use Rattle.value_type.specs.KindOrderLaws.{kind_laws}
use Rattle.value_type.specs.Leq.{leq, row_leq}
use Rattle.value_type.specs.PortKinds.{port_kinds}
use Rattle.design_model.specs.declared.design.Part.{Part}
use Rattle.design_model.specs.declared.expr.Constraint.{Constraint}
use Rattle.design_model.specs.declared.expr.Greater.{Greater}
use Rattle.design_model.specs.declared.expr.Greater.TheVariants as greater
use Rattle.design_model.specs.Holds.{Fit}
use Rattle.design_model.specs.Parts.{provided_ports, required_ports}
use Rattle.design_model.specs.Reading.{reads_port}
use Rattle.design_model.specs.Rows.{Row}
use Rattle.design_model.specs.Typed.{ConstraintIsTyped}
use Rattle.design_model.specs.ValueOf.{Reads}
use Rattle.design_model.specs.Wiring.{Wiring, Carried, provided_rows, required_rows, Satisfied, readable, greater_kind, greater_value}
use Rattle.design_model.specs.ExprRisesLaws.{value_rises}
use Rattle.design_model.specs.ValuesInOrder.{ReadsLeq, ValuesLeq}
use Rattle.design_model.specs.ValuesInOrderLaws.{itself, rows_at, part_row_at}

-- What the parts carry fits their ports.
pub record CarriedFits (t : Types) (net : Wiring) (carried : List Carried) : Type 0 where
  pub provided : Pointwise (λ kinds row. IsTrue (row_fits t kinds row)) net.provided (provided_rows carried)
  pub required : Pointwise (λ kinds row. IsTrue (row_fits t kinds row)) net.required (required_rows carried)

-- Each part's rows fit its ports.
abbrev pub EachFits : Types → List Part → List Carried → Type 0
EachFits t parts carried = Pointwise (λ p c. Fit t (provided_ports p.design) (required_ports p.design) c.provided c.required) parts carried

provided_fit : (t : Types) (parts : List Part) (carried : List Carried) → EachFits t parts carried
    → Pointwise (λ kinds row. IsTrue (row_fits t kinds row)) (map (λ p. port_kinds (provided_ports p.design)) parts) (provided_rows carried)
provided_fit t [] [] h = tt
provided_fit t [] (c ∷ carried) h = absurd h
provided_fit t (p ∷ parts) [] h = absurd h
provided_fit t (p ∷ parts) (c ∷ carried) h = (h.0.provided, provided_fit t parts carried h.1)

required_fit : (t : Types) (parts : List Part) (carried : List Carried) → EachFits t parts carried
    → Pointwise (λ kinds row. IsTrue (row_fits t kinds row)) (map (λ p. port_kinds (required_ports p.design)) parts) (required_rows carried)
required_fit t [] [] h = tt
required_fit t [] (c ∷ carried) h = absurd h
required_fit t (p ∷ parts) [] h = absurd h
required_fit t (p ∷ parts) (c ∷ carried) h = (h.0.required, required_fit t parts carried h.1)

module _ (t : Types) (net : Wiring) where
  -- What the port on the greater side carries rises with the own required values.
  pub greater_rises : (r s : Row) (carried : List Carried) (g : Greater) → IsTrue (row_fits t net.requires_ r) → IsTrue (row_fits t net.requires_ s) → IsTrue (row_leq t net.requires_ r s)
      → CarriedFits t net carried → (k : Kind) → greater_kind net g ≡ Some k → ValuesLeq t k (greater_value r carried g) (greater_value s carried g)
  greater_rises r s carried (greater.Own j) r_fits s_fits leq fit k e = rows_at t net.requires_ r s j k r_fits s_fits leq e
  greater_rises r s carried (greater.Inner i j) r_fits s_fits leq fit k e = itself t k _ (part_row_at t net.provided (provided_rows carried) i j k fit.provided e)

  pub satisfied_rises : (c : Constraint) → ConstraintIsTyped t net c → (promised : ℕ → ℕ → Bool) (r s : Row) (carried other : List Carried) (reads lesser : Reads)
      → ((k : Kind) → greater_kind net c.greater ≡ Some k → ValuesLeq t k (greater_value r carried c.greater) (greater_value s other c.greater))
      → ReadsLeq t (readable net) promised lesser reads → ((i j : ℕ) → IsTrue (reads_port c.lower i j) → IsTrue (promised i j))
      → Satisfied t net r carried reads c → Satisfied t net s other lesser c
  satisfied_rises c typed promised r s carried other reads lesser rises fall promise h =
      let k = typed.kind in
      let v = value_rises t (readable net) promised lesser reads fall c.lower promise k typed.lower in
      let u = rises k typed.greater in
      let kinds : h.kind ≡ k = let e : Some h.kind ≡ Some k = sym h.port_is ∙ typed.greater in cc in
      let below : v.high ≡ h.below = let e : Some v.high ≡ Some h.below = sym v.high_is ∙ h.lower_is in cc in
      let above : u.low ≡ h.above = let e : Some u.low ≡ Some h.above = sym u.low_is ∙ h.upper_is in cc in
      let held : IsTrue (leq t k v.high u.low) =
      subst (λ (z : Kind). IsTrue (leq t z v.high u.low)) kinds (subst (λ (z : Value). IsTrue (leq t h.kind z u.low)) (sym below) (subst (λ (z : Value). IsTrue (leq t h.kind h.below z)) (sym above) h.at_least)) in
      let order = kind_laws t k in
      record {
        kind = k;
        above = u.high;
        below = v.low;
        port_is = typed.greater;
        upper_is = u.high_is;
        lower_is = v.low_is;
        at_least = order.transitive v.low u.low u.high v.low_fits u.low_fits u.high_fits (order.transitive v.low v.high u.low v.low_fits v.high_fits u.low_fits v.ordered held) u.ordered;
      }

pub carried_fits : (t : Types) (net : Wiring) (parts : List Part) (carried : List Carried) → net.provided ≡ map (λ p. port_kinds (provided_ports p.design)) parts
    → net.required ≡ map (λ p. port_kinds (required_ports p.design)) parts → EachFits t parts carried → CarriedFits t net carried
carried_fits t net parts carried p q h = record {
  provided = rw p (provided_fit t parts carried h);
  required = rw q (required_fit t parts carried h);
}
