-- When a design provides at least f and requires at most r, made as a witness says.
use Rattle.std.specs.Prelude.{IsTrue, List, map, slice_get, IsSomeAnd}
use Rattle.order_core.specs.Pointwise.{Each, Pointwise}
use Rattle.value_type.specs.declared.port.Port.{Port}
use Rattle.value_type.specs.declared.poset.Types.{Types}
use Rattle.value_type.specs.Fits.{row_fits}
use Rattle.value_type.specs.Leq.{row_leq}
use Rattle.value_type.specs.PortKinds.{port_kinds}
use Rattle.design_model.specs.declared.design.CatRow.{CatRow}
use Rattle.design_model.specs.declared.design.Design.{Design, rec-Design}
use Rattle.design_model.specs.declared.design.Design.TheOpen.{Design-F, Part-F}
use Rattle.design_model.specs.declared.design.Part.{Part}
use Rattle.design_model.specs.declared.witness.PartWitness.{PartWitness}
use Rattle.design_model.specs.declared.witness.Witness.{Witness, out-Witness}
use Rattle.design_model.specs.declared.witness.Witness.TheOpen.{Witness-F}
use Rattle.design_model.specs.Rows.{Row}
use Rattle.design_model.specs.ValueOf.{reads_of}
use Rattle.design_model.specs.Wiring.{Wiring, wiring_of, Carried, required_rows, Satisfied}

-- A witness, seen one level deep.
abbrev pub Layer : Type 0
Layer = Witness-F Witness PartWitness

-- There is one value of its type for each port.
pub record Fit (t : Types) (provides requires_ : List Port) (f r : Row) : Type 0 where
  pub provided : IsTrue (row_fits t (port_kinds provides) f)
  pub required : IsTrue (row_fits t (port_kinds requires_) r)

-- The row of a catalogue provides at least f and requires at most r.
pub record RowHolds (t : Types) (provides requires_ : List Port) (f r : Row) (row : CatRow) : Type 0 where
  pub enough : IsTrue (row_leq t (port_kinds provides) f row.provided)
  pub within : IsTrue (row_leq t (port_kinds requires_) row.required r)

-- A catalogue holds by one of its rows.
abbrev pub HoldsByRow : Types → List Port → List Port → List CatRow → Row → Row → Layer → Type 0
HoldsByRow t provides requires_ rows f r (Witness-F.Row number) = IsSomeAnd (slice_get rows number) (RowHolds t provides requires_ f r)
HoldsByRow t provides requires_ rows f r _ = ⊥

-- A choice holds by one of its branches.
abbrev pub HoldsByBranch : {Y : Type 0} → (Y → Row → Row → Witness → Type 0) → List Y → Row → Row → Layer → Type 0
HoldsByBranch holds branches f r (Witness-F.Branch number inner) = IsSomeAnd (slice_get branches number) (λ branch. holds branch f r inner)
HoldsByBranch holds branches f r _ = ⊥

-- The part holds at the rows that its witness says it carries.
abbrev pub PartHolds : {Y : Type 0} → (Y → Row → Row → Witness → Type 0) → Y → PartWitness → Type 0
PartHolds holds part w = holds part w.provided w.required w.inner

abbrev pub carried_by : PartWitness → Carried
carried_by w = record { provided = w.provided; required = w.required }

-- Each constraint is satisfied where the parts carry these rows.
abbrev pub AllSatisfied : Types → Wiring → Row → Row → List Carried → Type 0
AllSatisfied t net f r carried = Each (Satisfied t net r carried (reads_of f (required_rows carried))) net.constraints

-- A net holds where each part does, at rows that satisfy the constraints.
pub record PartsHold (t : Types) (net : Wiring) (EachHolds : List PartWitness → Type 0) (f r : Row) (ws : List PartWitness) : Type 0 where
  pub parts : EachHolds ws
  pub constraints : AllSatisfied t net f r (map carried_by ws)

abbrev pub HoldsByParts : Types → Wiring → (List PartWitness → Type 0) → Row → Row → Layer → Type 0
HoldsByParts t net EachHolds f r (Witness-F.Inner ws) = PartsHold t net EachHolds f r ws
HoldsByParts t net EachHolds f r _ = ⊥

-- One level of a design. X stands for the designs below and Y for the branches or parts: `part` gives the part that a Y is, and `holds_part` says when it holds.
abbrev pub HoldsAt : Types → (X Y : Type 0) → (X → Design) → (Y → Part) → (X → Row → Row → Witness → Type 0) → (Y → Row → Row → Witness → Type 0)
    → Design-F X Y → Row → Row → Witness → Type 0
HoldsAt t X Y design part holds holds_part (Design-F.Cat provides requires_ rows) f r w =
    Fit t provides requires_ f r × HoldsByRow t provides requires_ rows f r (out-Witness w)
HoldsAt t X Y design part holds holds_part (Design-F.Choice provides requires_ branches) f r w =
    Fit t provides requires_ f r × HoldsByBranch holds_part branches f r (out-Witness w)
HoldsAt t X Y design part holds holds_part (Design-F.Net provides requires_ parts constraints) f r w =
    Fit t provides requires_ f r × HoldsByParts t (wiring_of part provides requires_ parts constraints) (Pointwise (PartHolds holds_part) parts) f r (out-Witness w)

abbrev pub HoldsAtPart : (X Y : Type 0) → (X → Design) → (Y → Part) → (X → Row → Row → Witness → Type 0) → (Y → Row → Row → Witness → Type 0)
    → Part-F X Y → Row → Row → Witness → Type 0
HoldsAtPart X Y design part holds holds_part p = holds p.design

-- Made as the witness says, the design provides at least f and requires at most r. A catalogue holds by a row, a choice by a branch, and a net by rows that its parts carry.
unfoldable pub Holds : Types → Design → Row → Row → Witness → Type 0
Holds t = rec-Design (Row → Row → Witness → Type 0) (Row → Row → Witness → Type 0) (HoldsAt t) HoldsAtPart
