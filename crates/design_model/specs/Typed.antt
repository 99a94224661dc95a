-- When a design is typed.
use Rattle.std.specs.Prelude.{◌≡◌, ◌<◌, ◌^◌, Bool, true, ◌&&◌, IsTrue, is_some, List, length, map, Some, slice_get}
use Rattle.std.specs.List.{list_all}
use Rattle.order_core.specs.Pointwise.{Each, Pointwise}
use Rattle.value_type.specs.declared.kind.Kind.{Kind, fold-Kind}
use Rattle.value_type.specs.declared.kind.Kind.TheOpen.{Kind-F}
use Rattle.value_type.specs.declared.port.Port.{Port}
use Rattle.value_type.specs.declared.poset.Types.{Types}
use Rattle.value_type.specs.Fits.{row_fits}
use Rattle.value_type.specs.PortKinds.{port_kinds}
use Rattle.value_type.specs.Ports.{is_whole}
use Rattle.design_model.specs.declared.design.CatRow.{CatRow}
use Rattle.design_model.specs.declared.design.Design.{Design, rec-Design}
use Rattle.design_model.specs.declared.design.Design.TheOpen.{Design-F, Part-F}
use Rattle.design_model.specs.declared.design.Part.{Part}
use Rattle.design_model.specs.declared.expr.Constraint.{Constraint}
use Rattle.design_model.specs.declared.expr.Expr.{Expr}
use Rattle.design_model.specs.ExprKinds.{is_of_kind}
use Rattle.design_model.specs.Parts.{provided_ports, required_ports, rows_of}
use Rattle.design_model.specs.Rows.{Row}
use Rattle.design_model.specs.Wiring.{Wiring, wiring_of, readable, greater_kind, kind_at}

-- The expression is typed for these rows, and of this type: the own provided values and each part's required values fit types for which it is.
pub record IsTypedFor (t : Types) (own : Row) (inner : List Row) (expr : Expr) (kind : Kind) : Type 0 where
  pub own_kinds : List Kind
  pub inner_kinds : List (List Kind)
  pub own_fits : IsTrue (row_fits t own_kinds own)
  pub inner_fit : Pointwise (λ kinds row. IsTrue (row_fits t kinds row)) inner_kinds inner
  pub typed : IsTrue (is_of_kind t (record { own = slice_get own_kinds; inner = kind_at inner_kinds }) expr kind)

-- one level of a type, with the answers of its parts in their place
abbrev pub known_step : Types → Kind-F Bool → Bool
known_step t (Kind-F.Num dim) = true
known_step t (Kind-F.Fin k) = is_some (slice_get t.posets k)
known_step t (Kind-F.Prod parts) = list_all (λ part. part) parts
known_step t (Kind-F.Up k) = is_some (slice_get t.posets k)

-- Each poset that the type names is there.
abbrev pub is_known : Types → Kind → Bool
is_known t = fold-Kind Bool (known_step t)

-- The port's posets are there, and its unit has the form of its type.
abbrev pub is_port : Types → Port → Bool
is_port t port = is_known t port.kind && is_whole port

-- The list has fewer than 2^32 items.
abbrev pub IsFew : {A : Type 0} → List A → Type 0
IsFew xs = length xs < 2 ^ 32

-- There are fewer than 2^32 ports; the posets of each are there, and its unit has the form of its type.
pub record ArePorts (t : Types) (ports : List Port) : Type 0 where
  pub few : IsFew ports
  pub each : IsTrue (list_all (is_port t) ports)

-- The row has one value of the right type for each provided and each required port.
abbrev pub row_is_typed : Types → List Port → List Port → CatRow → Bool
row_is_typed t provides requires_ row = row_fits t (port_kinds provides) row.provided && row_fits t (port_kinds requires_) row.required

-- Each row of a catalogue has one value of each port's type.
abbrev pub rows_fit : Types → Design → Bool
rows_fit t d = list_all (row_is_typed t (provided_ports d) (required_ports d)) (rows_of d)

-- Both sides of the constraint are of one type, and the ports and parts that it names are there.
pub record ConstraintIsTyped (t : Types) (net : Wiring) (c : Constraint) : Type 0 where
  pub kind : Kind
  pub greater : greater_kind net c.greater ≡ Some kind
  pub lower : IsTrue (is_of_kind t (readable net) c.lower kind)

pub record IsTypedCat (t : Types) (provides requires_ : List Port) (rows : List CatRow) : Type 0 where
  pub provided_ports : ArePorts t provides
  pub required_ports : ArePorts t requires_
  pub few_rows : IsFew rows
  pub rows_fit : IsTrue (list_all (row_is_typed t provides requires_) rows)

-- The branch has these types of ports.
pub record HasPorts (provides requires_ : List Port) (branch : Part) : Type 0 where
  pub provided : port_kinds (provided_ports branch.design) ≡ port_kinds provides
  pub required : port_kinds (required_ports branch.design) ≡ port_kinds requires_

pub record IsTypedChoice (t : Types) (provides requires_ : List Port) (branches : List Part) (EachIsTyped : Type 0) : Type 0 where
  pub provided_ports : ArePorts t provides
  pub required_ports : ArePorts t requires_
  pub some : 0 < length branches
  pub few : IsFew branches
  pub same : Each (HasPorts provides requires_) branches
  pub typed : EachIsTyped

pub record IsTypedNet (t : Types) (provides requires_ : List Port) (parts : List Part) (constraints : List Constraint) (EachIsTyped : Type 0) : Type 0 where
  pub provided_ports : ArePorts t provides
  pub required_ports : ArePorts t requires_
  pub few_parts : IsFew parts
  pub few_constraints : IsFew constraints
  pub each_constraint : Each (ConstraintIsTyped t (wiring_of (λ p. p) provides requires_ parts constraints)) constraints
  pub typed : EachIsTyped

-- One level of a design. X stands for the designs below and Y for the branches or parts: `part` gives the part that a Y is, and `typed_part` says whether it is typed.
abbrev pub IsTypedAt : Types → (X Y : Type 0) → (X → Design) → (Y → Part) → (X → Type 0) → (Y → Type 0) → Design-F X Y → Type 0
IsTypedAt t X Y design part typed typed_part (Design-F.Cat provides requires_ rows) = IsTypedCat t provides requires_ rows
IsTypedAt t X Y design part typed typed_part (Design-F.Choice provides requires_ branches) = IsTypedChoice t provides requires_ (map part branches) (Each typed_part branches)
IsTypedAt t X Y design part typed typed_part (Design-F.Net provides requires_ parts constraints) = IsTypedNet t provides requires_ (map part parts) constraints (Each typed_part parts)

abbrev pub IsTypedAtPart : (X Y : Type 0) → (X → Design) → (Y → Part) → (X → Type 0) → (Y → Type 0) → Part-F X Y → Type 0
IsTypedAtPart X Y design part typed typed_part p = typed p.design

-- Every port is whole and its posets are there; no list is too long; each row of a catalogue fits its ports; a choice has a branch, and each has the choice's types of ports;
-- both sides of each constraint are of one type, and name what is there; and each branch and part is typed.
unfoldable pub IsTyped : Types → Design → Type 0
IsTyped t = rec-Design (Type 0) (Type 0) (IsTypedAt t) IsTypedAtPart
