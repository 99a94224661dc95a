-- What joins the parts of a net: the types of its ports, and its constraints.
use Rattle.std.specs.Prelude.{◌≡◌, ℕ, IsTrue, List, Option, Some, slice_get, map, option_and_then}
use Rattle.value_type.specs.declared.kind.Kind.{Kind}
use Rattle.value_type.specs.declared.port.Port.{Port}
use Rattle.value_type.specs.declared.poset.Types.{Types}
use Rattle.value_type.specs.declared.value.Value.{Value}
use Rattle.value_type.specs.Leq.{leq}
use Rattle.value_type.specs.PortKinds.{port_kinds}
use Rattle.design_model.specs.declared.design.Part.{Part}
use Rattle.design_model.specs.declared.expr.Constraint.{Constraint}
use Rattle.design_model.specs.declared.expr.Greater.{Greater}
use Rattle.design_model.specs.declared.expr.Greater.TheVariants as greater
use Rattle.design_model.specs.ExprKinds.{PortTypes}
use Rattle.design_model.specs.Parts.{provided_ports, required_ports}
use Rattle.design_model.specs.Rows.{Row}
use Rattle.design_model.specs.ValueOf.{Reads, value_of, port_at}

-- The types of a net's own provided and required ports, those of each part's provided and required ports, and the constraints.
pub record Wiring : Type 0 where
  pub provides : List Kind
  pub requires_ : List Kind
  pub provided : List (List Kind)
  pub required : List (List Kind)
  pub constraints : List Constraint

-- the wiring of a net with these ports, parts and constraints
abbrev pub wiring_of : {Y : Type 0} → (Y → Part) → List Port → List Port → List Y → List Constraint → Wiring
wiring_of part provides requires_ parts constraints = record {
  provides = port_kinds provides;
  requires_ = port_kinds requires_;
  provided = map (λ y. port_kinds (provided_ports (part y).design)) parts;
  required = map (λ y. port_kinds (required_ports (part y).design)) parts;
  constraints = constraints;
}

-- the type of a port of one of the parts
abbrev pub kind_at : List (List Kind) → ℕ → ℕ → Option Kind
kind_at kinds i j = option_and_then (λ ports. slice_get ports j) (slice_get kinds i)

-- the types of the ports that its expressions may read
abbrev pub readable : Wiring → PortTypes
readable net = record { own = slice_get net.provides; inner = kind_at net.required }

-- the type of the port on the greater side
abbrev pub greater_kind : Wiring → Greater → Option Kind
greater_kind net (greater.Own j) = slice_get net.requires_ j
greater_kind net (greater.Inner i j) = kind_at net.provided i j

-- What a part carries at its provided and its required ports.
pub record Carried : Type 0 where
  pub provided : Row
  pub required : Row

abbrev pub provided_rows : List Carried → List Row
provided_rows carried = map (λ c. c.provided) carried

abbrev pub required_rows : List Carried → List Row
required_rows carried = map (λ c. c.required) carried

-- the value at the port on the greater side, where the own required ports carry r
abbrev pub greater_value : Row → List Carried → Greater → Option Value
greater_value r carried (greater.Own j) = slice_get r j
greater_value r carried (greater.Inner i j) = port_at (provided_rows carried) i j

-- The port and both values are there, and the upper value is at least the lower one.
pub record IsAtLeast (t : Types) (port : Option Kind) (upper lower : Option Value) : Type 0 where
  pub kind : Kind
  pub above : Value
  pub below : Value
  pub port_is : port ≡ Some kind
  pub upper_is : upper ≡ Some above
  pub lower_is : lower ≡ Some below
  pub at_least : IsTrue (leq t kind below above)

-- The constraint is satisfied: its greater port carries at least the value of its lower expression, where the own required ports carry r, the parts carry these rows, and the expression reads these values.
abbrev pub Satisfied : Types → Wiring → Row → List Carried → Reads → Constraint → Type 0
Satisfied t net r carried reads c = IsAtLeast t (greater_kind net c.greater) (greater_value r carried c.greater) (value_of c.lower reads)
