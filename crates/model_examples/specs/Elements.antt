-- Designs over one finite poset.
use Rattle.std.specs.Prelude.{ℕ, List, [], ◌∷◌}
use Rattle.value_type.specs.declared.kind.Kind.TheVariants as kind
use Rattle.value_type.specs.declared.kind.Kind.{Kind}
use Rattle.value_type.specs.declared.port.Port.{Port}
use Rattle.value_type.specs.declared.port.PortUnit.TheVariants as unit
use Rattle.value_type.specs.declared.poset.Poset.{Poset}
use Rattle.value_type.specs.declared.poset.Types.{Types}

-- the types over this poset alone
abbrev pub types_over : Poset → Types
types_over p = record { posets = p ∷ [] }

-- the type of its elements
abbrev pub elements : Kind
elements = kind.Fin 0

-- a port of elements
abbrev pub element_port : List ℕ → Port
element_port name = record { name = name; kind = elements; unit = unit.Poset }
