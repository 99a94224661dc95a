-- The ports that trees write, by their sides.
use Rattle.std.specs.Prelude.{ℕ, Bool, ◌||◌, is_some, List, [], ◌∷◌, filter, Option, Some, None, option_and_then, option_map, slice_get}
use Rattle.std.specs.List.{flat_map}
use Rattle.design_lexer.specs.Sides.{same_side}
use Rattle.design_lexer.specs.declared.tree.PortTree.{PortTree}
use Rattle.design_lexer.specs.declared.tree.Side.{Side}
use Rattle.design_lexer.specs.declared.tree.Side.TheVariants.{Provides, Requires}
use Rattle.name_index.specs.Places.{place_of}
use Rattle.tree_units.specs.Ports.{port_of}
use Rattle.tree_units.specs.Posets.{poset_place}
use Rattle.value_type.specs.declared.kind.Kind.{Kind}
use Rattle.value_type.specs.declared.port.Port.{Port}
use Rattle.value_type.specs.declared.poset.Types.{Types}

abbrev pub if_there : {A : Type 0} → Option A → List A
if_there (Some x) = x ∷ []
if_there None = []

-- the ports of one side that have no fault, in order
abbrev pub side_ports : (List ℕ → Option ℕ) → Side → List PortTree → List Port
side_ports posets side ports = flat_map (λ p. if_there (port_of posets p)) (filter (λ p. same_side side p.side) ports)

-- Ports by their sides.
pub record Sides : Type 0 where
  pub provides : List Port
  pub requires_ : List Port

abbrev pub sides_of : Types → List PortTree → Sides
sides_of types ports = record {
  provides = side_ports (poset_place types) Provides ports;
  requires_ = side_ports (poset_place types) Requires ports;
}

-- the number of the first port of this name, and its type
abbrev pub port_at : List Port → List ℕ → Option (ℕ × Kind)
port_at ports name = option_and_then (λ j. option_map (λ port. (j, port.kind)) (slice_get ports j)) (place_of (λ p. p.name) ports name)

-- One of the sides has a port of this name.
abbrev pub has_port : Sides → List ℕ → Bool
has_port sides name = is_some (port_at sides.provides name) || is_some (port_at sides.requires_ name)
