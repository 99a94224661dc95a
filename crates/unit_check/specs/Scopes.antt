-- The ports that the rules of a file may name, and what its expressions may read.
use Rattle.std.specs.Prelude.{ℕ, List, map, Option, Some, None, option_and_then, option_map, slice_get}
use Rattle.design_lexer.specs.declared.tree.BranchTree.{BranchTree}
use Rattle.design_lexer.specs.declared.tree.File.{File}
use Rattle.design_lexer.specs.declared.tree.NameAt.{NameAt}
use Rattle.design_lexer.specs.declared.tree.ParamTree.{ParamTree}
use Rattle.design_lexer.specs.declared.tree.PlaceTree.{PlaceTree}
use Rattle.design_model.specs.declared.expr.Expr.TheVariants as expr
use Rattle.design_model.specs.declared.expr.Greater.{Greater}
use Rattle.design_model.specs.declared.expr.Greater.TheVariants as greater
use Rattle.expr_lower.specs.declared.meaning.Lower.{Lower}
use Rattle.name_index.specs.Places.{place_of}
use Rattle.name_table.specs.declared.source.SourceFile.{SourceFile}
use Rattle.side_ports.specs.Sides.{Sides, port_at, sides_of}
use Rattle.unit_check.specs.Declaring.{params_of, part_ports, parts_of, ports_at}
use Rattle.value_type.specs.declared.kind.Kind.{Kind}
use Rattle.value_type.specs.declared.poset.Types.{Types}

-- A branch or an instance, with the ports of what it names.
pub record PartPorts : Type 0 where
  pub name : List ℕ
  pub ports : Sides

-- The ports of a file, and those of its branches or instances.
pub record ScopePorts : Type 0 where
  pub own : Sides
  pub parts : List PartPorts

abbrev pub part_scope : List SourceFile → Types → List ParamTree → BranchTree → PartPorts
part_scope files types params part = record { name = part.name.name; ports = sides_of types (part_ports files params part) }

-- the scope of this file, which is the one of this number
abbrev pub scope_at : List SourceFile → Types → ℕ → File → ScopePorts
scope_at files types i f = record {
  own = sides_of types (ports_at files i);
  parts = map (part_scope files types (params_of f)) (parts_of f);
}

-- the number of the first part of this name, and its ports
abbrev pub part_at : List PartPorts → List ℕ → Option (ℕ × Sides)
part_at parts name = option_and_then (λ i. option_map (λ part. (i, part.ports)) (slice_get parts i)) (place_of (λ p. p.name) parts name)

-- the port of this number of the net itself, read
abbrev pub own_read : ℕ × Kind → Lower
own_read port = record { kind = port.1; expr = expr.Own port.0 }

-- a port of the part of this number, read
abbrev pub inner_read : ℕ → ℕ × Kind → Lower
inner_read i port = record { kind = port.1; expr = expr.Inner i port.0 }

abbrev pub readable_by : ScopePorts → List ℕ → Option NameAt → Option Lower
readable_by scope first None = option_map own_read (port_at scope.own.provides first)
readable_by scope first (Some second) = option_and_then (λ part. option_map (inner_read part.0) (port_at part.1.requires_ second.name)) (part_at scope.parts first)

-- the port that a place names, if an expression may read it: an own provided port, or a part's required port
abbrev pub readable : ScopePorts → PlaceTree → Option Lower
readable scope place = readable_by scope place.first.name place.second

-- A port on the greater side, with its type.
pub record Target : Type 0 where
  pub greater : Greater
  pub kind : Kind

abbrev pub own_target : ℕ × Kind → Target
own_target port = record { greater = greater.Own port.0; kind = port.1 }

abbrev pub inner_target : ℕ → ℕ × Kind → Target
inner_target i port = record { greater = greater.Inner i port.0; kind = port.1 }

abbrev pub target_by : ScopePorts → List ℕ → Option NameAt → Option Target
target_by scope first None = option_map own_target (port_at scope.own.requires_ first)
target_by scope first (Some second) = option_and_then (λ part. option_map (inner_target part.0) (port_at part.1.provides second.name)) (part_at scope.parts first)

-- the port that a place names, if a rule may constrain it: an own required port, or a part's provided port
abbrev pub target : ScopePorts → PlaceTree → Option Target
target scope place = target_by scope place.first.name place.second
