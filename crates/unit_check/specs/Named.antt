-- Which ports of a part an index of named ports has.
use Rattle.std.specs.Prelude.{ℕ, Bool, List}
use Rattle.design_lexer.specs.declared.tree.PortTree.{PortTree}
use Rattle.name_index.specs.Names.{number_of}
use Rattle.name_table.specs.Stems.{has_element}
use Rattle.unit_check.specs.Connection.{side_connected}
use Rattle.unit_check.specs.declared.named.NamedPorts.{NamedPorts}

-- The part of this name has the port, by the port's side among those that are placed or read.
abbrev pub connected_by : NamedPorts → List ℕ → PortTree → Bool
connected_by named part port = side_connected port.side (has_element named.placed (number_of named.parts part) port.name.name) (has_element named.read (number_of named.parts part) port.name.name)
