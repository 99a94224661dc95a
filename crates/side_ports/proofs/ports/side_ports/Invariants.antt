use Rattle.std.proofs.Common.{◌≡◌, ◌++◌, drop}
use Rattle.std.specs.List.{flat_map}
use Rattle.design_lexer.specs.declared.tree.Side.TheVariants as side
use Rattle.name_index.specs.Names.{number_of}
use Rattle.side_ports.specs.Sides.{side_ports}
use Rattle.tree_units.specs.Ports.{port_faults}
use Rattle.side_ports.proofs.ports.side_ports.Given as goal

-- What is left decides, and follows on both sides.
abbrev pub invariant-loop-tree : goal.invariant-loop-tree
invariant-loop-tree l =
    (flat_map (port_faults (number_of l.posets)) l.trees ≡ flat_map (port_faults (number_of l.posets)) (drop l.tree-index l.trees))
    × (side_ports (number_of l.posets) side.Provides l.trees ≡ l.provides.items ++ side_ports (number_of l.posets) side.Provides (drop l.tree-index l.trees))
    × (side_ports (number_of l.posets) side.Requires l.trees ≡ l.requires_.items ++ side_ports (number_of l.posets) side.Requires (drop l.tree-index l.trees))
