use Rattle.std.proofs.Common.{◌≡◌, ◌++◌, drop, false, map}
use Rattle.std.specs.List.{flat_map}
use Rattle.std.specs.Prelude.{option_map}
use Rattle.name_index.specs.Names.{number_of}
use Rattle.tree_units.specs.Ports.{kind_of, port_unit_of, some_off_grid, type_faults}
use Rattle.tree_units.specs.Together.{together}
use Rattle.tree_units.proofs.ports.+types.Given as goal

-- What is left decides, and those so far stand before what is left gives.
abbrev pub invariant-types_of-loop-tree : goal.invariant-types_of-loop-tree
invariant-types_of-loop-tree l = record {
  grid : some_off_grid (drop l.tree-index l.trees) ≡ false;
  faults : flat_map (type_faults (number_of l.posets)) l.trees ≡ flat_map (type_faults (number_of l.posets)) (drop l.tree-index l.trees);
  kinds : together (map (kind_of (number_of l.posets)) l.trees) ≡ option_map (λ rest. l.kinds.items ++ rest) (together (map (kind_of (number_of l.posets)) (drop l.tree-index l.trees)));
  units : together (map port_unit_of l.trees) ≡ option_map (λ rest. l.units.items ++ rest) (together (map port_unit_of (drop l.tree-index l.trees)));
}
