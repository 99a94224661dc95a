use Rattle.std.proofs.Common.{rules, refl}
use Rattle.name_index.specs.Names.{number_of}
use Rattle.tree_units.specs.Ports.{has_off_grid, kind_of, port_unit_of, type_faults}
use Rattle.tree_units.proofs.PortLevels.{faults-Product, kind-Product, unit-Product}
use Rattle.tree_units.proofs.PortParts.{faults_next, none_next, there_next}
use Rattle.tree_units.proofs.ports.+types.Goals as goal

pub type_of-returns-in_err-parts-in-Product : goal.type_of-returns-in_err-parts-in-Product
type_of-returns-in_err-parts-in-Product t c = rw (c.in-Product.is, faults-Product, ← c.items-in-Product.ensures) (search rules)

pub type_of-returns-in_ok-parts-in-Product : goal.type_of-returns-in_ok-parts-in-Product
type_of-returns-in_ok-parts-in-Product t c = (
  rw (c.in-Product.is, faults-Product, ← c.items-in-Product.ensures) c.in_ok-parts-in-Product.ensures.0,
  (
    rw (c.in-Product.is, kind-Product, ← c.items-in-Product.ensures, ← c.in_ok-parts-in-Product.ensures.1.0, c.of.ensures) refl,
    rw (c.in-Product.is, unit-Product, ← c.items-in-Product.ensures, ← c.in_ok-parts-in-Product.ensures.1.1, c.of-in-Product.ensures) refl,
  ),
)

pub types_of-loop-tree-preserved : goal.types_of-loop-tree-preserved
types_of-loop-tree-preserved t c = record {
  grid = (none_next c.args.trees.now c.loop-tree.tree-index c.tree-item.result c.loop-tree-test.true c.tree-item.is has_off_grid c.loop-tree.invariant.grid).1;
  faults = faults_next c.args.trees.now c.loop-tree.tree-index c.tree-item.result c.loop-tree-test.true c.tree-item.is (type_faults (number_of c.args.posets.now)) _ c.in_ok-typed.ensures.0 c.loop-tree.invariant.faults;
  kinds = there_next c.args.trees.now c.loop-tree.tree-index c.tree-item.result c.loop-tree-test.true c.tree-item.is (kind_of (number_of c.args.posets.now)) c.in_ok-typed.typed.kind c.in_ok-typed.ensures.1.0 _ _ _ c.in_ok-push.ensures.items c.loop-tree.invariant.kinds;
  units = there_next c.args.trees.now c.loop-tree.tree-index c.tree-item.result c.loop-tree-test.true c.tree-item.is port_unit_of c.in_ok-typed.typed.unit c.in_ok-typed.ensures.1.1 _ _ _ c.in_ok-push-2.ensures.items c.loop-tree.invariant.units;
}
