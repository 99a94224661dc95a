use Rattle.std.proofs.Common.{◌^◌, ◌<◌, length, subst, sym, List, drop}
use Rattle.design_lexer.specs.declared.tree.Side.TheVariants as side
use Rattle.name_index.specs.Names.{number_of}
use Rattle.side_ports.specs.SideLaws.{side_few}
use Rattle.side_ports.specs.Sides.{side_ports}
use Rattle.value_type.specs.declared.port.Port.{Port}
use Rattle.side_ports.proofs.ports.side_ports.Goals as goal

pub port_numbers-requires : goal.port_numbers-requires
port_numbers-requires c = record {
  few = subst (λ (ports : List Port). length ports < 2 ^ 32) (sym c.as_slice.ensures.value)
      (side_few (number_of c.args.posets.now) side.Provides c.args.trees.now c.loop-tree.provides.items (side_ports (number_of c.args.posets.now) side.Provides (drop c.loop-tree.tree-index c.args.trees.now)) c.loop-tree.invariant.1 c.requires.few);
}

pub port_numbers-requires-2 : goal.port_numbers-requires-2
port_numbers-requires-2 c = record {
  few = subst (λ (ports : List Port). length ports < 2 ^ 32) (sym c.as_slice-2.ensures.value)
      (side_few (number_of c.args.posets.now) side.Requires c.args.trees.now c.loop-tree.requires_.items (side_ports (number_of c.args.posets.now) side.Requires (drop c.loop-tree.tree-index c.args.trees.now)) c.loop-tree.invariant.2 c.requires.few);
}
