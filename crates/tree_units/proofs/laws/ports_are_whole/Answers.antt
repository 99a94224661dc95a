use Rattle.tree_units.proofs.PortMeanings.{port_name, port_posets, port_whole}
use Rattle.tree_units.proofs.laws.ports_are_whole.Goals as goal

pub returns : goal.returns
returns c = record { name = port_name; whole = port_whole; posets = port_posets }
