use Rattle.tree_units.proofs.PortMeanings.{port_faultless, port_meaning}
use Rattle.tree_units.proofs.laws.ports_have_meanings_or_faults.Goals as goal

pub returns : goal.returns
returns c = record { meaning = port_meaning; faultless = port_faultless }
