use Rattle.tree_units.specs.ConstantLaws.{constant_faultless, constant_meaning}
use Rattle.tree_units.proofs.laws.constants_have_meanings_or_faults.Goals as goal

pub returns : goal.returns
returns c = record { meaning = constant_meaning; faultless = constant_faultless }
