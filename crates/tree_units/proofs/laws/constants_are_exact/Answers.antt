use Rattle.tree_units.specs.ConstantLaws.{constant_exact, product_exact}
use Rattle.tree_units.proofs.laws.constants_are_exact.Goals as goal

pub returns : goal.returns
returns c = record { written = constant_exact; product = product_exact }
