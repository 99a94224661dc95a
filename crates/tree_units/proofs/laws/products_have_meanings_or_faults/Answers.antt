use Rattle.tree_units.specs.ConstantLaws.{product_faultless, product_meaning}
use Rattle.tree_units.proofs.laws.products_have_meanings_or_faults.Goals as goal

pub returns : goal.returns
returns c = record { meaning = product_meaning; faultless = product_faultless }
