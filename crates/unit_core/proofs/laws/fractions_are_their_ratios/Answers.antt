use Rattle.unit_core.specs.FractionLaws.{fraction_again, ratio_again}
use Rattle.unit_core.proofs.laws.fractions_are_their_ratios.Goals as goal

pub returns : goal.returns
returns c = record { again = fraction_again; only = ratio_again }
