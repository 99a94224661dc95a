use Rattle.model_laws.specs.FeasibleRoundsLaws.{feasible_in_rounds}
use Rattle.round_laws.proofs.EnoughMet.{minimum_below}
use Rattle.round_laws.proofs.minima.rows_are_above_minima.Goals as goal

pub returns : goal.returns
returns c = record { rounds = minimum_below; feasible = λ t n d f r typed h. minimum_below t n d f r (feasible_in_rounds t n d f r typed h) }
