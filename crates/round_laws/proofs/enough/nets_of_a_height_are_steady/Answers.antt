use Rattle.round_laws.proofs.EnoughRounds.{steady_in_enough, chains_are_steady}
use Rattle.round_laws.proofs.enough.nets_of_a_height_are_steady.Goals as goal

pub returns : goal.returns
returns c = record { rounds = steady_in_enough; chains = λ t n h net f typed fits high. chains_are_steady t n net f h typed fits high }
