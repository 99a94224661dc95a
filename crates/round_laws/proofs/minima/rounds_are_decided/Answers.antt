use Rattle.round_laws.proofs.DecidedRounds.{decided_in}
use Rattle.round_laws.proofs.minima.rounds_are_decided.Goals as goal

pub returns : goal.returns
returns c = decided_in
