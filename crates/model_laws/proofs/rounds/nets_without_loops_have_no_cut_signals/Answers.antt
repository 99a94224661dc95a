use Rattle.design_model.specs.Steady.{wiring}
use Rattle.model_laws.proofs.AcyclicLemmas.{no_cut_signals, as_many_parts}
use Rattle.model_laws.proofs.rounds.nets_without_loops_have_no_cut_signals.Goals as goal

pub returns : goal.returns
returns c = λ net acyclic. no_cut_signals (wiring net) (as_many_parts net.provides net.requires_ net.parts net.constraints) acyclic
