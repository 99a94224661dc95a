use Rattle.round_laws.proofs.EnoughMet.{all_met_are_steady, all_are_shown, same_minima}
use Rattle.round_laws.proofs.enough.enough_rounds_are_enough.Goals as goal

pub returns : goal.returns
returns c = record {
  steady = λ t n enough d f typed is many fit. all_met_are_steady t n enough d f typed is many fit;
  shown = λ t n enough d f r typed is many h. all_are_shown t n enough d f typed is many r h;
  minima = λ t n enough d f r typed is many. same_minima t n enough d f typed is many r;
}
