use Rattle.std.proofs.Common.{arith}
use Rattle.compiled_term.proofs.FeasibleLemmas.{compiled_right}
use Rattle.compiled_term.proofs.laws.compiled_terms_are_the_designs.Goals as goal

pub returns : goal.returns
returns c = record {
  typed = λ t d typed. (compiled_right t 1 (omega arith) d typed).typed;
  relation = λ t n d f r some typed fits. ((compiled_right t n some d typed).sound f r fits, (compiled_right t n some d typed).complete f r);
}
