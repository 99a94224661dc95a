use Rattle.model_examples.proofs.BackLemmas as example
use Rattle.model_examples.proofs.examples.back_gives_the_top.Goals as goal

pub returns : goal.returns
returns c = example.back_gives_t
