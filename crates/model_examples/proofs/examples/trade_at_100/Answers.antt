use Rattle.model_examples.proofs.TradeLemmas as example
use Rattle.model_examples.proofs.examples.trade_at_100.Goals as goal

pub returns : goal.returns
returns c = example.trade_at_100
