use Rattle.std.proofs.lemmas.Result.{IfOk-weaker}
use Rattle.order_core.proofs.MinimalListed.{all_few, members, value, upper, reach}
use Rattle.order_core.proofs.finite.FiniteOrder.minimal_of.Goals as goal

pub word_of-requires : goal.word_of-requires
word_of-requires c = all_few c.args.self.now.table c.args.elements.now c.args.self.now.is_table.few c.requires

pub returns-clause-value : goal.returns-clause-value
returns-clause-value c = IfOk-weaker _ _ _ (λ made h. value c.args.self.now.table c.args.self.now.is_table c.args.elements.now c.requires c.word_of.result c.word_of.ensures made h) c.minimal.ensures

pub returns-clause-members : goal.returns-clause-members
returns-clause-members c = IfOk-weaker _ _ _ (λ made h. members c.args.self.now.table c.args.self.now.is_table c.args.elements.now c.requires c.word_of.result c.word_of.ensures made h) c.minimal.ensures

pub returns-clause-upper : goal.returns-clause-upper
returns-clause-upper c = IfOk-weaker _ _ _ (λ made h. upper c.args.self.now.table c.args.self.now.is_table c.args.elements.now c.requires c.word_of.result c.word_of.ensures made h) c.minimal.ensures

pub returns-clause-reach : goal.returns-clause-reach
returns-clause-reach c = IfOk-weaker _ _ _ (λ made h. reach c.args.self.now.table c.args.self.now.is_table c.args.elements.now c.requires c.word_of.result c.word_of.ensures made h) c.minimal.ensures
