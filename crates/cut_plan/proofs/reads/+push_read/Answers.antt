use Rattle.cut_plan.proofs.ReadLemmas.{by-Tuple}
use Rattle.cut_plan.proofs.reads.+push_read.Goals as goal

pub push_read-returns-in-Tuple : goal.push_read-returns-in-Tuple
push_read-returns-in-Tuple t c = rw (c.in-Tuple.is, by-Tuple, ← c.items.ensures) c.push_each.ensures
