use Rattle.query_read.proofs.FaultLemmas.{query_fault_same, row_fault_same, tuple_fault_same}
use Rattle.query_read.proofs.laws.refused_texts_have_one_fault.Goals as goal

pub returns-clause-rows : goal.returns-clause-rows
returns-clause-rows c = row_fault_same

pub returns-clause-queries : goal.returns-clause-queries
returns-clause-queries c = query_fault_same

pub returns-clause-tuples : goal.returns-clause-tuples
returns-clause-tuples c = tuple_fault_same
