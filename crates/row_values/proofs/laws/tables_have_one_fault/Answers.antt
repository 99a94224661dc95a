use Rattle.row_values.proofs.FaultLemmas.{rows_or_fault, table_faults_same}
use Rattle.row_values.proofs.laws.tables_have_one_fault.Goals as goal

pub returns-clause-one : goal.returns-clause-one
returns-clause-one c = λ types provides requires_ bytes a b h k. table_faults_same types provides requires_ bytes a b h k

pub returns-clause-never_both : goal.returns-clause-never_both
returns-clause-never_both c = λ types provides requires_ bytes rows fault h k. rows_or_fault types provides requires_ bytes rows fault h k
