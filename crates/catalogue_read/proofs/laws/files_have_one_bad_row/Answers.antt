use Rattle.catalogue_read.proofs.RowFaultLemmas.{row_fault, rows_or_fault}
use Rattle.catalogue_read.specs.Catalogues.{catalogue_of}
use Rattle.catalogue_read.proofs.laws.files_have_one_bad_row.Goals as goal

pub returns-clause-one : goal.returns-clause-one
returns-clause-one c = λ tables types f a b h k. row_fault types (c.tables_have_one_fault.ensures.one types) tables f.name (catalogue_of f.tree) a b h k

pub returns-clause-never_both : goal.returns-clause-never_both
returns-clause-never_both c = λ tables types f fault h k. rows_or_fault types (c.tables_have_one_fault.ensures.never_both types) tables f.name (catalogue_of f.tree) h.0 fault h.1 k
