use Rattle.design_model.specs.Parts.{provided_ports, required_ports}
use Rattle.query_read.proofs.RowLemmas.{never_row}
use Rattle.row_values.specs.declared.value.Rounding.TheVariants as rounding
use Rattle.query_read.proofs.laws.refused_texts_write_no_row.Goals as goal

pub returns-clause-rows : goal.returns-clause-rows
returns-clause-rows c = never_row

pub returns-clause-queries : goal.returns-clause-queries
returns-clause-queries c = λ types design text fault f h. never_row types rounding.Up (provided_ports design) text h.why f h.bad

pub returns-clause-tuples : goal.returns-clause-tuples
returns-clause-tuples c = λ types design text fault row h. never_row types rounding.Down (required_ports design) text h.why row h.bad
