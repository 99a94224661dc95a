use Rattle.design_model.specs.Parts.{provided_ports}
use Rattle.row_values.specs.declared.value.Rounding.TheVariants as rounding
use Rattle.design_cli.proofs.laws.questions_have_one_answer.Goals as goal

pub returns : goal.returns
returns c = record {
  accepted = c.libraries_are_judged_in_one_way.ensures.accepted;
  reasons = c.libraries_are_judged_in_one_way.ensures.refused;
  never_both = c.libraries_are_judged_in_one_way.ensures.never_both;
  there = c.names_have_one_design.ensures.there;
  designs = c.names_have_one_design.ensures.one;
  queries = λ types design text f g. c.texts_write_one_row.ensures types rounding.Up (provided_ports design) text f g;
  faults = c.refused_texts_have_one_fault.ensures.queries;
  no_query = c.refused_texts_write_no_row.ensures.queries;
}
