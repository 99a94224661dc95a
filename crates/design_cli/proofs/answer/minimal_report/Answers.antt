use Rattle.std.proofs.lemmas.Result.{IfOk-weaker}
use Rattle.std.proofs.Common.{◌∙◌}
use Rattle.design_cli.proofs.AnswerLemmas.{catalogue_rows_fit}
use Rattle.design_cli.specs.Report.{report}
use Rattle.design_cli.proofs.answer.minimal_report.Goals as goal

pub minimal_rows-requires-clause-rows_fit : goal.minimal_rows-requires-clause-rows_fit
minimal_rows-requires-clause-rows_fit c = catalogue_rows_fit c.args.types.now c.args.catalogue.now c.requires.catalogue c.requires.typed

pub returns : goal.returns
returns c = IfOk-weaker c.report_text.result _ _ (λ text is. record {
  rows = c.in_ok-rows.rows;
  minima = c.in_ok-rows.ensures;
  text_is = is ∙ (λ i. report c.args.types.now (c.required_ports.ensures i) (c.items.ensures i));
}) c.report_text.ensures
