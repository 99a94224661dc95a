use Rattle.design_cli.proofs.AnswerLemmas.{query_fits}
use Rattle.design_cli.proofs.answer.answer.Goals as goal
use Rattle.design_model.specs.Parts.{provided_ports}
use Rattle.row_values.specs.declared.value.Rounding.TheVariants as rounding

pub minimal_report-requires-clause-f_fits : goal.minimal_report-requires-clause-f_fits
minimal_report-requires-clause-f_fits c =
    query_fits c.types-2.result.now _ c.args.query.now c.in-Ok-read_query.query (rw (c.types.ensures, ← c.types-2.ensures) at c.in-Ok-read_query.ensures)
    (λ d h. c.queries_fit.ensures c.types-2.result.now rounding.Up (provided_ports d) c.args.query.now c.in-Ok-read_query.query.f h (rw c.types-2.ensures c.args.library.now.names.named))
