use Rattle.design_cli.proofs.AnswerLemmas.{answers, answers_early}
use Rattle.design_cli.specs.Words.{Asked}
use Rattle.design_cli.proofs.run.solve.Goals as goal

pub returns-in-Ok-clause-early : goal.returns-in-Ok-clause-early
returns-in-Ok-clause-early g c = answers_early c.in-Ok.library c.args.name.now c.args.query.now c.answer.result c.answer.ensures

pub returns-in-Ok-clause-solves : goal.returns-in-Ok-clause-solves
returns-in-Ok-clause-solves g c = λ files told.
    let asked : Asked = record { place = c.args.place.now; name = c.args.name.now; query = c.args.query.now } in
    answers asked files c.in-Ok.library (c.in-Ok.ensures.loaded files told) c.answer.result c.answer.ensures
