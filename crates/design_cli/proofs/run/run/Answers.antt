use Rattle.std.proofs.Common.{ap, None, Err}
use Rattle.design_cli.proofs.RunLemmas.{done_or_memory, for_question, headline_of, not_folder, not_sink, refusal_of, says_refused, says_written}
use Rattle.design_cli.specs.Words.{Asked}
use Rattle.design_cli.proofs.run.run.Goals as goal

pub returns-in-Ok-clause-headline : goal.returns-in-Ok-clause-headline
returns-in-Ok-clause-headline g c =
    let asked : Asked = record { place = c.in-Some.question.place.now; name = c.in-Some.question.name.now; query = c.in-Some.question.query.now } in
    for_question _ _ asked c.in-Some.ensures (λ files told types design f asks catalogue nofolder nosink memory.
    headline_of c.questions_have_one_answer.ensures asked files _ _ c.write_report.result
    (says_written asked files c.in-Ok.report _ _ c.write_report.result (c.in-Ok.ensures.solves files told) c.write_report.ensures.writing)
    (not_folder _ _ _ c.write_report.result c.write_report.ensures.writing) memory (λ e. nosink (c.write_report.ensures.fault e)) types design f asks catalogue)

pub returns-in-Err-clause-headline : goal.returns-in-Err-clause-headline
returns-in-Err-clause-headline g c =
    let asked : Asked = record { place = c.in-Some.question.place.now; name = c.in-Some.question.name.now; query = c.in-Some.question.query.now } in
    for_question _ _ asked c.in-Some.ensures (λ files told types design f asks catalogue nofolder nosink memory.
    headline_of c.questions_have_one_answer.ensures asked files _ _ c.in-Err.status (says_refused asked files _ c.in-Err.status (c.in-Err.ensures.solves files told))
    (λ e. nofolder (c.in-Err.ensures.fault (ap Err e))) memory (not_sink c.in-Err.status c.in-Err.ensures.early) types design f asks catalogue)

pub returns-in-Ok-clause-refused : goal.returns-in-Ok-clause-refused
returns-in-Ok-clause-refused g c =
    let asked : Asked = record { place = c.in-Some.question.place.now; name = c.in-Some.question.name.now; query = c.in-Some.question.query.now } in
    for_question _ _ asked c.in-Some.ensures (λ files told refusal is nofolder memory.
    refusal_of c.questions_have_one_answer.ensures asked files _ _ c.write_report.result
    (says_written asked files c.in-Ok.report _ _ c.write_report.result (c.in-Ok.ensures.solves files told) c.write_report.ensures.writing) nofolder memory refusal is)

pub returns-in-Err-clause-refused : goal.returns-in-Err-clause-refused
returns-in-Err-clause-refused g c =
    let asked : Asked = record { place = c.in-Some.question.place.now; name = c.in-Some.question.name.now; query = c.in-Some.question.query.now } in
    for_question _ _ asked c.in-Some.ensures (λ files told refusal is nofolder memory.
    refusal_of c.questions_have_one_answer.ensures asked files None None c.in-Err.status (says_refused asked files None c.in-Err.status (c.in-Err.ensures.solves files told)) nofolder memory refusal is)

pub returns-in-Ok-clause-complete : goal.returns-in-Ok-clause-complete
returns-in-Ok-clause-complete g c = λ folder sink.
    let asked : Asked = record { place = c.in-Some.question.place.now; name = c.in-Some.question.name.now; query = c.in-Some.question.query.now } in
    for_question _ _ asked c.in-Some.ensures (λ files told types design f asks catalogue.
    done_or_memory c.write_report.result (λ memory. (headline_of c.questions_have_one_answer.ensures asked files _ _ c.write_report.result
    (says_written asked files c.in-Ok.report _ _ c.write_report.result (c.in-Ok.ensures.solves files told) c.write_report.ensures.writing)
    (not_folder _ _ _ c.write_report.result c.write_report.ensures.writing) memory (c.write_report.ensures.reliable sink).1 types design f asks catalogue).0))

pub returns-in-Err-clause-complete : goal.returns-in-Err-clause-complete
returns-in-Err-clause-complete g c = λ folder sink.
    let asked : Asked = record { place = c.in-Some.question.place.now; name = c.in-Some.question.name.now; query = c.in-Some.question.query.now } in
    for_question _ _ asked c.in-Some.ensures (λ files told types design f asks catalogue.
    done_or_memory c.in-Err.status (λ memory. (headline_of c.questions_have_one_answer.ensures asked files None None c.in-Err.status (says_refused asked files None c.in-Err.status (c.in-Err.ensures.solves files told))
    (λ e. (c.in-Err.ensures.reliable folder).1 (ap Err e)) memory (not_sink c.in-Err.status c.in-Err.ensures.early) types design f asks catalogue).0))
