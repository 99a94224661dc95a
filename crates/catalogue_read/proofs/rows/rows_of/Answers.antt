use Rattle.catalogue_read.specs.Catalogues.{HasBadRow, HasRows}
use Rattle.catalogue_read.proofs.FileLemmas.{at_number, file_there}
use Rattle.fault_list.specs.FirstBad.{AnswersBy}
use Rattle.name_table.specs.SmallLaws.{small_at}
use Rattle.name_table.specs.declared.source.SourceFile.{SourceFile}
use Rattle.catalogue_read.proofs.rows.rows_of.Goals as goal

pub file_rows-requires-clause-small : goal.file_rows-requires-clause-small
file_rows-requires-clause-small c =
    let names = c.args.names.now in
    let i = c.args.file in
    let f = c.index-items-file.result in
    let there = file_there names.files c.items.result.now i f c.items.ensures c.requires.file c.index-items-file.is in
    small_at names.files i f names.small there

pub file_rows-requires-clause-ports : goal.file_rows-requires-clause-ports
file_rows-requires-clause-ports c =
    let files = c.args.names.now.files in
    let i = c.args.file in
    let f = c.index-items-file.result in
    c.requires.ports f (file_there files c.items.result.now i f c.items.ensures c.requires.file c.index-items-file.is)

pub returns : goal.returns
returns c =
    let names = c.args.names.now in
    let i = c.args.file in
    let f = c.index-items-file.result in
    let there = file_there names.files c.items.result.now i f c.items.ensures c.requires.file c.index-items-file.is in
    at_number (λ (g : SourceFile). AnswersBy (HasRows names.tables names.types g) (HasBadRow names.tables names.types g) c.file_rows.result) names.files i f there c.file_rows.ensures
