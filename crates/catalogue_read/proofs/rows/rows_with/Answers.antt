use Rattle.std.proofs.Common.{◌∙◌, subst, sym, Option}
use Rattle.catalogue_read.specs.Catalogues.{AreRowsOf, Catalogue, HasBadRow, HasRows}
use Rattle.catalogue_read.specs.Held.{written}
use Rattle.catalogue_read.proofs.FileLemmas.{at_number, file_there, listed_file, provided_few, required_few}
use Rattle.fault_list.specs.FirstBad.{AnswersBy}
use Rattle.name_table.specs.SmallLaws.{small_at}
use Rattle.name_table.specs.declared.source.SourceFile.{SourceFile}
use Rattle.side_ports.specs.Held.{sides_held}
use Rattle.catalogue_read.proofs.rows.rows_with.Goals as goal

pub listed_rows-requires-clause-provides : goal.listed_rows-requires-clause-provides
listed_rows-requires-clause-provides c =
    let names = c.args.names.now in
    let i = c.args.file in
    let f = c.index-items-file.result in
    let there = file_there names.files c.items.result.now i f c.items.ensures c.requires.file c.index-items-file.is in
    let is = sym c.in-Some.ensures in
    provided_few names.types f.tree (written c.in-Some.catalogue) c.args.ports.now (small_at names.files i f names.small there) is (c.requires.ports f (written c.in-Some.catalogue) there is)

pub listed_rows-requires-clause-requires_ : goal.listed_rows-requires-clause-requires_
listed_rows-requires-clause-requires_ c =
    let names = c.args.names.now in
    let i = c.args.file in
    let f = c.index-items-file.result in
    let there = file_there names.files c.items.result.now i f c.items.ensures c.requires.file c.index-items-file.is in
    let is = sym c.in-Some.ensures in
    required_few names.types f.tree (written c.in-Some.catalogue) c.args.ports.now (small_at names.files i f names.small there) is (c.requires.ports f (written c.in-Some.catalogue) there is)

pub returns-in-Some : goal.returns-in-Some
returns-in-Some c =
    let names = c.args.names.now in
    let i = c.args.file in
    let f = c.index-items-file.result in
    let there = file_there names.files c.items.result.now i f c.items.ensures c.requires.file c.index-items-file.is in
    let is = sym c.in-Some.ensures in
    let own = written c.in-Some.catalogue in
    at_number (λ (g : SourceFile). AnswersBy (HasRows names.tables names.types g) (HasBadRow names.tables names.types g) c.listed_rows.result) names.files i f there
    (listed_file names.tables names.types f own (sides_held c.args.ports.now) c.listed_rows.result is (c.requires.ports f own there is) c.listed_rows.ensures)

pub returns-in-None : goal.returns-in-None
returns-in-None c =
    let names = c.args.names.now in
    let i = c.args.file in
    let f = c.index-items-file.result in
    let there = file_there names.files c.items.result.now i f c.items.ensures c.requires.file c.index-items-file.is in
    at_number (λ (g : SourceFile). HasRows names.tables names.types g c.of.result) names.files i f there
    (subst (λ (o : Option Catalogue). AreRowsOf names.tables names.types o c.of.result) c.in-None.ensures (c.of.ensures ∙ c.new.ensures.items))
