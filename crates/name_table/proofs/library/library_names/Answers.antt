use Rattle.name_table.proofs.KnownLemmas.{known_same}
use Rattle.name_table.proofs.library.library_names.Goals as goal

pub returns : goal.returns
returns c =
    let told = c.in_ok-stems.ensures in
    (told.0, (told.1.0, told.1.1, known_same (record { stems = c.in_ok-stems.stems; tables = c.in_ok-stems.table_stems; elements = c.in_ok-elements.elements }) c.args.files.now c.args.tables.now told.1.0 told.1.1 c.in_ok-elements.ensures))
