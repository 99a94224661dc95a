use Rattle.std.proofs.Common.{sym}
use Rattle.catalogue_read.specs.Held.{written}
use Rattle.catalogue_read.proofs.FileLemmas.{provided_few, required_few}
use Rattle.catalogue_read.proofs.rows.file_rows.Goals as goal

pub listed_rows-requires-clause-provides : goal.listed_rows-requires-clause-provides
listed_rows-requires-clause-provides c =
    provided_few c.args.names.now.types c.args.file.now.tree (written c.in-Some.catalogue) c.in_ok-ports-in-Some.ports c.requires.small (sym c.in-Some.ensures) c.in_ok-ports-in-Some.ensures

pub listed_rows-requires-clause-requires_ : goal.listed_rows-requires-clause-requires_
listed_rows-requires-clause-requires_ c =
    required_few c.args.names.now.types c.args.file.now.tree (written c.in-Some.catalogue) c.in_ok-ports-in-Some.ports c.requires.small (sym c.in-Some.ensures) c.in_ok-ports-in-Some.ensures
