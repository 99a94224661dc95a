-- What the code sees of a catalogue.
use Rattle.std.specs.Option.{option_copied}
use Rattle.catalogue_read.specs.Catalogues.{Catalogue}
use Rattle.catalogue_read.specs.declared.catalogue.CatalogueTree.{CatalogueTree}

abbrev pub written : CatalogueTree → Catalogue
written tree = record { ports = tree.ports.now; rows = tree.rows.now; table = option_copied tree.table }
