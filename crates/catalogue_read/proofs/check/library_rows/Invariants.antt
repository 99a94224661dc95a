use Rattle.std.proofs.Common.{take}
use Rattle.catalogue_read.specs.Catalogues.{HasRows, HasSomeRows}
use Rattle.order_core.specs.Pointwise.{Each, Pointwise}
use Rattle.catalogue_read.proofs.check.library_rows.Given as goal

-- The files so far have these rows.
abbrev pub invariant-loop-file : goal.invariant-loop-file
invariant-loop-file l =
    Each (HasSomeRows l.names.tables l.names.types) (take l.file-index l.names.files)
    × Pointwise (HasRows l.names.tables l.names.types) (take l.file-index l.names.files) l.made.items
