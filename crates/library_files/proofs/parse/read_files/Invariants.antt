use Rattle.library_files.specs.Parsed.{AreParsed, IsWritten}
use Rattle.order_core.specs.Pointwise.{Each}
use Rattle.library_files.proofs.parse.read_files.Given as goal

-- The files so far are tables or write trees, and the sources and tables are theirs.
abbrev pub invariant-loop-file : goal.invariant-loop-file
invariant-loop-file l = Each IsWritten l.yielded × AreParsed l.yielded (record { files = l.sources.items; tables = l.tables.items })
