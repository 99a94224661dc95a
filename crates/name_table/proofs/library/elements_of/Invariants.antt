use Rattle.std.proofs.Common.{take}
use Rattle.name_table.specs.Stems.{AreElementsOf}
use Rattle.order_core.specs.Pointwise.{Pointwise}
use Rattle.name_table.proofs.library.elements_of.Given as goal

-- So far each file has its elements.
abbrev pub invariant-loop-file : goal.invariant-loop-file
invariant-loop-file l = Pointwise AreElementsOf (take l.file-index l.files) l.elements.items
