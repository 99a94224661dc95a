use Rattle.std.proofs.Common.{◌≡◌, length}
use Rattle.module_link.proofs.ModuleLemmas.{AreMade}
use Rattle.unit_check.specs.Held.{IsTable}
use Rattle.module_link.proofs.modules.modules_of.Given as goal

-- Each file so far has its module.
abbrev pub invariant-loop-rows : goal.invariant-loop-rows
invariant-loop-rows l =
    IsTable l.names.files l.names.types l.table
    × (length l.made.items ≡ length l.yielded)
    × AreMade l.names.files l.names.types l.fn.rows l.made.items
