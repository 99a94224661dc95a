use Rattle.std.proofs.Common.{◌≡◌, drop}
use Rattle.tree_units.specs.Ports.{some_off_grid}
use Rattle.tree_units.proofs.ports.+grid.Given as goal

-- What is left decides.
abbrev pub invariant-some_off_grid-loop-tree : goal.invariant-some_off_grid-loop-tree
invariant-some_off_grid-loop-tree l = some_off_grid l.trees ≡ some_off_grid (drop l.tree-index l.trees)
