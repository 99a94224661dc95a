use Rattle.std.proofs.Common.{◌≡◌, drop}
use Rattle.std.specs.List.{list_all}
use Rattle.design_model.specs.Typed.{row_is_typed}
use Rattle.model_tests.proofs.tests.catalogues.all_fit.Given as goal

-- What is left decides.
abbrev pub invariant-loop-row : goal.invariant-loop-row
invariant-loop-row l = list_all (row_is_typed l.types l.provides l.requires_) l.rows ≡ list_all (row_is_typed l.types l.provides l.requires_) (drop l.row-index l.rows)
