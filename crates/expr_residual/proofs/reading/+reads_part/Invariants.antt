use Rattle.std.proofs.Common.{◌≡◌, drop}
use Rattle.std.specs.List.{list_any}
use Rattle.design_model.specs.Reading.{reads_part}
use Rattle.expr_residual.proofs.reading.+reads_part.Given as goal

-- Some of the expressions left reads the part where some of all does.
abbrev pub invariant-some_reads_part-loop-expr : goal.invariant-some_reads_part-loop-expr
invariant-some_reads_part-loop-expr l = list_any (λ e. reads_part e l.part) (drop l.expr-index l.exprs) ≡ list_any (λ e. reads_part e l.part) l.exprs
