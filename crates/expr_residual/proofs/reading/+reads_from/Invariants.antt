use Rattle.std.proofs.Common.{◌≡◌, drop, nat_le}
use Rattle.std.specs.List.{list_any}
use Rattle.expr_residual.specs.Moved.{reads_own}
use Rattle.expr_residual.proofs.reading.+reads_from.Given as goal

-- Some of the expressions left reads such a port where some of all does.
abbrev pub invariant-some_reads_from-loop-expr : goal.invariant-some_reads_from-loop-expr
invariant-some_reads_from-loop-expr l = list_any (reads_own (nat_le l.start)) (drop l.expr-index l.exprs) ≡ list_any (reads_own (nat_le l.start)) l.exprs
