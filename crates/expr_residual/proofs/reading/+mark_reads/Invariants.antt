use Rattle.std.proofs.Common.{◌≡◌, ℕ, ◌<◌, ◌||◌, false, length, get_or, take}
use Rattle.std.specs.List.{list_any}
use Rattle.expr_residual.specs.Moved.{reads_wire}
use Rattle.expr_residual.proofs.reading.+mark_reads.Given as goal

-- What the expressions so far read is marked.
abbrev pub invariant-mark_each-loop-expr : goal.invariant-mark_each-loop-expr
invariant-mark_each-loop-expr l =
    (k : ℕ) → k < length l.initial.marks → get_or l.marks k false ≡ (get_or l.initial.marks k false || list_any (λ e. reads_wire e k) (take l.expr-index l.exprs))
