use Rattle.std.proofs.Common.{◌≡◌, ℕ, ◌<◌, false, length, get_or, take}
use Rattle.std.specs.List.{list_any}
use Rattle.expr_residual.specs.Moved.{reads_wire}
use Rattle.term_compile.proofs.live.marks_of.Given as goal

-- What the constraints so far read is marked.
abbrev pub invariant-loop-constraint : goal.invariant-loop-constraint
invariant-loop-constraint l = record {
  size : length l.marks.items ≡ l.count;
  known : (k : ℕ) → k < l.count → get_or l.marks.items k false ≡ list_any (λ c. reads_wire c.lower k) (take l.constraint-index l.constraints);
}
