use Rattle.std.proofs.Common.{◌≡◌, ℕ, drop, length, filter}
use Rattle.cut_plan.specs.Turns.{left_from, table_reads}
use Rattle.design_model.specs.Evaluation.{is_ready, first_or}
use Rattle.cut_plan.proofs.order.next_part.Given as goal

-- No part so far is next.
abbrev pub invariant-loop-part : goal.invariant-loop-part
invariant-loop-part l = record {
  same : length l.reads ≡ length l.taken;
  passed : (d : ℕ) → first_or d (filter (is_ready (table_reads l.reads) (left_from 0 l.taken)) (left_from 0 l.taken))
      ≡ first_or d (filter (is_ready (table_reads l.reads) (left_from 0 l.taken)) (left_from l.part (drop l.part l.taken)));
}
