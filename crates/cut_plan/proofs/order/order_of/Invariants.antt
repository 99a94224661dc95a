use Rattle.std.proofs.Common.{◌≡◌, ◌+◌, ◌-◌, ◌++◌, length}
use Rattle.cut_plan.specs.Turns.{left_from, table_reads}
use Rattle.design_model.specs.Evaluation.{turns, numbers_from}
use Rattle.cut_plan.proofs.order.order_of.Given as goal

-- The turns so far, followed by those of the parts left, are the order.
abbrev pub invariant-loop-turn : goal.invariant-loop-turn
invariant-loop-turn l = record {
  size : length l.taken.items ≡ length l.reads;
  left : length (left_from 0 l.taken.items) + l._turn ≡ length l.reads;
  decides : turns (table_reads l.reads) (length l.reads) (numbers_from 0 (length l.reads))
      ≡ l.order.items ++ turns (table_reads l.reads) (length l.reads - l._turn) (left_from 0 l.taken.items);
}
