use Rattle.std.proofs.Common.{◌≡◌, ℕ, ◌<◌, length, get_or}
use Rattle.cut_plan.proofs.signals.places_of.Given as goal

-- The parts so far have their places.
abbrev pub invariant-loop-at : goal.invariant-loop-at
invariant-loop-at l = record {
  size : length l.places.items ≡ length l.order;
  known : (k : ℕ) → k < l.at → get_or l.places.items (get_or l.order k 0) 0 ≡ k;
}
