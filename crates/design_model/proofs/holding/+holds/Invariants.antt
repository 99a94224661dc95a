use Rattle.std.proofs.Common.{◌≡◌, drop, length}
use Rattle.std.specs.Prelude.{◌↔◌}
use Rattle.order_core.specs.Pointwise.{Pointwise}
use Rattle.design_model.specs.Holds.{Holds, PartHolds}
use Rattle.design_model.proofs.holding.+holds.Given as goal

-- What is left decides.
abbrev pub invariant-parts_hold-loop-at : goal.invariant-parts_hold-loop-at
invariant-parts_hold-loop-at l = record {
  same : length l.parts ≡ length l.witnesses;
  decides : Pointwise (PartHolds (λ p. Holds l.types p.design)) (drop l.at l.parts) (drop l.at l.witnesses) ↔ Pointwise (PartHolds (λ p. Holds l.types p.design)) l.parts l.witnesses;
}
