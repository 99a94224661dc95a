use Rattle.std.proofs.Common.{◌≡◌, drop, length}
use Rattle.value_type.specs.Leq.{row_leq}
use Rattle.value_type.specs.PortKinds.{port_kinds}
use Rattle.value_type.proofs.port.ports_leq.Given as goal

-- What is left decides.
abbrev pub invariant-loop-at : goal.invariant-loop-at
invariant-loop-at l = record {
  decides : row_leq l.types (port_kinds l.ports) l.xs l.ys ≡ row_leq l.types (port_kinds (drop l.at l.ports)) (drop l.at l.xs) (drop l.at l.ys);
  xs_length : length l.ports ≡ length l.xs;
  ys_length : length l.ports ≡ length l.ys;
}
