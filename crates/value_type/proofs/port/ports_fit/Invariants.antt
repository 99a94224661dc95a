use Rattle.std.proofs.Common.{◌≡◌, drop}
use Rattle.value_type.specs.Fits.{row_fits}
use Rattle.value_type.specs.PortKinds.{port_kinds}
use Rattle.value_type.proofs.port.ports_fit.Given as goal

-- What is left decides.
abbrev pub invariant-loop-at : goal.invariant-loop-at
invariant-loop-at l = row_fits l.types (port_kinds l.ports) l.values ≡ row_fits l.types (port_kinds (drop l.at l.ports)) (drop l.at l.values)
