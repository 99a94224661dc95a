use Rattle.std.proofs.Common.{◌≡◌, Some, map, take}
use Rattle.design_model.specs.Parts.{required_ports}
use Rattle.design_model.specs.Wiring.{kind_at}
use Rattle.value_type.specs.PortKinds.{port_kinds}
use Rattle.term_compile.proofs.kinds.signal_kinds.Given as goal

-- The types so far are those of the signals so far.
abbrev pub invariant-loop-signal : goal.invariant-loop-signal
invariant-loop-signal l = map Some l.kinds.items ≡ map (λ s. kind_at (map (λ p. port_kinds (required_ports p.design)) l.parts) s.part s.port) (take l.signal-index l.signals)
