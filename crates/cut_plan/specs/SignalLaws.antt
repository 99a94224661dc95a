-- That the lists made of a net's table are its order and its cut signals.
use Rattle.std.specs.Prelude.{ℕ, Bool, List}
use Rattle.cut_plan.specs.CutReads.{is_listed}
use Rattle.cut_plan.specs.declared.reads.Signal.{Signal}
use Rattle.design_model.specs.Cuts.{Signal as Typed}
use Rattle.design_model.specs.Parts.{required_ports}
use Rattle.design_model.specs.declared.design.Part.{Part}
use Rattle.value_type.specs.PortKinds.{port_kinds}
use Rattle.value_type.specs.declared.kind.Kind.{Kind}

-- The listed ports as a filter of all.
abbrev pub passes : List Signal → Typed → Bool
passes cut s = is_listed cut s.part s.port

abbrev pub signal_of : ℕ → ℕ × Kind → Typed
signal_of part e = record { part = part; port = e.0; kind = e.1 }

abbrev pub kinds_required : Part → List Kind
kinds_required p = port_kinds (required_ports p.design)
