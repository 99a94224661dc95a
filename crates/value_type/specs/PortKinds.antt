-- The types of ports.
use Rattle.std.specs.Prelude.{List, map}
use Rattle.value_type.specs.declared.kind.Kind.{Kind}
use Rattle.value_type.specs.declared.port.Port.{Port}

abbrev pub port_kinds : List Port → List Kind
port_kinds ports = map (λ port. port.kind) ports
