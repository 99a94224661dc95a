-- What the code keeps of ports.
use Rattle.side_ports.specs.Sides.{Sides}
use Rattle.side_ports.specs.declared.ports.SidePorts.{SidePorts}

abbrev pub sides_held : SidePorts → Sides
sides_held ports = record { provides = ports.provides; requires_ = ports.requires_ }
