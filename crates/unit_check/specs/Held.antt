-- What scopes hold, and what is known of the ports of files.
use Rattle.std.specs.Prelude.{◌≡◌, ℕ, List, [], length, map, Some, slice_get}
use Rattle.name_table.specs.declared.source.SourceFile.{SourceFile}
use Rattle.side_ports.specs.Held.{sides_held}
use Rattle.side_ports.specs.Sides.{sides_of}
use Rattle.side_ports.specs.declared.ports.SidePorts.{SidePorts}
use Rattle.unit_check.specs.Declaring.{tree_ports}
use Rattle.unit_check.specs.Following.{AreDeclaring}
use Rattle.unit_check.specs.Scopes.{PartPorts, ScopePorts}
use Rattle.unit_check.specs.TypeFaults.{declared_faults}
use Rattle.unit_check.specs.declared.scope.Scope.{Scope}
use Rattle.unit_check.specs.declared.scope.ScopePart.{ScopePart}
use Rattle.unit_check.specs.declared.table.PortTable.{PortTable}
use Rattle.value_type.specs.declared.poset.Types.{Types}

abbrev pub part_held : ScopePart → PartPorts
part_held part = record { name = part.name; ports = sides_held part.ports }

-- the ports that a scope holds
abbrev pub ports_held : Scope → ScopePorts
ports_held scope = record { own = sides_held scope.own; parts = map part_held scope.parts }

-- The ports that the file of this number declares have no fault, and these are they.
pub record IsKnown (files : List SourceFile) (types : Types) (i : ℕ) (ports : SidePorts) : Type 0 where
  pub faultless : declared_faults files types i ≡ []
  pub ports_are : sides_held ports ≡ sides_of types (tree_ports (slice_get files i))

-- What the table has of a file is known of it.
pub record IsTable (files : List SourceFile) (types : Types) (table : PortTable) : Type 0 where
  pub declaring : AreDeclaring files table.declaring
  pub size : length table.known.items ≡ length files
  pub each : (i : ℕ) (ports : SidePorts) → slice_get table.known.items i ≡ Some (Some ports) → IsKnown files types i ports
