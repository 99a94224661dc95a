-- What references need to know of the files of a library.
use Rattle.std.specs.Prelude.{ℕ, List, [], map, Option, Some, None, option_and_then, slice_get}
use Rattle.name_table.specs.Files.{is_design, stem_place}
use Rattle.name_table.specs.declared.source.SourceFile.{SourceFile}
use Rattle.reference_check.specs.declared.front.Front as held
use Rattle.reference_check.specs.declared.front.Wanted as held_wanted
use Rattle.reference_rules.specs.Outlines.{Outlines, outlines}
use Rattle.reference_rules.specs.ReferenceFaults.{Front, Wanted}
use Rattle.side_ports.specs.Held.{sides_held}
use Rattle.side_ports.specs.Sides.{Sides}
use Rattle.side_ports.specs.declared.ports.SidePorts.{SidePorts}

abbrev pub sides_outlined : Sides → Outlines
sides_outlined sides = record { provides = outlines sides.provides; requires_ = outlines sides.requires_ }

-- the names and types of ports that may be there
abbrev pub outlined_in : Option SidePorts → Outlines
outlined_in (Some ports) = sides_outlined (sides_held ports)
outlined_in None = record { provides = []; requires_ = [] }

abbrev pub wanted_held : held_wanted.Wanted → Wanted
wanted_held w = record { name = w.name; ports = sides_outlined (sides_held w.ports) }

-- what a front holds
abbrev pub front_held : held.Front → Front
front_held f = record { wanted = map wanted_held f.wanted; ports = sides_outlined (sides_held f.ports) }

abbrev pub front_in : Option (Option held.Front) → Option Front
front_in (Some (Some f)) = Some (front_held f)
front_in _ = None

-- the front of the design or template of this name, where these are the fronts of the files
abbrev pub fronts_held : List SourceFile → List (Option held.Front) → List ℕ → Option Front
fronts_held files fronts name = option_and_then (λ i. front_in (slice_get fronts i)) (stem_place is_design files name)
