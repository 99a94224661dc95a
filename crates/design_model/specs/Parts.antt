-- The ports of a design, and the rows of a catalogue.
use Rattle.std.specs.Prelude.{Bool, true, false, List, []}
use Rattle.value_type.specs.declared.port.Port.{Port}
use Rattle.design_model.specs.declared.design.CatRow.{CatRow}
use Rattle.design_model.specs.declared.design.Design.{Design, out-Design}
use Rattle.design_model.specs.declared.design.Design.TheOpen.{Design-F}

abbrev pub provided_at : {X Y : Type 0} → Design-F X Y → List Port
provided_at (Design-F.Cat provides requires_ rows) = provides
provided_at (Design-F.Choice provides requires_ branches) = provides
provided_at (Design-F.Net provides requires_ parts constraints) = provides

abbrev pub required_at : {X Y : Type 0} → Design-F X Y → List Port
required_at (Design-F.Cat provides requires_ rows) = requires_
required_at (Design-F.Choice provides requires_ branches) = requires_
required_at (Design-F.Net provides requires_ parts constraints) = requires_

abbrev pub provided_ports : Design → List Port
provided_ports d = provided_at (out-Design d)

abbrev pub required_ports : Design → List Port
required_ports d = required_at (out-Design d)

abbrev pub rows_at : {X Y : Type 0} → Design-F X Y → List CatRow
rows_at (Design-F.Cat provides requires_ rows) = rows
rows_at _ = []

-- the rows of a catalogue, and none of another design
abbrev pub rows_of : Design → List CatRow
rows_of d = rows_at (out-Design d)

abbrev pub is_catalogue_at : {X Y : Type 0} → Design-F X Y → Bool
is_catalogue_at (Design-F.Cat provides requires_ rows) = true
is_catalogue_at _ = false

abbrev pub is_catalogue : Design → Bool
is_catalogue d = is_catalogue_at (out-Design d)
