-- The greatest of the rounds that are enough for the parts.
use Rattle.std.specs.Prelude.{ℕ, List, map, Option}
use Rattle.design_model.specs.Heights.{surveyed, net_height}
use Rattle.design_model.specs.HeightsLaws.{of_part}
use Rattle.design_model.specs.declared.design.Part.{Part}
use Rattle.design_model.specs.declared.expr.Constraint.{Constraint}
use Rattle.value_type.specs.declared.port.Port.{Port}
use Rattle.value_type.specs.declared.poset.Types.{Types}

-- the height of a net with these ports, parts and constraints
abbrev pub height_by : Types → List Port → List Port → List Part → List Constraint → Option ℕ
height_by t provides requires_ parts constraints = net_height t (surveyed provides requires_ (map (of_part t) parts) constraints) (map (of_part t) parts)
