-- The rows that provide enough, and the minimal ones of a list.
use Rattle.std.specs.Prelude.{Bool, List, map, filter}
use Rattle.order_core.specs.Members.{IsMember}
use Rattle.value_type.specs.declared.port.Port.{Port}
use Rattle.value_type.specs.declared.poset.Types.{Types}
use Rattle.value_type.specs.Leq.{row_leq}
use Rattle.value_type.specs.PortKinds.{port_kinds}
use Rattle.design_model.specs.declared.design.CatRow.{CatRow}
use Rattle.design_model.specs.Feasible.{ListsMinima}
use Rattle.design_model.specs.Rows.{Row}

-- what the rows require that provide at least f
abbrev pub required_by : Types → List Port → Row → List CatRow → List Row
required_by t provides f rows = map (λ row. row.required) (filter (λ row. row_leq t (port_kinds provides) f row.provided) rows)

-- exactly the minimal rows of the list, each once, in print order, with one of them below each row of the list
abbrev pub AreSortedMinima : (Row → Row → Bool) → List Row → List Row → Type 0
AreSortedMinima leq rows = ListsMinima leq (λ y. IsMember y rows)
