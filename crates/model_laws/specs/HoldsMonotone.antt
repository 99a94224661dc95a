-- With a smaller functionality, or greater resources, a design still holds.
use Rattle.std.specs.Prelude.{IsTrue, List}
use Rattle.design_model.specs.Holds.{Fit}
use Rattle.design_model.specs.Rows.{Row}
use Rattle.value_type.specs.Leq.{row_leq}
use Rattle.value_type.specs.PortKinds.{port_kinds}
use Rattle.value_type.specs.declared.port.Port.{Port}
use Rattle.value_type.specs.declared.poset.Types.{Types}

-- The rows g and s fit the ports, g is at most f, and s is at least r.
pub record Eases (t : Types) (provides requires_ : List Port) (f g r s : Row) : Type 0 where
  pub fit : Fit t provides requires_ g s
  pub less : IsTrue (row_leq t (port_kinds provides) g f)
  pub more : IsTrue (row_leq t (port_kinds requires_) r s)
