-- What a design allows, and the least resources among it.
use Rattle.std.specs.Prelude.{◌↔◌, Bool, IsTrue, List}
use Rattle.std.specs.List.{list_any}
use Rattle.order_core.specs.Members.{IsMember}
use Rattle.order_core.specs.Minimal.{IsMinimal}
use Rattle.value_type.specs.declared.poset.Types.{Types}
use Rattle.value_type.specs.Leq.{row_leq}
use Rattle.value_type.specs.PortKinds.{port_kinds}
use Rattle.value_type.specs.PrintOrder.{are_rising}
use Rattle.design_model.specs.declared.design.Design.{Design}
use Rattle.design_model.specs.declared.witness.Witness.{Witness}
use Rattle.design_model.specs.Holds.{Holds}
use Rattle.design_model.specs.Parts.{required_ports}
use Rattle.design_model.specs.Rows.{Row}

-- The resources r are feasible for the functionality f: the design holds with some witness.
abbrev pub IsFeasible : Types → Design → Row → Row → Type 0
IsFeasible t design f r = (w : Witness) × Holds t design f r w

-- the order of a design's resources
abbrev pub resources_leq : Types → Design → Row → Row → Bool
resources_leq t design = row_leq t (port_kinds (required_ports design))

-- Feasible, and no other feasible row is at most it.
abbrev pub IsMinimum : Types → Design → Row → Row → Type 0
IsMinimum t design f r = IsMinimal (resources_leq t design) (IsFeasible t design f) r

-- exactly the minimal rows of a set, each once, in print order, with one of them below each row of the set
pub record ListsMinima (leq : Row → Row → Bool) (U : Row → Type 0) (rows : List Row) : Type 0 where
  pub exact : (r : Row) → IsMember r rows ↔ IsMinimal leq U r
  pub rising : IsTrue (are_rising rows)
  pub complete : (r : Row) → U r → IsTrue (list_any (λ row. leq row r) rows)

-- exactly the minimal feasible rows
abbrev pub AreMinima : Types → Design → Row → List Row → Type 0
AreMinima t design f = ListsMinima (resources_leq t design) (IsFeasible t design f)
