-- Words to write designs, rows and witnesses down.
use Rattle.std.specs.Prelude.{ℕ, pos, List, [], map}
use Rattle.unit_core.specs.declared.dim.Dim.{Dim}
use Rattle.value_type.specs.declared.kind.Kind.{Kind}
use Rattle.value_type.specs.declared.kind.Kind.TheVariants as kind
use Rattle.value_type.specs.declared.port.Port.{Port}
use Rattle.value_type.specs.declared.port.PortUnit.TheVariants as unit
use Rattle.value_type.specs.declared.poset.Types.{Types}
use Rattle.value_type.specs.declared.value.Value.TheVariants as value
use Rattle.design_model.specs.declared.design.CatRow.{CatRow}
use Rattle.design_model.specs.declared.design.Design.{Design}
use Rattle.design_model.specs.declared.design.Part.{Part}
use Rattle.design_model.specs.declared.expr.Constraint.{Constraint}
use Rattle.design_model.specs.declared.expr.Expr.{Expr}
use Rattle.design_model.specs.declared.expr.Greater.{Greater}
use Rattle.design_model.specs.Rows.{Row}

-- no posets
abbrev pub no_types : Types
no_types = record { posets = [] }

abbrev pub no_dim : Dim
no_dim = record { mass = pos 0; length = pos 0; time = pos 0; current = pos 0; money = pos 0; bits = pos 0 }

-- the type of plain numbers
abbrev pub numbers : Kind
numbers = kind.Num no_dim

-- a port of plain numbers
abbrev pub number_port : List ℕ → Port
number_port name = record { name = name; kind = numbers; unit = unit.Nat }

-- a row of counts
abbrev pub counts : List ℕ → Row
counts ns = map value.Num ns

-- a row of a catalogue, by its name, what it provides and what it requires
abbrev pub row : List ℕ → List ℕ → List ℕ → CatRow
row name provided required = record { name = name; provided = counts provided; required = counts required }

abbrev pub part : List ℕ → Design → Part
part name design = record { name = name; design = design }

-- the port carries at least the value of the expression
abbrev pub constraint : Greater → Expr → Constraint
constraint greater lower = record { greater = greater; lower = lower }
