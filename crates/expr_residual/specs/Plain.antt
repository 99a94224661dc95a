-- The type of what a new wire carries.
use Rattle.std.specs.Prelude.{pos}
use Rattle.unit_core.specs.declared.dim.Dim.{Dim}
use Rattle.value_type.specs.declared.kind.Kind.TheVariants as kind
use Rattle.value_type.specs.declared.kind.Kind.{Kind}

-- the dimension of plain numbers
abbrev pub no_dim : Dim
no_dim = record { mass = pos 0; length = pos 0; time = pos 0; current = pos 0; money = pos 0; bits = pos 0 }

-- the type of plain numbers
abbrev pub plain : Kind
plain = kind.Num no_dim
