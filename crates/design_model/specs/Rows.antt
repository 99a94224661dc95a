-- Rows of values.
use Rattle.std.specs.Prelude.{List}
use Rattle.value_type.specs.declared.value.Value.{Value}

abbrev pub Row : Type 0
Row = List Value
