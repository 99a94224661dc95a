-- The report of a list of rows.
use Rattle.std.specs.Prelude.{ℕ, List, [], ◌∷◌, ◌++◌, length, codes}
use Rattle.std.specs.Fmt.{decimal}
use Rattle.std.specs.List.{flat_map}
use Rattle.report_text.specs.Texts.{row_text}
use Rattle.value_type.specs.declared.port.Port.{Port}
use Rattle.value_type.specs.declared.poset.Types.{Types}
use Rattle.value_type.specs.declared.value.Value.{Value}

abbrev pub line : Types → List Port → List Value → List ℕ
line types ports row = row_text types ports row ++ 10 ∷ []

-- `infeasible` where there is no row, and otherwise their number and a line for each row.
abbrev pub report : Types → List Port → List (List Value) → List ℕ
report types ports [] = codes "infeasible" ++ 10 ∷ []
report types ports (row ∷ rows) = codes "finished " ++ decimal (length (row ∷ rows)) ++ 10 ∷ [] ++ flat_map (line types ports) (row ∷ rows)
