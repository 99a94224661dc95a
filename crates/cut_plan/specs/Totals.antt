-- Heights of parts and nets in the order in which they are added up, and what becomes of numbers in 64 bits.
use Rattle.std.specs.Prelude.{ℕ, ◌+◌, ◌-◌, ◌^◌, min, Bool, cond, List, [], ◌∷◌, ◌++◌, map, Option, Some, option_map, option_and_then, slice_get, filter_map}
use Rattle.value_type.specs.declared.kind.Kind.{Kind}
use Rattle.value_type.specs.declared.poset.Types.{Types}
use Rattle.value_type.specs.declared.port.Port.{Port}
use Rattle.value_type.specs.declared.value.Value.{Value}
use Rattle.design_model.specs.declared.design.CatRow.{CatRow}
use Rattle.design_model.specs.declared.design.Design.{Design}
use Rattle.design_model.specs.declared.design.Part.{Part}
use Rattle.design_model.specs.Heights.{sum_all, height, survey, joined, greatest, enough_rounds}
use Rattle.design_model.specs.Parts.{required_ports}
use Rattle.cut_plan.specs.declared.reads.Signal.{Signal}
use Rattle.cut_plan.specs.CutReads.{is_listed}

-- the number, or the greatest one of 64 bits where it is greater
abbrev pub clip : ℕ → ℕ
clip n = min n (2 ^ 64 - 1)

abbrev pub clipped : Option ℕ → Option ℕ
clipped n = option_map clip n

-- the sum of both, if they are there
abbrev pub plus : Option ℕ → Option ℕ → Option ℕ
plus a b = option_and_then (λ a. option_map (λ b. a + b) b) a

-- the sum of this number and all of these, in 64 bits
abbrev pub sum_from : ℕ → List (Option ℕ) → Option ℕ
sum_from total more = clipped (option_map (λ b. total + b) (sum_all more))

-- the values at the port in the rows, if these are known
abbrev pub column : Option (List CatRow) → ℕ → Option (List Value)
column rows port = option_map (λ rows. filter_map (λ row. slice_get row.required port) rows) rows

-- the values that are added, followed by the column, or nothing where the column isn't known
abbrev pub with_column : List Value → Option (List Value) → Option (List Value)
with_column values column = option_map (λ more. values ++ more) column

-- the height of a required port of a part if it is listed, and 0 if it isn't
abbrev pub height_if : Types → Design → Bool → ℕ → Kind → Option ℕ
height_if t design listed port kind = cond listed (height t kind (column (survey t design).rows port)) (Some 0)

-- the heights of the part's required ports from this one on
abbrev pub port_heights : Types → Design → List Signal → ℕ → ℕ → List Port → List (Option ℕ)
port_heights t design cut part port [] = []
port_heights t design cut part port (p ∷ ports) = height_if t design (is_listed cut part port) port p.kind ∷ port_heights t design cut part (port + 1) ports

-- the heights of the required ports of the parts from this one on
abbrev pub all_heights : Types → List Signal → ℕ → List Part → List (Option ℕ)
all_heights t cut start [] = []
all_heights t cut start (p ∷ parts) = port_heights t p.design cut start 0 (required_ports p.design) ++ all_heights t cut (start + 1) parts

-- so many rounds are enough for the parts
abbrev pub greatest_of : Types → ℕ → List Part → Option ℕ
greatest_of t least parts = greatest least (map (λ p. enough_rounds t p.design) parts)

-- the rows of all the branches, if each is made of catalogues and choices alone
abbrev pub rows_joined : Types → List Part → Option (List CatRow)
rows_joined t branches = joined (map (λ b. (survey t b.design).rows) branches)
