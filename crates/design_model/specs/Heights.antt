-- The height of the grid that a net's cut signals climb, and how many rounds are enough.
use Rattle.std.specs.Prelude.{ℕ, ◌+◌, ◌-◌, max, Bool, true, false, not, cond, ◌==◌, List, [], ◌∷◌, ◌++◌, length, map, filter, filter_map, Option, Some, None, slice_get, option_map, option_and_then}
use Rattle.std.specs.List.{list_any}
use Rattle.order_core.specs.declared.num.Num.{Num as Number}
use Rattle.order_core.specs.declared.num.Num.TheVariants as number
use Rattle.value_type.specs.declared.kind.Kind.{Kind, fold-Kind}
use Rattle.value_type.specs.declared.kind.Kind.TheOpen.{Kind-F}
use Rattle.value_type.specs.declared.port.Port.{Port}
use Rattle.value_type.specs.declared.poset.Poset.{Poset}
use Rattle.value_type.specs.declared.poset.Types.{Types}
use Rattle.value_type.specs.declared.value.Value.{Value, out-Value}
use Rattle.value_type.specs.declared.value.Value.TheOpen.{Value-F}
use Rattle.value_type.specs.Fits.{Layer}
use Rattle.value_type.specs.PortKinds.{port_kinds}
use Rattle.design_model.specs.declared.design.CatRow.{CatRow}
use Rattle.design_model.specs.declared.design.Design.{Design, fold-Design}
use Rattle.design_model.specs.declared.design.Design.TheOpen.{Design-F}
use Rattle.design_model.specs.declared.expr.Constraint.{Constraint}
use Rattle.design_model.specs.Cuts.{Signal, cut_signals}
use Rattle.design_model.specs.ValueOf.{number_at}
use Rattle.design_model.specs.Wiring.{Wiring}

abbrev pub part_at : ℕ → Layer → Option Value
part_at i (Value-F.Tup xs) = slice_get xs i
part_at i _ = None

-- the part of this number of each tuple
abbrev pub parts_at : ℕ → List Value → List Value
parts_at i values = filter_map (λ v. part_at i (out-Value v)) values

abbrev pub is_same : Number → Number → Bool
is_same (number.Count a) (number.Count b) = a == b
is_same number.Top number.Top = true
is_same _ _ = false

abbrev pub is_zero : Number → Bool
is_zero (number.Count a) = a == 0
is_zero number.Top = false

-- each number once
abbrev pub different : List Number → List Number
different [] = []
different (x ∷ xs) = cond (list_any (is_same x) xs) (different xs) (x ∷ different xs)

-- how many different numbers besides zero there are among the values, Top being one
abbrev pub count_numbers : List Value → ℕ
count_numbers values = length (different (filter (λ x. not (is_zero x)) (filter_map (λ v. number_at (out-Value v)) values)))

-- the sum, if each summand is there
abbrev pub sum_all : List (Option ℕ) → Option ℕ
sum_all [] = Some 0
sum_all (x ∷ xs) = option_and_then (λ a. option_map (λ b. a + b) (sum_all xs)) x

abbrev pub size : Poset → ℕ
size p = length p.order.table

-- the heights of a tuple's parts, given the tuples
abbrev pub part_heights : ℕ → List (Option (List Value) → Option ℕ) → Option (List Value) → List (Option ℕ)
part_heights i [] values = []
part_heights i (height ∷ heights) values = height (option_map (parts_at i) values) ∷ part_heights (i + 1) heights values

-- one level of a type, with the heights of its parts in their place
abbrev pub height_step : Types → Kind-F (Option (List Value) → Option ℕ) → Option (List Value) → Option ℕ
height_step t (Kind-F.Num dim) values = option_map count_numbers values
height_step t (Kind-F.Fin k) values = option_map (λ p. size p - 1) (slice_get t.posets k)
height_step t (Kind-F.Prod heights) values = sum_all (part_heights 0 heights values)
height_step t (Kind-F.Up k) values = option_map size (slice_get t.posets k)

-- The height of a port of this type: of a poset's elements their number less one, of its upper sets their number, and of tuples the sum over the parts.
-- Of a number it is how many different numbers besides zero are among the values; there is none where the values aren't known.
abbrev pub height : Types → Kind → Option (List Value) → Option ℕ
height t = fold-Kind (Option (List Value) → Option ℕ) (height_step t)

-- What the heights need to know of a design: the types of its ports, the rows of its catalogues if it is made of catalogues and choices alone, and how many rounds are enough.
pub record Survey : Type 0 where
  pub provided : List Kind
  pub required : List Kind
  pub rows : Option (List CatRow)
  pub enough : Option ℕ

-- all the lists as one, if each is there
abbrev pub joined : List (Option (List CatRow)) → Option (List CatRow)
joined [] = Some []
joined (x ∷ xs) = option_and_then (λ rows. option_map (λ more. rows ++ more) (joined xs)) x

-- the greatest, if each is there, and at least this number
abbrev pub greatest : ℕ → List (Option ℕ) → Option ℕ
greatest least [] = Some least
greatest least (x ∷ xs) = option_and_then (λ a. option_map (λ b. max a b) (greatest least xs)) x

-- the values of the port in the rows, if these are known
abbrev pub values_at : List Survey → Signal → Option (List Value)
values_at parts s = option_and_then (λ part. option_map (λ rows. filter_map (λ row. slice_get row.required s.port) rows) part.rows) (slice_get parts s.part)

-- the height of a net: the sum over its cut signals
abbrev pub net_height : Types → Wiring → List Survey → Option ℕ
net_height t net parts = sum_all (map (λ s. height t s.kind (values_at parts s)) (cut_signals net))

-- the wiring of a net whose parts are known by these; it is `wiring_of` the net
abbrev pub surveyed : List Port → List Port → List Survey → List Constraint → Wiring
surveyed provides requires_ parts constraints = record {
  provides = port_kinds provides;
  requires_ = port_kinds requires_;
  provided = map (λ part. part.provided) parts;
  required = map (λ part. part.required) parts;
  constraints = constraints;
}

abbrev pub survey_step : Types → Design-F Survey Survey → Survey
survey_step t (Design-F.Cat provides requires_ rows) = record { provided = port_kinds provides; required = port_kinds requires_; rows = Some rows; enough = Some 1 }
survey_step t (Design-F.Choice provides requires_ branches) = record {
  provided = port_kinds provides;
  required = port_kinds requires_;
  rows = joined (map (λ branch. branch.rows) branches);
  enough = greatest 1 (map (λ branch. branch.enough) branches);
}
survey_step t (Design-F.Net provides requires_ parts constraints) = record {
  provided = port_kinds provides;
  required = port_kinds requires_;
  rows = None;
  enough = greatest 1 (option_map (λ h. h + 2) (net_height t (surveyed provides requires_ parts constraints) parts) ∷ map (λ part. part.enough) parts);
}

abbrev pub survey : Types → Design → Survey
survey t = fold-Design Survey Survey (survey_step t) (λ p. p.design)

-- How many rounds are enough: the greatest height of a net in the design, plus 2. There is no answer where a net has no height, and the answer is 1 where there is no net.
abbrev pub enough_rounds : Types → Design → Option ℕ
enough_rounds t design = (survey t design).enough
