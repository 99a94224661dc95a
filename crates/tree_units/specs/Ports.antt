-- The types of ports: what they mean, and their faults.
use Rattle.std.specs.List.{flat_map, list_all, list_any}
use Rattle.std.specs.Prelude.{ℕ, Bool, true, false, not, cond, List, [], ◌∷◌, ◌++◌, Option, Some, None, Result, Ok, Err, codes, is_some, map, option_map, option_and_then}
use Rattle.design_lexer.specs.declared.tree.FactorTree.{FactorTree}
use Rattle.design_lexer.specs.declared.tree.NameAt.{NameAt}
use Rattle.design_lexer.specs.declared.tree.PortTree.{PortTree}
use Rattle.design_lexer.specs.declared.tree.TypeTree.{TypeTree, fold-TypeTree}
use Rattle.design_lexer.specs.declared.tree.TypeTree.TheOpen.{TypeTree-F}
use Rattle.fault_list.specs.Faults.{fault_if, fault_unless}
use Rattle.fault_list.specs.declared.fault.Fault.{Fault}
use Rattle.fault_list.specs.declared.fault.FaultKind.TheVariants.{PortGrid, Unknown}
use Rattle.tree_units.specs.Together.{together}
use Rattle.tree_units.specs.Units.{is_whole, measure_of, unit_faults}
use Rattle.unit_core.specs.Measure.{Measure, one}
use Rattle.value_type.specs.declared.kind.Kind.{Kind}
use Rattle.value_type.specs.declared.kind.Kind.TheFolds.{fold-Kind}
use Rattle.value_type.specs.declared.kind.Kind.TheOpen.{Kind-F}
use Rattle.value_type.specs.declared.kind.Kind.TheVariants as kind
use Rattle.value_type.specs.declared.port.Port.{Port}
use Rattle.value_type.specs.declared.port.PortUnit.{PortUnit}
use Rattle.value_type.specs.declared.port.PortUnit.TheVariants as unit

-- the place of a unit's first token
abbrev pub unit_at : List FactorTree → ℕ
unit_at [] = 0
unit_at (f ∷ fs) = f.name.at

-- the measure of a port's unit, or its first fault, at the unit's first token
abbrev pub port_measure : List FactorTree → Result Measure Fault
port_measure factors = measure_of (unit_at factors) factors

-- ---- faults

-- The measure is there, and its size isn't whole.
abbrev pub is_uneven : Result Measure Fault → Bool
is_uneven (Ok u) = not (is_whole u)
is_uneven (Err fault) = false

-- The unit breaks no rule of units, and its size isn't whole.
abbrev pub is_off_grid : List FactorTree → Bool
is_off_grid factors = is_uneven (port_measure factors)

-- one level of a type, with the answers of its parts in their place
abbrev pub grid_step : TypeTree-F Bool → Bool
grid_step (TypeTree-F.Unit factors) = is_off_grid factors
grid_step (TypeTree-F.Product parts) = list_any (λ part. part) parts
grid_step _ = false

-- Some unit in the type, at any depth, is off the grid.
abbrev pub has_off_grid : TypeTree → Bool
has_off_grid = fold-TypeTree Bool grid_step

-- So it is in one of the types.
abbrev pub some_off_grid : List TypeTree → Bool
some_off_grid trees = list_any (λ part. part) (map has_off_grid trees)

-- that the poset of this name isn't there, at the name
abbrev pub poset_faults : (List ℕ → Option ℕ) → NameAt → List Fault
poset_faults posets name = fault_unless (posets name.name) (record { kind = Unknown; at = name.at })

-- one level of a type, with the faults of its parts in their place
abbrev pub fault_step : (List ℕ → Option ℕ) → TypeTree-F (List Fault) → List Fault
fault_step posets TypeTree-F.Nat = []
fault_step posets (TypeTree-F.Unit factors) = unit_faults (unit_at factors) factors
fault_step posets (TypeTree-F.Poset name) = poset_faults posets name
fault_step posets (TypeTree-F.Up name) = poset_faults posets name
fault_step posets (TypeTree-F.Product parts) = flat_map (λ faults. faults) parts

-- the first fault of each unit and each poset that isn't there, from left to right
abbrev pub type_faults : (List ℕ → Option ℕ) → TypeTree → List Fault
type_faults posets = fold-TypeTree (List Fault) (fault_step posets)

-- A unit off the grid is a fault at the first token of the whole type, before those of its units and posets.
abbrev pub port_faults : (List ℕ → Option ℕ) → PortTree → List Fault
port_faults posets tree = fault_if (has_off_grid tree.kind) (record { kind = PortGrid; at = tree.at }) ++ type_faults posets tree.kind

-- ---- meanings

-- the numbers of the unit's dimension
abbrev pub number_kind : Result Measure Fault → Option Kind
number_kind (Ok u) = Some (kind.Num u.dim)
number_kind (Err fault) = None

-- one level of a type, with the types of its parts in their place
abbrev pub kind_step : (List ℕ → Option ℕ) → TypeTree-F (Option Kind) → Option Kind
kind_step posets TypeTree-F.Nat = Some (kind.Num one.dim)
kind_step posets (TypeTree-F.Unit factors) = number_kind (port_measure factors)
kind_step posets (TypeTree-F.Poset name) = option_map kind.Fin (posets name.name)
kind_step posets (TypeTree-F.Up name) = option_map kind.Up (posets name.name)
kind_step posets (TypeTree-F.Product parts) = option_map kind.Prod (together parts)

-- the type that the tree writes, where its units break no rule and its posets are there
abbrev pub kind_of : (List ℕ → Option ℕ) → TypeTree → Option Kind
kind_of posets = fold-TypeTree (Option Kind) (kind_step posets)

-- the minus before a power, where there is one
abbrev pub sign_text : Bool → List ℕ
sign_text negative = cond negative (codes "-") []

-- the power as it is written, if one is
abbrev pub power_text : FactorTree → List ℕ
power_text f = cond (is_some f.power) (codes "^" ++ sign_text f.negative ++ f.written) []

abbrev pub factor_text : FactorTree → List ℕ
factor_text f = f.name.name ++ power_text f

-- a factor after another one
abbrev pub joined_text : FactorTree → List ℕ
joined_text f = cond f.divided (codes "/") (codes ".") ++ factor_text f

-- the unit as it is written, without spaces
abbrev pub unit_text : List FactorTree → List ℕ
unit_text [] = []
unit_text (f ∷ fs) = factor_text f ++ flat_map joined_text fs

-- the text with the size, where it is whole
abbrev pub counted : List ℕ → Result Measure Fault → Option PortUnit
counted text (Ok u) = cond (is_whole u) (Some (unit.Unit text u.size.num)) None
counted text (Err fault) = None

-- one level of a type, with the units of its parts in their place
abbrev pub port_unit_step : TypeTree-F (Option PortUnit) → Option PortUnit
port_unit_step TypeTree-F.Nat = Some unit.Nat
port_unit_step (TypeTree-F.Unit factors) = counted (unit_text factors) (port_measure factors)
port_unit_step (TypeTree-F.Poset name) = Some unit.Poset
port_unit_step (TypeTree-F.Up name) = Some unit.Poset
port_unit_step (TypeTree-F.Product parts) = option_map unit.Parts (together parts)

-- how values of the type are written, where its units break no rule and are on the grid
abbrev pub port_unit_of : TypeTree → Option PortUnit
port_unit_of = fold-TypeTree (Option PortUnit) port_unit_step

-- the port that the tree writes, if it has no fault
abbrev pub port_of : (List ℕ → Option ℕ) → PortTree → Option Port
port_of posets tree = option_and_then (λ k. option_map (λ u. record { name = tree.name.name; kind = k; unit = u }) (port_unit_of tree.kind)) (kind_of posets tree.kind)

-- ---- posets of a type

-- one level of a type, with the answers of its parts in their place
abbrev pub poset_step : (ℕ → Bool) → Kind-F Bool → Bool
poset_step test (Kind-F.Num dim) = true
poset_step test (Kind-F.Fin k) = test k
poset_step test (Kind-F.Prod parts) = list_all (λ part. part) parts
poset_step test (Kind-F.Up k) = test k

-- Each poset that the type names passes the test.
abbrev pub all_posets : (ℕ → Bool) → Kind → Bool
all_posets test = fold-Kind Bool (poset_step test)
