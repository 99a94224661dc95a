-- What is worked out from the type of a port, one level at a time.
use Rattle.std.proofs.Common.{◌≡◌, refl, ℕ, false, List, [], map}
use Rattle.std.proofs.lemmas.List.Folds.{flat_map-map}
use Rattle.std.specs.List.{flat_map}
use Rattle.std.specs.Prelude.{Option, Some, option_map}
use Rattle.design_lexer.specs.declared.tree.FactorTree.{FactorTree}
use Rattle.design_lexer.specs.declared.tree.NameAt.{NameAt}
use Rattle.design_lexer.specs.declared.tree.TypeTree.{TypeTree, fold_out-TypeTree}
use Rattle.design_lexer.specs.declared.tree.TypeTree.TheVariants as type
use Rattle.fault_list.specs.declared.fault.Fault.{Fault}
use Rattle.tree_units.specs.Ports.{counted, has_off_grid, is_off_grid, kind_of, number_kind, port_measure, port_unit_of, poset_faults, some_off_grid, type_faults, unit_at, unit_text}
use Rattle.tree_units.specs.Together.{together}
use Rattle.tree_units.specs.Units.{unit_faults}
use Rattle.unit_core.specs.Measure.{one}
use Rattle.value_type.specs.declared.kind.Kind.TheVariants as kind
use Rattle.value_type.specs.declared.port.PortUnit.TheVariants as unit

pub grid-Unit : (factors : List FactorTree) → has_off_grid (type.Unit factors) ≡ is_off_grid factors
grid-Unit factors = rw (fold_out-TypeTree, type.outs-Unit) refl

pub grid-Nat : has_off_grid type.Nat ≡ false
grid-Nat = rw (fold_out-TypeTree, type.outs-Nat) refl

pub grid-Poset : (name : NameAt) → has_off_grid (type.Poset name) ≡ false
grid-Poset name = rw (fold_out-TypeTree, type.outs-Poset) refl

pub grid-Up : (name : NameAt) → has_off_grid (type.Up name) ≡ false
grid-Up name = rw (fold_out-TypeTree, type.outs-Up) refl

pub grid-Product : (parts : List TypeTree) → has_off_grid (type.Product parts) ≡ some_off_grid parts
grid-Product parts = rw (fold_out-TypeTree, type.outs-Product) refl

pub unit-Nat : port_unit_of type.Nat ≡ Some unit.Nat
unit-Nat = rw (fold_out-TypeTree, type.outs-Nat) refl

pub unit-Unit : (factors : List FactorTree) → port_unit_of (type.Unit factors) ≡ counted (unit_text factors) (port_measure factors)
unit-Unit factors = rw (fold_out-TypeTree, type.outs-Unit) refl

pub unit-Poset : (name : NameAt) → port_unit_of (type.Poset name) ≡ Some unit.Poset
unit-Poset name = rw (fold_out-TypeTree, type.outs-Poset) refl

pub unit-Up : (name : NameAt) → port_unit_of (type.Up name) ≡ Some unit.Poset
unit-Up name = rw (fold_out-TypeTree, type.outs-Up) refl

pub unit-Product : (parts : List TypeTree) → port_unit_of (type.Product parts) ≡ option_map unit.Parts (together (map port_unit_of parts))
unit-Product parts = rw (fold_out-TypeTree, type.outs-Product) refl

module _ (posets : List ℕ → Option ℕ) where
  pub faults-Nat : type_faults posets type.Nat ≡ []
  faults-Nat = rw (fold_out-TypeTree, type.outs-Nat) refl

  pub faults-Unit : (factors : List FactorTree) → type_faults posets (type.Unit factors) ≡ unit_faults (unit_at factors) factors
  faults-Unit factors = rw (fold_out-TypeTree, type.outs-Unit) refl

  pub faults-Poset : (name : NameAt) → type_faults posets (type.Poset name) ≡ poset_faults posets name
  faults-Poset name = rw (fold_out-TypeTree, type.outs-Poset) refl

  pub faults-Up : (name : NameAt) → type_faults posets (type.Up name) ≡ poset_faults posets name
  faults-Up name = rw (fold_out-TypeTree, type.outs-Up) refl

  pub faults-Product : (parts : List TypeTree) → type_faults posets (type.Product parts) ≡ flat_map (type_faults posets) parts
  faults-Product parts = rw (fold_out-TypeTree, type.outs-Product) (flat_map-map (λ (faults : List Fault). faults) (type_faults posets) parts)

  pub kind-Nat : kind_of posets type.Nat ≡ Some (kind.Num one.dim)
  kind-Nat = rw (fold_out-TypeTree, type.outs-Nat) refl

  pub kind-Unit : (factors : List FactorTree) → kind_of posets (type.Unit factors) ≡ number_kind (port_measure factors)
  kind-Unit factors = rw (fold_out-TypeTree, type.outs-Unit) refl

  pub kind-Poset : (name : NameAt) → kind_of posets (type.Poset name) ≡ option_map kind.Fin (posets name.name)
  kind-Poset name = rw (fold_out-TypeTree, type.outs-Poset) refl

  pub kind-Up : (name : NameAt) → kind_of posets (type.Up name) ≡ option_map kind.Up (posets name.name)
  kind-Up name = rw (fold_out-TypeTree, type.outs-Up) refl

  pub kind-Product : (parts : List TypeTree) → kind_of posets (type.Product parts) ≡ option_map kind.Prod (together (map (kind_of posets) parts))
  kind-Product parts = rw (fold_out-TypeTree, type.outs-Product) refl
