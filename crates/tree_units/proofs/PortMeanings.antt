-- Types of ports have meanings exactly where they have no faults, and ports are whole.
use Rattle.std.proofs.Common.{◌≡◌, ◌∙◌, ℕ, Bool, true, false, cond, List, [], ◌++◌, map, refl, sym, ap, subst, arith}
use Rattle.std.proofs.lemmas.Bool.Decides.{nat_tests}
use Rattle.std.specs.Prelude.{◌&&◌, not, IsTrue, nat_le, Option, Some, None, Result, Ok, Err, option_and_then, option_map}
use Rattle.design_lexer.specs.declared.tree.FactorTree.{FactorTree}
use Rattle.design_lexer.specs.declared.tree.PortTree.{PortTree}
use Rattle.design_lexer.specs.declared.tree.TypeTree.{TypeTree}
use Rattle.design_lexer.specs.declared.tree.TypeTree.TheVariants as type
use Rattle.fault_list.specs.Faults.{fault_if, fault_unless, faults_in}
use Rattle.fault_list.specs.declared.fault.Fault.{Fault}
use Rattle.fault_list.specs.declared.fault.FaultKind.TheVariants.{PortGrid}
use Rattle.order_core.specs.Pointwise.{Each}
use Rattle.order_core.specs.Tuple.{are_values}
use Rattle.tree_units.proofs.ItemLemmas.{IsThere, all_of_each, each_applied, each_false, each_fits, each_given, each_gives, each_none, each_of_all, false_each, map_there, none_each}
use Rattle.tree_units.proofs.PortLevels as level
use Rattle.tree_units.proofs.TypeInduction.{for_each_type}
use Rattle.tree_units.proofs.UnitSizes.{measure_sized}
use Rattle.tree_units.specs.Ports.{all_posets, counted, has_off_grid, is_uneven, kind_of, number_kind, port_faults, port_measure, port_of, port_unit_of, type_faults, unit_at, unit_text}
use Rattle.tree_units.specs.Together.{together}
use Rattle.tree_units.specs.Units.{is_whole}
use Rattle.unit_core.specs.Measure.{Measure, one}
use Rattle.unit_core.specs.declared.dim.Dim.{Dim}
use Rattle.value_type.specs.declared.kind.Kind.{Kind}
use Rattle.value_type.specs.declared.kind.Kind.TheFolds.{fold_out-Kind}
use Rattle.value_type.specs.declared.kind.Kind.TheVariants as kind
use Rattle.value_type.specs.declared.port.Port.{Port}
use Rattle.value_type.specs.declared.port.PortUnit.{PortUnit}
use Rattle.value_type.specs.declared.port.PortUnit.TheVariants as unit
use Rattle.value_type.specs.Ports.{unit_fits}
use Rattle.value_type.specs.Ports as whole

-- ---- units

unit_there : (text : List ℕ) (m : Result Measure Fault) → is_uneven m ≡ false → faults_in m ≡ [] → IsThere (counted text m)
unit_there text (Ok u) h k = go (is_whole u) h
  where
    go : (t : Bool) → not t ≡ false → IsThere (cond t (Some (unit.Unit text u.size.num)) None)
    go true e = (unit.Unit text u.size.num, refl)
    go false e = absurd (cc)
unit_there text (Err fault) h k = absurd (cc)

unit_even : (text : List ℕ) (m : Result Measure Fault) (u : PortUnit) → counted text m ≡ Some u → is_uneven m ≡ false
unit_even text (Ok v) u h = go (is_whole v) h
  where
    go : (t : Bool) → cond t (Some (unit.Unit text v.size.num)) None ≡ Some u → not t ≡ false
    go true e = refl
    go false e = absurd (cc)
unit_even text (Err fault) u h = absurd (cc)

number_there : (m : Result Measure Fault) → faults_in m ≡ [] → IsThere (number_kind m)
number_there (Ok u) h = (kind.Num u.dim, refl)
number_there (Err fault) h = absurd (cc)

number_faultless : (m : Result Measure Fault) (k : Kind) → number_kind m ≡ Some k → faults_in m ≡ []
number_faultless (Ok u) k h = refl
number_faultless (Err fault) k h = absurd (cc)

poset_there : {B : Type 0} (f : ℕ → B) (o : Option ℕ) (fault : Fault) → fault_unless o fault ≡ [] → IsThere (option_map f o)
poset_there f (Some n) fault h = (f n, refl)
poset_there f None fault h = absurd (cc)

poset_faultless : {B : Type 0} (f : ℕ → B) (o : Option ℕ) (fault : Fault) (y : B) → option_map f o ≡ Some y → fault_unless o fault ≡ []
poset_faultless f (Some n) fault y h = refl
poset_faultless f None fault y h = absurd (cc)

-- ---- which units fit which types

fits-Nat : (dim : Dim) → IsTrue (unit_fits (kind.Num dim) unit.Nat)
fits-Nat dim = rw (fold_out-Kind, kind.outs-Num, unit.outs-Nat) refl

fits-Unit : (dim : Dim) (text : List ℕ) (size : ℕ) → IsTrue (nat_le 1 size && nat_le size 10000000000000000000) → IsTrue (unit_fits (kind.Num dim) (unit.Unit text size))
fits-Unit dim text size h = rw (fold_out-Kind, kind.outs-Num, unit.outs-Unit) h

fits-Fin : (k : ℕ) → IsTrue (unit_fits (kind.Fin k) unit.Poset)
fits-Fin k = rw (fold_out-Kind, kind.outs-Fin, unit.outs-Poset) refl

fits-Up : (k : ℕ) → IsTrue (unit_fits (kind.Up k) unit.Poset)
fits-Up k = rw (fold_out-Kind, kind.outs-Up, unit.outs-Poset) refl

fits-Prod : (ks : List Kind) (us : List PortUnit) → IsTrue (are_values (map unit_fits ks) us) → IsTrue (unit_fits (kind.Prod ks) (unit.Parts us))
fits-Prod ks us h = rw (fold_out-Kind, kind.outs-Prod, unit.outs-Parts) h

number_fits : (factors : List FactorTree) (k : Kind) (u : PortUnit) → number_kind (port_measure factors) ≡ Some k → counted (unit_text factors) (port_measure factors) ≡ Some u → IsTrue (unit_fits k u)
number_fits factors k u h l = go (port_measure factors) refl h l
  where
    go : (m : Result Measure Fault) → port_measure factors ≡ m → number_kind m ≡ Some k → counted (unit_text factors) m ≡ Some u → IsTrue (unit_fits k u)
    go (Err fault) e h l = absurd (cc)
    go (Ok v) e h l = at_whole (is_whole v) l
      where
        in_range : IsTrue (nat_le 1 v.size.num && nat_le v.size.num 10000000000000000000)
        in_range =
            let sized = measure_sized (unit_at factors) factors v e in
            let p = sized.num_positive in
            let r = sized.num_in_range in
            grind (arith, nat_tests)

        at_whole : (t : Bool) → cond t (Some (unit.Unit (unit_text factors) v.size.num)) None ≡ Some u → IsTrue (unit_fits k u)
        at_whole true m =
            let same_kind : kind.Num v.dim ≡ k = cc in
            let same_unit : unit.Unit (unit_text factors) v.size.num ≡ u = cc in
            subst (λ (x : Kind). IsTrue (unit_fits x u)) same_kind (subst (λ (y : PortUnit). IsTrue (unit_fits (kind.Num v.dim) y)) same_unit (fits-Unit v.dim (unit_text factors) v.size.num in_range))
        at_whole false m = absurd (cc)

-- ---- types

abbrev GivesUnit : (List ℕ → Option ℕ) → TypeTree → Type 0
GivesUnit posets t = has_off_grid t ≡ false → type_faults posets t ≡ [] → IsThere (port_unit_of t)

unit_of_faultless : (posets : List ℕ → Option ℕ) (t : TypeTree) → has_off_grid t ≡ false → type_faults posets t ≡ [] → IsThere (port_unit_of t)
unit_of_faultless posets = for_each_type (GivesUnit posets)
    (λ g h. (unit.Nat, level.unit-Nat))
    (λ factors g h. rw level.unit-Unit (unit_there (unit_text factors) (port_measure factors) (sym (level.grid-Unit factors) ∙ g) (sym (level.faults-Unit posets factors) ∙ h)))
    (λ name g h. (unit.Poset, level.unit-Poset name))
    (λ name g h. (unit.Poset, level.unit-Up name))
    product
  where
    product : (parts : List TypeTree) → Each (GivesUnit posets) parts → GivesUnit posets (type.Product parts)
    product parts each g h =
        let even = false_each has_off_grid parts (sym (level.grid-Product parts) ∙ g) in
        let faultless = none_each (type_faults posets) parts (sym (level.faults-Product posets parts) ∙ h) in
        let on_grid = each_applied (λ t. has_off_grid t ≡ false) (λ t. type_faults posets t ≡ [] → IsThere (port_unit_of t)) parts each even in
        let all = all_of_each port_unit_of parts (each_applied (λ t. type_faults posets t ≡ []) (λ t. IsThere (port_unit_of t)) parts on_grid faultless) in
        (unit.Parts all.0, level.unit-Product parts ∙ ap (option_map unit.Parts) all.1)

abbrev GivesKind : (List ℕ → Option ℕ) → TypeTree → Type 0
GivesKind posets t = type_faults posets t ≡ [] → IsThere (kind_of posets t)

kind_of_faultless : (posets : List ℕ → Option ℕ) (t : TypeTree) → type_faults posets t ≡ [] → IsThere (kind_of posets t)
kind_of_faultless posets = for_each_type (GivesKind posets)
    (λ h. (kind.Num one.dim, level.kind-Nat posets))
    (λ factors h. rw level.kind-Unit (number_there (port_measure factors) (sym (level.faults-Unit posets factors) ∙ h)))
    (λ name h. rw level.kind-Poset (poset_there kind.Fin (posets name.name) _ (sym (level.faults-Poset posets name) ∙ h)))
    (λ name h. rw level.kind-Up (poset_there kind.Up (posets name.name) _ (sym (level.faults-Up posets name) ∙ h)))
    product
  where
    product : (parts : List TypeTree) → Each (GivesKind posets) parts → GivesKind posets (type.Product parts)
    product parts each h =
        let faultless = none_each (type_faults posets) parts (sym (level.faults-Product posets parts) ∙ h) in
        let all = all_of_each (kind_of posets) parts (each_applied (λ t. type_faults posets t ≡ []) (λ t. IsThere (kind_of posets t)) parts each faultless) in
        (kind.Prod all.0, level.kind-Product posets parts ∙ ap (option_map kind.Prod) all.1)

abbrev HasNoFault : (List ℕ → Option ℕ) → TypeTree → Type 0
HasNoFault posets t = (k : Kind) → kind_of posets t ≡ Some k → type_faults posets t ≡ []

kind_faultless : (posets : List ℕ → Option ℕ) (t : TypeTree) (k : Kind) → kind_of posets t ≡ Some k → type_faults posets t ≡ []
kind_faultless posets = for_each_type (HasNoFault posets)
    (λ k h. level.faults-Nat posets)
    (λ factors k h. level.faults-Unit posets factors ∙ number_faultless (port_measure factors) k (sym (level.kind-Unit posets factors) ∙ h))
    (λ name k h. level.faults-Poset posets name ∙ poset_faultless kind.Fin (posets name.name) _ k (sym (level.kind-Poset posets name) ∙ h))
    (λ name k h. level.faults-Up posets name ∙ poset_faultless kind.Up (posets name.name) _ k (sym (level.kind-Up posets name) ∙ h))
    product
  where
    product : (parts : List TypeTree) → Each (HasNoFault posets) parts → HasNoFault posets (type.Product parts)
    product parts each k h =
        let all = map_there kind.Prod (together (map (kind_of posets) parts)) k (sym (level.kind-Product posets parts) ∙ h) in
        level.faults-Product posets parts
        ∙ each_none (type_faults posets) parts (each_given (kind_of posets) (λ t. type_faults posets t ≡ []) parts all.0 each (each_of_all (kind_of posets) parts all.0 all.1))

abbrev IsOnGrid : TypeTree → Type 0
IsOnGrid t = (u : PortUnit) → port_unit_of t ≡ Some u → has_off_grid t ≡ false

unit_on_grid : (t : TypeTree) (u : PortUnit) → port_unit_of t ≡ Some u → has_off_grid t ≡ false
unit_on_grid = for_each_type IsOnGrid
    (λ u h. level.grid-Nat)
    (λ factors u h. level.grid-Unit factors ∙ unit_even (unit_text factors) (port_measure factors) u (sym (level.unit-Unit factors) ∙ h))
    (λ name u h. level.grid-Poset name)
    (λ name u h. level.grid-Up name)
    product
  where
    product : (parts : List TypeTree) → Each IsOnGrid parts → IsOnGrid (type.Product parts)
    product parts each u h =
        let all = map_there unit.Parts (together (map port_unit_of parts)) u (sym (level.unit-Product parts) ∙ h) in
        level.grid-Product parts
        ∙ each_false has_off_grid parts (each_given port_unit_of (λ t. has_off_grid t ≡ false) parts all.0 each (each_of_all port_unit_of parts all.0 all.1))

-- What fits stays fitting along equations.
fits_again : (k l : Kind) (u v : PortUnit) → Some k ≡ Some l → Some u ≡ Some v → IsTrue (unit_fits k u) → IsTrue (unit_fits l v)
fits_again k l u v e f h = let same_kind : k ≡ l = cc in let same_unit : u ≡ v = cc in subst (λ (x : Kind). IsTrue (unit_fits x v)) same_kind (subst (λ (y : PortUnit). IsTrue (unit_fits k y)) same_unit h)

abbrev Fits : (List ℕ → Option ℕ) → TypeTree → Type 0
Fits posets t = (k : Kind) (u : PortUnit) → kind_of posets t ≡ Some k → port_unit_of t ≡ Some u → IsTrue (unit_fits k u)

type_fits : (posets : List ℕ → Option ℕ) (t : TypeTree) (k : Kind) (u : PortUnit) → kind_of posets t ≡ Some k → port_unit_of t ≡ Some u → IsTrue (unit_fits k u)
type_fits posets = for_each_type (Fits posets)
    (λ k u h l. fits_again (kind.Num one.dim) k unit.Nat u (sym (level.kind-Nat posets) ∙ h) (sym level.unit-Nat ∙ l) (fits-Nat one.dim))
    (λ factors k u h l. number_fits factors k u (sym (level.kind-Unit posets factors) ∙ h) (sym (level.unit-Unit factors) ∙ l))
    (λ name k u h l. let n = map_there kind.Fin (posets name.name) k (sym (level.kind-Poset posets name) ∙ h) in fits_again (kind.Fin n.0) k unit.Poset u (ap (λ (x : Kind). Some x) n.2) (sym (level.unit-Poset name) ∙ l) (fits-Fin n.0))
    (λ name k u h l. let n = map_there kind.Up (posets name.name) k (sym (level.kind-Up posets name) ∙ h) in fits_again (kind.Up n.0) k unit.Poset u (ap (λ (x : Kind). Some x) n.2) (sym (level.unit-Up name) ∙ l) (fits-Up n.0))
    product
  where
    product : (parts : List TypeTree) → Each (Fits posets) parts → Fits posets (type.Product parts)
    product parts each k u h l =
        let ks = map_there kind.Prod (together (map (kind_of posets) parts)) k (sym (level.kind-Product posets parts) ∙ h) in
        let us = map_there unit.Parts (together (map port_unit_of parts)) u (sym (level.unit-Product parts) ∙ l) in
        fits_again (kind.Prod ks.0) k (unit.Parts us.0) u (ap (λ (x : Kind). Some x) ks.2) (ap (λ (y : PortUnit). Some y) us.2)
        (fits-Prod ks.0 us.0 (each_fits (kind_of posets) port_unit_of unit_fits parts ks.0 us.0 each (each_of_all (kind_of posets) parts ks.0 ks.1) (each_of_all port_unit_of parts us.0 us.1)))

-- ---- posets

module _ (posets : List ℕ → Option ℕ) (test : ℕ → Bool) (passes : (name : List ℕ) (k : ℕ) → posets name ≡ Some k → IsTrue (test k)) where
  abbrev Passes : Kind → Type 0
  Passes k = IsTrue (all_posets test k)

  abbrev PassesAll : TypeTree → Type 0
  PassesAll t = (k : Kind) → kind_of posets t ≡ Some k → Passes k

  posets_pass : (t : TypeTree) (k : Kind) → kind_of posets t ≡ Some k → Passes k
  posets_pass = for_each_type PassesAll
      (λ k h. passes_again (kind.Num one.dim) k (sym (level.kind-Nat posets) ∙ h) (rw (fold_out-Kind, kind.outs-Num) refl))
      (λ factors k h. number_passes (port_measure factors) k (sym (level.kind-Unit posets factors) ∙ h))
      (λ name k h. let n = map_there kind.Fin (posets name.name) k (sym (level.kind-Poset posets name) ∙ h) in subst Passes n.2 (rw (fold_out-Kind, kind.outs-Fin) (passes name.name n.0 n.1)))
      (λ name k h. let n = map_there kind.Up (posets name.name) k (sym (level.kind-Up posets name) ∙ h) in subst Passes n.2 (rw (fold_out-Kind, kind.outs-Up) (passes name.name n.0 n.1)))
      product
    where
      passes_again : (k l : Kind) → Some k ≡ Some l → Passes k → Passes l
      passes_again k l e h = let same : k ≡ l = cc in subst Passes same h

      number_passes : (m : Result Measure Fault) (k : Kind) → number_kind m ≡ Some k → Passes k
      number_passes (Ok u) k h = passes_again (kind.Num u.dim) k h (rw (fold_out-Kind, kind.outs-Num) refl)
      number_passes (Err fault) k h = absurd (cc)

      product : (parts : List TypeTree) → Each PassesAll parts → PassesAll (type.Product parts)
      product parts each k h =
          let ks = map_there kind.Prod (together (map (kind_of posets) parts)) k (sym (level.kind-Product posets parts) ∙ h) in
          subst Passes ks.2 (rw (fold_out-Kind, kind.outs-Prod) (each_gives (kind_of posets) (all_posets test) parts ks.0 each (each_of_all (kind_of posets) parts ks.0 ks.1)))

-- ---- ports

abbrev port : PortTree → Kind → PortUnit → Port
port tree k u = record { name = tree.name.name; kind = k; unit = u }

-- What a port was made of.
record IsMadeOf (posets : List ℕ → Option ℕ) (tree : PortTree) (p : Port) : Type 0 where
  kind_is : kind_of posets tree.kind ≡ Some p.kind
  unit_is : port_unit_of tree.kind ≡ Some p.unit
  name_is : p.name ≡ tree.name.name

made_of : (posets : List ℕ → Option ℕ) (tree : PortTree) (p : Port) → port_of posets tree ≡ Some p → IsMadeOf posets tree p
made_of posets tree p h = go (kind_of posets tree.kind) refl h
  where
    go : (o : Option Kind) → kind_of posets tree.kind ≡ o → option_and_then (λ k. option_map (port tree k) (port_unit_of tree.kind)) o ≡ Some p → IsMadeOf posets tree p
    go None e m = absurd (cc)
    go (Some k) e m =
        let u = map_there (port tree k) (port_unit_of tree.kind) p m in
        record {
          kind_is = e ∙ ap (λ (q : Port). Some q.kind) u.2;
          unit_is = u.1 ∙ ap (λ (q : Port). Some q.unit) u.2;
          name_is = ap (λ (q : Port). q.name) (sym u.2);
        }

pub port_meaning : (posets : List ℕ → Option ℕ) (tree : PortTree) → port_faults posets tree ≡ [] → (p : Port) × (port_of posets tree ≡ Some p)
port_meaning posets tree h = go (has_off_grid tree.kind) refl h
  where
    go : (t : Bool) → has_off_grid tree.kind ≡ t → fault_if t (record { kind = PortGrid; at = tree.at }) ++ type_faults posets tree.kind ≡ [] → (p : Port) × (port_of posets tree ≡ Some p)
    go true e m = absurd (cc)
    go false e m =
        let k = kind_of_faultless posets tree.kind m in
        let u = unit_of_faultless posets tree.kind e m in
        (port tree k.0 u.0, ap (option_and_then (λ (x : Kind). option_map (port tree x) (port_unit_of tree.kind))) k.1 ∙ ap (option_map (port tree k.0)) u.1)

pub port_faultless : (posets : List ℕ → Option ℕ) (tree : PortTree) (p : Port) → port_of posets tree ≡ Some p → port_faults posets tree ≡ []
port_faultless posets tree p h = let made = made_of posets tree p h in rw (unit_on_grid tree.kind p.unit made.unit_is) (kind_faultless posets tree.kind p.kind made.kind_is)

pub port_name : (posets : List ℕ → Option ℕ) (tree : PortTree) (p : Port) → port_of posets tree ≡ Some p → p.name ≡ tree.name.name
port_name posets tree p h = (made_of posets tree p h).name_is

pub port_whole : (posets : List ℕ → Option ℕ) (tree : PortTree) (p : Port) → port_of posets tree ≡ Some p → IsTrue (whole.is_whole p)
port_whole posets tree p h = let made = made_of posets tree p h in type_fits posets tree.kind p.kind p.unit made.kind_is made.unit_is

pub port_posets : (posets : List ℕ → Option ℕ) (test : ℕ → Bool) (tree : PortTree) (p : Port) → ((name : List ℕ) (k : ℕ) → posets name ≡ Some k → IsTrue (test k)) → port_of posets tree ≡ Some p
    → IsTrue (all_posets test p.kind)
port_posets posets test tree p passes h = posets_pass posets test passes tree.kind p.kind (made_of posets tree p h).kind_is
