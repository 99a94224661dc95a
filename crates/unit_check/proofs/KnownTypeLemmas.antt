-- No fault of a unit, a constant or a type of a port is that a name leads nowhere, where its names are known.
use Rattle.std.proofs.Common.{◌≡◌, ◌∙◌, arith, refl, sym, ap, subst, ℕ, Bool, true, false, cond, List, [], ◌∷◌, ◌++◌}
use Rattle.std.specs.List.{flat_map}
use Rattle.std.specs.Prelude.{nat_lt, Option, Some, None, Result, Ok, Err, is_some, map, option_and_then, slice_get}
use Rattle.design_lexer.specs.declared.tree.ConstantTree.{ConstantTree}
use Rattle.design_lexer.specs.declared.tree.FactorTree.{FactorTree}
use Rattle.design_lexer.specs.declared.tree.NameAt.{NameAt}
use Rattle.design_lexer.specs.declared.tree.PortTree.{PortTree}
use Rattle.design_lexer.specs.declared.tree.TypeTree.{TypeTree, fold-roll-TypeTree, ind-TypeTree, map-TypeTree, roll-TypeTree}
use Rattle.design_lexer.specs.declared.tree.TypeTree.TheOpen.{TypeTree-F}
use Rattle.fault_list.specs.FaultLaws.{none_left}
use Rattle.fault_list.specs.Faults.{fault_unless, faults_in}
use Rattle.fault_list.specs.RestLaws.{none_right}
use Rattle.fault_list.specs.declared.fault.Fault.{Fault}
use Rattle.fault_list.specs.declared.fault.FaultKind.TheVariants.{Exponent, PortGrid}
use Rattle.name_rules.specs.Known.{Known}
use Rattle.name_rules.specs.Unknown.{type_step, type_unknown, unknown, unknown_units, unknown_unless}
use Rattle.tree_units.specs.Constants.{constant_faults, fraction_fault, fraction_faults, quotient_of, size_faults}
use Rattle.tree_units.specs.Ports.{fault_step, has_off_grid, port_faults, poset_faults, type_faults, unit_at}
use Rattle.tree_units.specs.Posets.{poset_place}
use Rattle.tree_units.specs.Units.{factor_measure, measure_of, multiplied, named_measure, placed, product_from, raised, unit_fault, unit_faults}
use Rattle.unit_check.proofs.UnknownLemmas.{AreOther, HasPosets, IsOther, both_other, if_other, none_other, none_there, passed}
use Rattle.value_type.specs.declared.poset.Types.{Types}

-- ---- units

-- A step's fault is of another kind, if it has one.
abbrev IsStep : {A : Type 0} → Result A Fault → Type 0
IsStep r = AreOther (faults_in r)

-- the next step from what was worked out
then_other : {A B : Type 0} (step : A → Result B Fault) (r : Result A Fault) → IsStep r → ((x : A) → IsStep (step x)) → IsStep {A = B} (elim r [ Ok x ↦ step x | Err fault ↦ Err fault ])
then_other step (Ok x) h k = k x
then_other step (Err fault) h k = h

either_other : {A : Type 0} (t : Bool) (r s : Result A Fault) → IsStep r → IsStep s → IsStep (cond t r s)
either_other true r s h k = h
either_other false r s h k = k

step_other : (at : ℕ) (fault : _) → IsOther (unit_fault at fault)
step_other at fault e = grind arith

placed_other : (at : ℕ) (r : _) → IsStep (placed at r)
placed_other at (Ok u) = tt
placed_other at (Err fault) = (step_other at fault, tt)

raised_other : (at : ℕ) (u : _) (negative : Bool) (power : Option ℕ) → IsStep (raised at u negative power)
raised_other at u negative None = tt
raised_other at u negative (Some n) = either_other (nat_lt 9 n) (Err (record { kind = Exponent; at = at })) _ (λ e. cc, tt) (placed_other at _)

named_other : (name : NameAt) (o : _) → fault_unless o (unknown name) ≡ [] → IsStep (named_measure name.at o)
named_other name (Some u) e = tt
named_other name None e = absurd (cc)

factor_other : (at : ℕ) (f : FactorTree) (fs : List FactorTree) → unknown_units (f ∷ fs) ≡ [] → IsStep (factor_measure at f)
factor_other at f fs e = then_other (λ u. raised at u f.negative f.power) _ (named_other f.name _ (none_left _ (unknown_units fs) e)) (λ u. raised_other at u f.negative f.power)

multiplied_other : (at : ℕ) (u : _) (f : FactorTree) (fs : List FactorTree) → unknown_units (f ∷ fs) ≡ [] → IsStep (multiplied at u f)
multiplied_other at u f fs e = then_other _ (factor_measure at f) (factor_other at f fs e) (λ v. placed_other at _)

product_other : (at : ℕ) (u : _) (factors : List FactorTree) → unknown_units factors ≡ [] → IsStep (product_from at u factors)
product_other at u [] e = tt
product_other at u (f ∷ fs) e = then_other (λ v. product_from at v fs) (multiplied at u f) (multiplied_other at u f fs e) (λ v. product_other at v fs (none_right _ (unknown_units fs) e))

unit_other : (at : ℕ) (factors : List FactorTree) → unknown_units factors ≡ [] → AreOther (unit_faults at factors)
unit_other at factors e = product_other at _ factors e

-- ---- constants

pub fraction_other : (at : ℕ) (r : _) → AreOther (fraction_faults at r)
fraction_other at (Ok q) = tt
fraction_other at (Err fault) = (of_fraction fault, tt)
  where
    of_fraction : (f : _) → IsOther (fraction_fault at f)
    of_fraction f e = grind arith

size_other : (at : ℕ) (q u : _) → AreOther (size_faults at q u)
size_other at (Ok q) (Ok u) = fraction_other at _
size_other at (Ok q) (Err fault) = tt
size_other at (Err fault) u = tt

pub constant_other : (c : ConstantTree) → unknown_units c.unit ≡ [] → AreOther (constant_faults c)
constant_other c e =
    both_other (fraction_faults c.at (quotient_of c) ++ unit_faults c.at c.unit) (size_faults c.at (quotient_of c) (measure_of c.at c.unit))
    (both_other (fraction_faults c.at (quotient_of c)) (unit_faults c.at c.unit) (fraction_other c.at (quotient_of c)) (unit_other c.at c.unit e)) (size_other c.at (quotient_of c) (measure_of c.at c.unit))

-- ---- types of ports

module _ (known : Known) (types : Types) (has : HasPosets known types) where
  poset_other : (name : NameAt) → unknown_unless known.poset name ≡ [] → AreOther (poset_faults (poset_place types) name)
  poset_other name e =
      let there = has.poset name.name (passed (known.poset name.name) (unknown name) e) in
      none_other (poset_faults (poset_place types) name) (none_there (poset_place types name.name) (unknown name) (placed_there (poset_place types name.name) (ap is_some there.1)))
    where
      placed_there : (o : Option ℕ) → is_some (option_and_then (slice_get types.posets) o) ≡ true → is_some o ≡ true
      placed_there (Some k) f = refl
      placed_there None f = f

  abbrev Claim : TypeTree → Type 0
  Claim tree = type_unknown known tree ≡ [] → AreOther (type_faults (poset_place types) tree)

  abbrev Claimed : Type 0
  Claimed = (tree : TypeTree) × Claim tree

  -- the types alone
  abbrev trees : TypeTree-F Claimed → TypeTree-F TypeTree
  trees y = map-TypeTree Claimed TypeTree (λ e. e.0) y

  -- the parts of a product
  parts_other : (es : List Claimed) → flat_map (λ faults. faults) (map (type_unknown known) (map (λ e. e.0) es)) ≡ [] → AreOther (flat_map (λ faults. faults) (map (type_faults (poset_place types)) (map (λ e. e.0) es)))
  parts_other [] e = tt
  parts_other (p ∷ es) e =
      let rest = flat_map (λ (faults : List Fault). faults) (map (type_unknown known) (map (λ (q : Claimed). q.0) es)) in
      both_other (type_faults (poset_place types) p.0) (flat_map (λ faults. faults) (map (type_faults (poset_place types)) (map (λ q. q.0) es))) (p.1 (none_left (type_unknown known p.0) rest e))
      (parts_other es (none_right (type_unknown known p.0) rest e))

  -- one level of a type
  level : (y : TypeTree-F Claimed) → type_step known (map-TypeTree TypeTree (List Fault) (type_unknown known) (trees y)) ≡ []
      → AreOther (fault_step (poset_place types) (map-TypeTree TypeTree (List Fault) (type_faults (poset_place types)) (trees y)))
  level TypeTree-F.Nat e = tt
  level (TypeTree-F.Unit factors) e = unit_other (unit_at factors) factors e
  level (TypeTree-F.Poset name) e = poset_other name e
  level (TypeTree-F.Up name) e = poset_other name e
  level (TypeTree-F.Product es) e = parts_other es e

  form : (y : TypeTree-F Claimed) → Claim (roll-TypeTree (trees y))
  form y e =
      subst AreOther (sym (fold-roll-TypeTree (List Fault) (fault_step (poset_place types)) (trees y))) (level y (sym (fold-roll-TypeTree (List Fault) (type_step known) (trees y)) ∙ e))

  type_other : (tree : TypeTree) → Claim tree
  type_other = ind-TypeTree Claim (λ x y is. subst (λ z. Claim (roll-TypeTree z)) is (form y))

  -- A unit off the grid is another fault.
  pub port_other : (port : PortTree) → type_unknown known port.kind ≡ [] → AreOther (port_faults (poset_place types) port)
  port_other port e =
      both_other _ (type_faults (poset_place types) port.kind) (if_other (has_off_grid port.kind) (record { kind = PortGrid; at = port.at }) (λ f. cc)) (type_other port.kind e)
