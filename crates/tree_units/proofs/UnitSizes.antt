-- The size of each unit that factors write is above zero, and its numerator is in range.
use Rattle.std.proofs.Common.{◌≡◌, ◌*◌, ◌<◌, ◌≤◌, ℕ, zero, suc, Bool, true, false, cond, List, [], ◌∷◌, refl, sym, subst, arith}
use Rattle.std.proofs.Math.Nat.{mul-le-mul}
use Rattle.std.proofs.lemmas.Bool.Decides.{nat_tests}
use Rattle.std.specs.List.{list_all}
use Rattle.std.specs.Prelude.{ℤ, pos, negsuc, ◌&&◌, IsTrue, nat_le, nat_lt, Option, Some, None, Result, Ok, Err}
use Rattle.std.specs.Str.{bytes_eq}
use Rattle.design_lexer.specs.declared.tree.FactorTree.{FactorTree}
use Rattle.fault_list.specs.declared.fault.FaultKind.TheVariants as fault_kind
use Rattle.order_core.specs.MemberLaws.{first, second}
use Rattle.tree_units.specs.Units.{factor_measure, measure_of, multiplied, named_measure, placed, product_from, raised, signed}
use Rattle.unit_core.specs.Dimension.{are_exponents, dim_over, dim_times}
use Rattle.unit_core.specs.Measure.{Measure, one, over_measure, power_measure, sized, steps, tested, times_measure}
use Rattle.unit_core.specs.Ratio.{Ratio, greatest_part, over_ratio, quotient, times_ratio}
use Rattle.unit_core.specs.RatioLaws.{lowest_is, lowest-num_pos, quotient_ok}
use Rattle.unit_core.specs.Results.{and_then}
use Rattle.unit_core.specs.UnitTable.{Named, find, unit_named, units}
use Rattle.unit_core.specs.declared.dim.Dim.{Dim}
use Rattle.unit_core.specs.declared.fault.FractionFault.{FractionFault}
use Rattle.unit_core.specs.declared.fault.UnitFault.{UnitFault}
use Rattle.unit_core.specs.declared.fault.UnitFault.TheVariants.{Exponent}

pub record IsSized (u : Measure) : Type 0 where
  pub num_positive : 0 < u.size.num
  pub den_positive : 0 < u.size.den
  pub num_in_range : u.size.num ≤ greatest_part

and_then_ok : {A B E : Type 0} (step : A → Result B E) (r : Result A E) (y : B) → and_then step r ≡ Ok y → (x : A) × (r ≡ Ok x) × (step x ≡ Ok y)
and_then_ok step (Ok x) y h = (x, refl, h)
and_then_ok step (Err e) y h = absurd (cc)

quotient_sized : (a b : ℕ) (d : Dim) (r : Ratio) → 0 < a → quotient a b ≡ Ok r → IsSized (record { dim = d; size = r })
quotient_sized a b d r p e =
    let k = quotient_ok a b r (sym e) in
    record {
      num_positive = subst (λ (q : Ratio). 0 < q.num) (sym k.1) (lowest-num_pos a b p);
      den_positive = subst (λ (q : Ratio). 0 < q.den) (sym k.1) (lowest_is a b k.0).whole;
      num_in_range = k.2;
    }

tested_sized : (d : Dim) (a b : ℕ) → 0 < a → (u : Measure) → tested d (quotient a b) ≡ Ok u → IsSized u
tested_sized d a b p u h = go (are_exponents d) (quotient a b) refl h
  where
    go : (t : Bool) (q : Result Ratio FractionFault) → quotient a b ≡ q → cond t (sized d q) (Err Exponent) ≡ Ok u → IsSized u
    go true (Ok r) e k = let same : record { dim = d; size = r } ≡ u = cc in subst IsSized same (quotient_sized a b d r p e)
    go true (Err fault) e k = absurd (cc)
    go false q e k = absurd (cc)

times_sized : (u v w : Measure) → IsSized u → IsSized v → times_measure u v ≡ Ok w → IsSized w
unfolding times_measure times_ratio
times_sized u v w a b h = tested_sized (dim_times u.dim v.dim) (u.size.num * v.size.num) (u.size.den * v.size.den) (mul-le-mul a.num_positive b.num_positive) w h

over_sized : (u v w : Measure) → IsSized u → IsSized v → over_measure u v ≡ Ok w → IsSized w
unfolding over_measure over_ratio
over_sized u v w a b h = tested_sized (dim_over u.dim v.dim) (u.size.num * v.size.den) (u.size.den * v.size.num) (mul-le-mul a.num_positive b.den_positive) w h

one_sized : IsSized one
one_sized = record { num_positive = omega arith; den_positive = omega arith; num_in_range = omega arith }

module _ (step : Measure → Result Measure UnitFault) (keeps : (u w : Measure) → IsSized u → step u ≡ Ok w → IsSized w) where
  steps_sized : (n : ℕ) (u w : Measure) → IsSized u → steps step n u ≡ Ok w → IsSized w
  unfolding steps
  steps_sized zero u w s h = let same : u ≡ w = cc in subst IsSized same s
  steps_sized (suc n) u w s h = let k = and_then_ok (steps step n) (step u) w h in steps_sized n k.0 w (keeps u k.0 s k.1) k.2

power_sized : (u w : Measure) (n : ℤ) → IsSized u → power_measure u n ≡ Ok w → IsSized w
unfolding power_measure
power_sized u w (pos n) s h = steps_sized (λ v. times_measure v u) (λ v x t e. times_sized v u x t s e) n one w one_sized h
power_sized u w (negsuc n) s h = steps_sized (λ v. over_measure v u) (λ v x t e. over_sized v u x t s e) (suc n) one w one_sized h

is_sized : Named → Bool
is_sized entry = nat_lt 0 entry.measure.size.num && (nat_lt 0 entry.measure.size.den && nat_le entry.measure.size.num greatest_part)

all_sized : IsTrue (list_all is_sized units)
unfolding is_sized units
all_sized = refl

entry_sized : (entry : Named) → IsTrue (is_sized entry) → IsSized entry.measure
unfolding is_sized
entry_sized entry h = record { num_positive = grind (arith, nat_tests); den_positive = grind (arith, nat_tests); num_in_range = grind (arith, nat_tests) }

find_sized : (name : List ℕ) (entries : List Named) → IsTrue (list_all is_sized entries) → (u : Measure) → find name entries ≡ Some u → IsSized u
find_sized name [] all u h = absurd (cc)
find_sized name (entry ∷ entries) all u h = go (bytes_eq name entry.name) h (λ k. find_sized name entries (second (is_sized entry) _ all) u k)
  where
    go : (t : Bool) → cond t (Some entry.measure) (find name entries) ≡ Some u → (find name entries ≡ Some u → IsSized u) → IsSized u
    go true k later = let same : entry.measure ≡ u = cc in subst IsSized same (entry_sized entry (first _ _ all))
    go false k later = later k

named_sized : (at : ℕ) (name : List ℕ) (u : Measure) → named_measure at (unit_named name) ≡ Ok u → IsSized u
unfolding unit_named
named_sized at name u h = go (find name units) refl h
  where
    go : (o : Option Measure) → find name units ≡ o → named_measure at o ≡ Ok u → IsSized u
    go None e k = absurd (cc)
    go (Some v) e k = let same : v ≡ u = cc in subst IsSized same (find_sized name units all_sized v e)

placed_ok : (at : ℕ) (r : Result Measure UnitFault) (u : Measure) → placed at r ≡ Ok u → r ≡ Ok u
placed_ok at (Ok v) u h = let same : v ≡ u = cc in cc
placed_ok at (Err fault) u h = absurd (cc)

raised_sized : (at : ℕ) (u : Measure) (negative : Bool) (power : Option ℕ) (w : Measure) → IsSized u → raised at u negative power ≡ Ok w → IsSized w
raised_sized at u negative None w s h = let same : u ≡ w = cc in subst IsSized same s
raised_sized at u negative (Some n) w s h = go (nat_lt 9 n) h
  where
    go : (t : Bool) → cond t (Err (record { kind = fault_kind.Exponent; at = at })) (placed at (power_measure u (signed negative (pos n)))) ≡ Ok w → IsSized w
    go true k = absurd (cc)
    go false k = power_sized u w (signed negative (pos n)) s (placed_ok at _ w k)

factor_sized : (at : ℕ) (f : FactorTree) (u : Measure) → factor_measure at f ≡ Ok u → IsSized u
factor_sized at f u h =
    let k = and_then_ok (λ (v : Measure). raised at v f.negative f.power) (named_measure f.name.at (unit_named f.name.name)) u h in
    raised_sized at k.0 f.negative f.power u (named_sized f.name.at f.name.name k.0 k.1) k.2

multiplied_sized : (at : ℕ) (u : Measure) (f : FactorTree) (w : Measure) → IsSized u → multiplied at u f ≡ Ok w → IsSized w
multiplied_sized at u f w s h =
    let k = and_then_ok (λ (v : Measure). placed at (cond f.divided (over_measure u v) (times_measure u v))) (factor_measure at f) w h in
    go k.0 (factor_sized at f k.0 k.1) f.divided (placed_ok at _ w k.2)
  where
    go : (v : Measure) → IsSized v → (divided : Bool) → cond divided (over_measure u v) (times_measure u v) ≡ Ok w → IsSized w
    go v t true k = over_sized u v w s t k
    go v t false k = times_sized u v w s t k

product_sized : (at : ℕ) (u : Measure) (factors : List FactorTree) (w : Measure) → IsSized u → product_from at u factors ≡ Ok w → IsSized w
product_sized at u [] w s h = let same : u ≡ w = cc in subst IsSized same s
product_sized at u (f ∷ fs) w s h =
    let k = and_then_ok (λ (v : Measure). product_from at v fs) (multiplied at u f) w h in
    product_sized at k.0 fs w (multiplied_sized at u f k.0 s k.1) k.2

pub measure_sized : (at : ℕ) (factors : List FactorTree) (u : Measure) → measure_of at factors ≡ Ok u → IsSized u
measure_sized at factors u h = product_sized at one factors u one_sized h
