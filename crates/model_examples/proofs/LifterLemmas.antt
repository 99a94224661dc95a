-- A payload, and the motor that lifts it and itself.
use Rattle.std.proofs.Common.{refl, sym, ap, subst, ◌∙◌, inl, inr}
use Rattle.std.specs.Prelude.{◌≡◌, ℕ, zero, suc, Bool, false, codes, IsTrue, IsSomeAnd, List, [], ◌∷◌, map, slice_get, Some}
use Rattle.antichain.specs.Basis.{Below}
use Rattle.design_model.specs.ExprLaws as laws
use Rattle.design_model.specs.Feasible.{AreMinima, IsFeasible, resources_leq}
use Rattle.design_model.specs.Holds.{Fit, Holds, RowHolds, PartHolds, carried_by, AllSatisfied}
use Rattle.design_model.specs.HoldsCaseLaws.{by_row, by_parts}
use Rattle.design_model.specs.HoldsLaws.{Holds-Cat, Holds-Net, holds_fits}
use Rattle.design_model.specs.PartsLaws.{provided-Cat, required-Cat, required-Net}
use Rattle.design_model.specs.Rows.{Row}
use Rattle.design_model.specs.ValueOf.{value_of, reads_of}
use Rattle.design_model.specs.Wiring.{Wiring, wiring_of, Carried}
use Rattle.design_model.specs.declared.expr.Expr.TheVariants as expr
use Rattle.design_model.specs.declared.witness.PartWitness.{PartWitness}
use Rattle.design_model.specs.declared.witness.Witness.TheVariants as witness
use Rattle.design_model.specs.declared.witness.Witness.{Witness}
use Rattle.model_examples.proofs.MinimaLemmas.{are_the_minima}
use Rattle.model_examples.proofs.NumberRowsLemmas.{counts_fit, counts_leq, as_one, one_leq, leq_one}
use Rattle.model_examples.proofs.OnePartLemmas.{only_partner, number_at_least, at_least_number, sum_worth}
use Rattle.model_examples.specs.Lifter.{constraints, lifter, load, motor_provides, motor_requires, motor_rows, motors, parts, provides, requires_}
use Rattle.model_examples.specs.Words.{no_types, numbers, counts, part}
use Rattle.order_core.specs.Members.{IsMember}
use Rattle.order_core.specs.Num as numeric
use Rattle.order_core.specs.NumLaws as numeric_laws
use Rattle.order_core.specs.NumLaws.{sum_monotone, sum_number}
use Rattle.order_core.specs.declared.num.Num.TheVariants as number
use Rattle.order_core.specs.declared.num.Num.{Num as Number}
use Rattle.value_type.specs.Forms.{number_value}
use Rattle.value_type.specs.Leq.{row_leq}

abbrev wired : Wiring
wired = record { provides = numbers ∷ []; requires_ = numbers ∷ []; provided = (numbers ∷ []) ∷ []; required = (numbers ∷ []) ∷ []; constraints = constraints }

wiring_is : wiring_of (λ p. p) provides requires_ parts constraints ≡ wired
wiring_is = rw (provided-Cat, required-Cat) refl

-- what the load is worth
load_worth : (f m : Number) → value_of load (reads_of (number_value f ∷ []) ((number_value m ∷ []) ∷ [])) ≡ Some (number_value (numeric.number_sum f m))
load_worth f m = sum_worth (expr.Own 0) (expr.Inner 0 0) (reads_of (number_value f ∷ []) ((number_value m ∷ []) ∷ [])) f m (rw laws.value-Own refl) (rw laws.value-Inner refl)

-- what the constraints say, where these numbers are carried
record Loaded (f r p m : Number) : Type 0 where
  lifts : IsTrue (numeric.number_leq (numeric.number_sum f m) p)
  weighs : IsTrue (numeric.number_leq m r)

abbrev carried : Number → Number → Carried
carried p m = record { provided = number_value p ∷ []; required = number_value m ∷ [] }

loaded : (f r p m : Number) → AllSatisfied no_types wired (number_value f ∷ []) (number_value r ∷ []) (carried p m ∷ []) → Loaded f r p m
loaded f r p m h = record {
  lifts = number_at_least p (numeric.number_sum f m) (rw (load_worth f m) at h.0);
  weighs = number_at_least r m (rw laws.value-Inner at h.1.0);
}

satisfied : (f r p m : Number) → Loaded f r p m → AllSatisfied no_types wired (number_value f ∷ []) (number_value r ∷ []) (carried p m ∷ [])
satisfied f r p m h = (rw (load_worth f m) (at_least_number p (numeric.number_sum f m) h.lifts), (rw laws.value-Inner (at_least_number r m h.weighs), tt))

-- the motor of row b, carrying itself and 95
abbrev middle : List PartWitness
middle = record { provided = counts (145 ∷ []); required = counts (50 ∷ []); inner = witness.Row 1 } ∷ []

motor_holds : Holds no_types motors (counts (145 ∷ [])) (counts (50 ∷ [])) (witness.Row 1)
motor_holds = rw Holds-Cat (rw witness.outs-Row (
  record { provided = counts_fit (145 ∷ []); required = counts_fit (50 ∷ []) },
  record { enough = counts_leq (145 ∷ []) (300 ∷ []); within = counts_leq (50 ∷ []) (50 ∷ []) },
))

-- A payload of 95 is lifted at 50.
pub feasible_at_50 : IsFeasible no_types lifter (counts (95 ∷ [])) (counts (50 ∷ []))
feasible_at_50 = (
  witness.Inner middle,
  rw Holds-Net (rw witness.outs-Inner (
    record { provided = counts_fit (95 ∷ []); required = counts_fit (50 ∷ []) },
    record {
      parts = (motor_holds, tt);
      constraints = subst (λ (net : Wiring). AllSatisfied no_types net (counts (95 ∷ [])) (counts (50 ∷ [])) (map carried_by middle)) (sym wiring_is)
          (satisfied (number.Count 95) (number.Count 50) (number.Count 145) (number.Count 50) (record { lifts = refl; weighs = refl }));
    },
  )),
)

-- Of the motor's rows, b and c alone lift themselves and 95, and they weigh 50 at least.
motor_weighs : (p m : Number) → IsTrue (numeric.is_number p) → IsTrue (numeric.is_number m) → IsTrue (numeric.number_leq (numeric.number_sum (number.Count 95) m) p) → (n : ℕ)
    → IsSomeAnd (slice_get motor_rows n) (RowHolds no_types motor_provides motor_requires (number_value p ∷ []) (number_value m ∷ [])) → IsTrue (numeric.number_leq (number.Count 50) m)
motor_weighs p m p_is m_is lifts zero h =
    let laws = numeric_laws.number_laws in
    let below = one_leq p (number.Count 100) h.enough in
    let above = sum_monotone (number.Count 95) (number.Count 10) (number.Count 95) m refl (one_leq (number.Count 10) m h.within) in
    let chain = laws.transitive (number.Count 105) (numeric.number_sum (number.Count 95) m) (number.Count 100) refl (sum_number (number.Count 95) m) refl above
    (laws.transitive (numeric.number_sum (number.Count 95) m) p (number.Count 100) (sum_number (number.Count 95) m) p_is refl lifts below) in
    absurd (let wrong : IsTrue false = chain in cc)
motor_weighs p m p_is m_is lifts (suc zero) h = one_leq (number.Count 50) m h.within
motor_weighs p m p_is m_is lifts (suc (suc zero)) h =
    numeric_laws.number_laws.transitive (number.Count 50) (number.Count 400) m refl refl m_is refl (one_leq (number.Count 400) m h.within)
motor_weighs p m p_is m_is lifts (suc (suc (suc n))) h = absurd h

lifting_weighs : (provided required : Row) (p m : Number) → IsTrue (numeric.is_number p) → IsTrue (numeric.is_number m) → IsTrue (numeric.number_leq (numeric.number_sum (number.Count 95) m) p) → (w : Witness)
    → provided ≡ number_value p ∷ [] → required ≡ number_value m ∷ [] → Holds no_types motors provided required w → IsTrue (numeric.number_leq (number.Count 50) m)
lifting_weighs provided required p m p_is m_is lifts w e f h =
    let held : Holds no_types motors (number_value p ∷ []) (number_value m ∷ []) w =
    subst (λ (x : Row). Holds no_types motors x (number_value m ∷ []) w) e (subst (λ (y : Row). Holds no_types motors provided y w) f h) in
    let made = by_row no_types motor_provides motor_requires motor_rows (number_value p ∷ []) (number_value m ∷ []) w (rw Holds-Cat at held).1 in
    motor_weighs p m p_is m_is lifts made.0 made.2

-- So much is required at least.
at_least_50 : (r : Number) → IsTrue (numeric.is_number r) → (w : Witness) → Holds no_types lifter (counts (95 ∷ [])) (number_value r ∷ []) w → IsTrue (numeric.number_leq (number.Count 50) r)
at_least_50 r r_is w h =
    let k = rw Holds-Net at h in
    let named = by_parts no_types provides requires_ parts constraints (counts (95 ∷ [])) (number_value r ∷ []) w k.1 in
    let one = only_partner (PartHolds (λ p. Holds no_types p.design)) (part (codes "motor") motors) named.0 named.2.parts in
    let fit : Fit no_types motor_provides motor_requires one.0.provided one.0.required = rw (provided-Cat, required-Cat) at (holds_fits no_types motors one.0.provided one.0.required one.0.inner one.2) in
    let p = as_one one.0.provided fit.provided in
    let m = as_one one.0.required fit.required in
    let same : map carried_by named.0 ≡ carried p.only m.only ∷ [] = ap (map carried_by) one.1 ∙ carries one.0 p.only m.only p.row_is m.row_is in
    let says = loaded (number.Count 95) r p.only m.only (subst (λ (cs : List Carried). AllSatisfied no_types wired (counts (95 ∷ [])) (number_value r ∷ []) cs) same
    (subst (λ (net : Wiring). AllSatisfied no_types net (counts (95 ∷ [])) (number_value r ∷ []) (map carried_by named.0)) wiring_is named.2.constraints)) in
    let weighs = lifting_weighs one.0.provided one.0.required p.only m.only p.valid m.valid says.lifts one.0.inner p.row_is m.row_is one.2 in
    numeric_laws.number_laws.transitive (number.Count 50) m.only r refl m.valid r_is weighs says.weighs
  where
    carries : (w : PartWitness) (p m : Number) → w.provided ≡ number_value p ∷ [] → w.required ≡ number_value m ∷ [] → map carried_by (w ∷ []) ≡ carried p m ∷ []
    carries w p m e f = λ i. record { provided = e i; required = f i } ∷ []

-- 10 isn't enough.
pub not_at_10 : IsFeasible no_types lifter (counts (95 ∷ [])) (counts (10 ∷ [])) → ⊥
not_at_10 h = let wrong = at_least_50 (number.Count 10) refl h.0 h.1 in cc

above : (r : Row) → IsFeasible no_types lifter (counts (95 ∷ [])) r → Below (row_leq no_types (numbers ∷ [])) (counts (50 ∷ []) ∷ []) r
above r h =
    let fit = rw required-Net at (holds_fits no_types lifter (counts (95 ∷ [])) r h.0 h.1).required in
    let one = as_one r fit in
    (counts (50 ∷ []), inl refl, rw one.row_is (leq_one (number.Count 50) one.only (at_least_50 one.only one.valid h.0 (rw one.row_is at h.1))))

resources : row_leq no_types (numbers ∷ []) ≡ resources_leq no_types lifter
resources = rw required-Net refl

only_50 : (r : Row) → IsMember r (counts (50 ∷ []) ∷ []) → IsFeasible no_types lifter (counts (95 ∷ [])) r
only_50 r (inl e) = subst (IsFeasible no_types lifter (counts (95 ∷ []))) (sym e) feasible_at_50
only_50 r (inr m) = absurd m

-- 50 is the only minimum.
pub lifter_at_95 : AreMinima no_types lifter (counts (95 ∷ [])) (counts (50 ∷ []) ∷ [])
lifter_at_95 = are_the_minima no_types lifter (counts (95 ∷ [])) (counts (50 ∷ []) ∷ []) refl (record {
  elements = only_50;
  incomparable = refl;
  complete = subst (λ (leq : Row → Row → Bool). (r : Row) → IsFeasible no_types lifter (counts (95 ∷ [])) r → Below leq (counts (50 ∷ []) ∷ []) r) resources above;
})
