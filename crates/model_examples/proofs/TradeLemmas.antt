-- A payload, a heavy cheap motor and a light dear one, where the cost alone counts.
use Rattle.std.proofs.Common.{refl, sym, ap, subst, ◌∙◌, inl, inr}
use Rattle.std.specs.Prelude.{◌≡◌, ℕ, zero, suc, Bool, codes, IsTrue, IsSomeAnd, List, [], ◌∷◌, map, slice_get, Some}
use Rattle.antichain.specs.Basis.{Below}
use Rattle.design_model.specs.ExprLaws as laws
use Rattle.design_model.specs.Feasible.{AreMinima, IsFeasible, resources_leq}
use Rattle.design_model.specs.Holds.{Fit, Holds, RowHolds, PartHolds, carried_by, AllSatisfied}
use Rattle.design_model.specs.HoldsCaseLaws.{by_row, by_parts}
use Rattle.design_model.specs.HoldsLaws.{Holds-Cat, Holds-Net, holds_fits}
use Rattle.design_model.specs.PartsLaws.{provided-Cat, required-Cat, required-Net}
use Rattle.design_model.specs.Rows.{Row}
use Rattle.design_model.specs.ValueOf.{value_of, reads_of}
use Rattle.design_model.specs.Wiring.{Wiring, wiring_of, Carried}
use Rattle.design_model.specs.declared.expr.Expr.TheVariants as expr
use Rattle.design_model.specs.declared.witness.PartWitness.{PartWitness}
use Rattle.design_model.specs.declared.witness.Witness.TheVariants as witness
use Rattle.design_model.specs.declared.witness.Witness.{Witness}
use Rattle.model_examples.proofs.MinimaLemmas.{are_the_minima}
use Rattle.model_examples.proofs.NumberRowsLemmas.{counts_fit, counts_leq, as_one, as_two, two_leq, leq_one}
use Rattle.model_examples.proofs.OnePartLemmas.{only_partner, number_at_least, at_least_number, sum_worth}
use Rattle.model_examples.specs.Trade.{constraints, heavy, load, motor_provides, motor_requires, motor_rows, motors, parts, provides, requires_, trade}
use Rattle.model_examples.specs.Words.{no_types, numbers, counts, part}
use Rattle.order_core.specs.Members.{IsMember}
use Rattle.order_core.specs.Num as numeric
use Rattle.order_core.specs.NumLaws as numeric_laws
use Rattle.order_core.specs.declared.num.Num.TheVariants as number
use Rattle.order_core.specs.declared.num.Num.{Num as Number}
use Rattle.value_type.specs.Forms.{number_value}
use Rattle.value_type.specs.Leq.{row_leq}

abbrev wired : Wiring
wired = record { provides = numbers ∷ []; requires_ = numbers ∷ []; provided = (numbers ∷ []) ∷ []; required = (numbers ∷ numbers ∷ []) ∷ []; constraints = constraints }

wiring_is : wiring_of (λ p. p) provides requires_ parts constraints ≡ wired
wiring_is = rw (provided-Cat, required-Cat) refl

-- what the load is worth
load_worth : (f m c : Number) → value_of load (reads_of (number_value f ∷ []) ((number_value m ∷ number_value c ∷ []) ∷ [])) ≡ Some (number_value (numeric.number_sum f m))
load_worth f m c =
    sum_worth (expr.Own 0) (expr.Inner 0 0) (reads_of (number_value f ∷ []) ((number_value m ∷ number_value c ∷ []) ∷ [])) f m (rw laws.value-Own refl) (rw laws.value-Inner refl)

-- what the constraints say, where these numbers are carried
record Loaded (f r p m c : Number) : Type 0 where
  lifts : IsTrue (numeric.number_leq (numeric.number_sum f m) p)
  costs : IsTrue (numeric.number_leq c r)

abbrev carried : Number → Number → Number → Carried
carried p m c = record { provided = number_value p ∷ []; required = number_value m ∷ number_value c ∷ [] }

loaded : (f r p m c : Number) → AllSatisfied no_types wired (number_value f ∷ []) (number_value r ∷ []) (carried p m c ∷ []) → Loaded f r p m c
loaded f r p m c h = record {
  lifts = number_at_least p (numeric.number_sum f m) (rw (load_worth f m c) at h.0);
  costs = number_at_least r c (rw laws.value-Inner at h.1.0);
}

satisfied : (f r p m c : Number) → Loaded f r p m c → AllSatisfied no_types wired (number_value f ∷ []) (number_value r ∷ []) (carried p m c ∷ [])
satisfied f r p m c h = (rw (load_worth f m c) (at_least_number p (numeric.number_sum f m) h.lifts), (rw laws.value-Inner (at_least_number r c h.costs), tt))

motor_holds : Holds no_types motors (counts (300 ∷ [])) (counts (200 ∷ 100 ∷ [])) (witness.Row 0)
motor_holds = rw Holds-Cat (rw witness.outs-Row (
  record { provided = counts_fit (300 ∷ []); required = counts_fit (200 ∷ 100 ∷ []) },
  record { enough = counts_leq (300 ∷ []) (500 ∷ []); within = counts_leq (200 ∷ 100 ∷ []) (200 ∷ 100 ∷ []) },
))

-- A payload of 100 is lifted for 100 cents.
pub feasible_at_100 : IsFeasible no_types trade (counts (100 ∷ [])) (counts (100 ∷ []))
feasible_at_100 = (
  witness.Inner heavy,
  rw Holds-Net (rw witness.outs-Inner (
    record { provided = counts_fit (100 ∷ []); required = counts_fit (100 ∷ []) },
    record {
      parts = (motor_holds, tt);
      constraints = subst (λ (net : Wiring). AllSatisfied no_types net (counts (100 ∷ [])) (counts (100 ∷ [])) (map carried_by heavy)) (sym wiring_is)
          (satisfied (number.Count 100) (number.Count 100) (number.Count 300) (number.Count 200) (number.Count 100) (record { lifts = refl; costs = refl }));
    },
  )),
)

-- Each row costs 100 at least.
motor_costs : (p m c : Number) → IsTrue (numeric.is_number c) → (n : ℕ)
    → IsSomeAnd (slice_get motor_rows n) (RowHolds no_types motor_provides motor_requires (number_value p ∷ []) (number_value m ∷ number_value c ∷ [])) → IsTrue (numeric.number_leq (number.Count 100) c)
motor_costs p m c c_is zero h = (two_leq (number.Count 200) (number.Count 100) m c h.within).1
motor_costs p m c c_is (suc zero) h = numeric_laws.number_laws.transitive (number.Count 100) (number.Count 900) c refl refl c_is refl (two_leq (number.Count 50) (number.Count 900) m c h.within).1
motor_costs p m c c_is (suc (suc n)) h = absurd h

made_costs : (provided required : Row) (p m c : Number) → IsTrue (numeric.is_number c) → (w : Witness) → provided ≡ number_value p ∷ [] → required ≡ number_value m ∷ number_value c ∷ []
    → Holds no_types motors provided required w → IsTrue (numeric.number_leq (number.Count 100) c)
made_costs provided required p m c c_is w e f h =
    let held : Holds no_types motors (number_value p ∷ []) (number_value m ∷ number_value c ∷ []) w =
    subst (λ (x : Row). Holds no_types motors x (number_value m ∷ number_value c ∷ []) w) e (subst (λ (y : Row). Holds no_types motors provided y w) f h) in
    let made = by_row no_types motor_provides motor_requires motor_rows (number_value p ∷ []) (number_value m ∷ number_value c ∷ []) w (rw Holds-Cat at held).1 in
    motor_costs p m c c_is made.0 made.2

-- So much is required at least.
at_least_100 : (r : Number) → IsTrue (numeric.is_number r) → (w : Witness) → Holds no_types trade (counts (100 ∷ [])) (number_value r ∷ []) w → IsTrue (numeric.number_leq (number.Count 100) r)
at_least_100 r r_is w h =
    let k = rw Holds-Net at h in
    let named = by_parts no_types provides requires_ parts constraints (counts (100 ∷ [])) (number_value r ∷ []) w k.1 in
    let one = only_partner (PartHolds (λ p. Holds no_types p.design)) (part (codes "m") motors) named.0 named.2.parts in
    let fit : Fit no_types motor_provides motor_requires one.0.provided one.0.required = rw (provided-Cat, required-Cat) at (holds_fits no_types motors one.0.provided one.0.required one.0.inner one.2) in
    let p = as_one one.0.provided fit.provided in
    let q = as_two one.0.required fit.required in
    let same : map carried_by named.0 ≡ carried p.only q.left q.right ∷ [] = ap (map carried_by) one.1 ∙ carries one.0 p.only q.left q.right p.row_is q.row_is in
    let says = loaded (number.Count 100) r p.only q.left q.right (subst (λ (cs : List Carried). AllSatisfied no_types wired (counts (100 ∷ [])) (number_value r ∷ []) cs) same
    (subst (λ (net : Wiring). AllSatisfied no_types net (counts (100 ∷ [])) (number_value r ∷ []) (map carried_by named.0)) wiring_is named.2.constraints)) in
    let costs = made_costs one.0.provided one.0.required p.only q.left q.right q.right_valid one.0.inner p.row_is q.row_is one.2 in
    numeric_laws.number_laws.transitive (number.Count 100) q.right r refl q.right_valid r_is costs says.costs
  where
    carries : (w : PartWitness) (p m c : Number) → w.provided ≡ number_value p ∷ [] → w.required ≡ number_value m ∷ number_value c ∷ [] → map carried_by (w ∷ []) ≡ carried p m c ∷ []
    carries w p m c e f = λ i. record { provided = e i; required = f i } ∷ []

above : (r : Row) → IsFeasible no_types trade (counts (100 ∷ [])) r → Below (row_leq no_types (numbers ∷ [])) (counts (100 ∷ []) ∷ []) r
above r h =
    let fit = rw required-Net at (holds_fits no_types trade (counts (100 ∷ [])) r h.0 h.1).required in
    let one = as_one r fit in
    (counts (100 ∷ []), inl refl, rw one.row_is (leq_one (number.Count 100) one.only (at_least_100 one.only one.valid h.0 (rw one.row_is at h.1))))

resources : row_leq no_types (numbers ∷ []) ≡ resources_leq no_types trade
resources = rw required-Net refl

only_100 : (r : Row) → IsMember r (counts (100 ∷ []) ∷ []) → IsFeasible no_types trade (counts (100 ∷ [])) r
only_100 r (inl e) = subst (IsFeasible no_types trade (counts (100 ∷ []))) (sym e) feasible_at_100
only_100 r (inr m) = absurd m

-- 100 cents are the only minimum: the heavy motor is the cheap one.
pub trade_at_100 : AreMinima no_types trade (counts (100 ∷ [])) (counts (100 ∷ []) ∷ [])
trade_at_100 = are_the_minima no_types trade (counts (100 ∷ [])) (counts (100 ∷ []) ∷ []) refl (record {
  elements = only_100;
  incomparable = refl;
  complete = subst (λ (leq : Row → Row → Bool). (r : Row) → IsFeasible no_types trade (counts (100 ∷ [])) r → Below leq (counts (100 ∷ []) ∷ []) r) resources above;
})
