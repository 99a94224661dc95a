-- The body of the outer net in 2 rounds: at a payload of 95 or 96 its least mass is 50, and at 96 it isn't steady.
use Rattle.std.specs.Prelude.{◌≡◌, ℕ, zero, suc, Bool, false, nat_le, ◌||◌, codes, IsTrue, IsSomeAnd, [], ◌∷◌, Option, Some, slice_get}
use Rattle.std.proofs.Common.{refl, sym, ap, subst, ◌∙◌, inl, inr}
use Rattle.order_core.specs.declared.num.Num.{Num as Number}
use Rattle.order_core.specs.declared.num.Num.TheVariants as number
use Rattle.order_core.specs.MemberLaws.{both}
use Rattle.order_core.specs.Num as numeric
use Rattle.order_core.specs.NumLaws as numeric_laws
use Rattle.order_core.specs.NumLaws.{sum_number, sum_monotone}
use Rattle.value_type.specs.declared.value.Value.{Value}
use Rattle.value_type.specs.Forms.{number_value}
use Rattle.value_type.specs.Leq.{row_leq}
use Rattle.value_type.specs.PortKinds.{port_kinds}
use Rattle.design_model.specs.declared.expr.Expr.TheVariants as expr
use Rattle.design_model.specs.ExprLaws as laws
use Rattle.design_model.specs.Feasible.{resources_leq}
use Rattle.design_model.specs.Holds.{RowHolds}
use Rattle.design_model.specs.PartsLaws.{provided-Cat, required-Cat, required-Net}
use Rattle.design_model.specs.Rounds.{IsFeasibleIn, IsMinimumIn}
use Rattle.design_model.specs.RoundsLaws.{IsFeasibleIn-Cat, feasible_in_fits}
use Rattle.design_model.specs.Rows.{Row}
use Rattle.design_model.specs.Steady.{design_of}
use Rattle.design_model.specs.SteadyLaws.{EndsIn, IsSteadyIn}
use Rattle.design_model.specs.ValueOf.{Reads, value_of}
use Rattle.model_examples.specs.NumberRows.{all_valid}
use Rattle.model_examples.proofs.NumberRowsLemmas.{counts_fit, counts_leq, as_one, one_leq}
use Rattle.model_examples.proofs.OnePartLemmas.{sum_worth}
use Rattle.model_examples.specs.Outer.{motor_provides, motor_requires, motor_rows, motors, body}
use Rattle.model_examples.specs.Words.{no_types, numbers, number_port, counts}
use Rattle.model_examples.proofs.Loops as nets
use Rattle.model_examples.proofs.NumberLoops as loops

-- What a motor of this mass lifts: any weighs 10 or more, and one that lifts more than 100 weighs 50 or more.
record Weighs (lift mass : Number) : Type 0 where
  some : IsTrue (numeric.number_leq (number.Count 10) mass)
  more : IsTrue (numeric.number_leq (number.Count 101) lift) → IsTrue (numeric.number_leq (number.Count 50) mass)

row_weighs : (lift mass : Number) → IsTrue (numeric.is_number lift) → IsTrue (numeric.is_number mass) → (i : ℕ)
    → IsSomeAnd (slice_get motor_rows i) (RowHolds no_types motor_provides motor_requires (number_value lift ∷ []) (number_value mass ∷ [])) → Weighs lift mass
row_weighs lift mass lift_is mass_is zero h = record {
  some = one_leq (number.Count 10) mass h.within;
  more = λ high. let wrong : IsTrue false = numeric_laws.number_laws.transitive (number.Count 101) lift (number.Count 100) refl lift_is refl high (one_leq lift (number.Count 100) h.enough) in absurd (cc);
}
row_weighs lift mass lift_is mass_is (suc zero) h =
    let fifty = one_leq (number.Count 50) mass h.within in
    record { some = numeric_laws.number_laws.transitive (number.Count 10) (number.Count 50) mass refl refl mass_is refl fifty; more = λ high. fifty }
row_weighs lift mass lift_is mass_is (suc (suc zero)) h =
    let heavy = one_leq (number.Count 400) mass h.within in
    record {
      some = numeric_laws.number_laws.transitive (number.Count 10) (number.Count 400) mass refl refl mass_is refl heavy;
      more = λ high. numeric_laws.number_laws.transitive (number.Count 50) (number.Count 400) mass refl refl mass_is refl heavy;
    }
row_weighs lift mass lift_is mass_is (suc (suc (suc i))) h = absurd h

motor_weighs : (n : ℕ) (lift mass : Number) → IsTrue (numeric.is_number lift) → IsTrue (numeric.is_number mass) → IsFeasibleIn no_types n motors (number_value lift ∷ []) (number_value mass ∷ []) → Weighs lift mass
motor_weighs n lift mass lift_is mass_is h = let made = (rw IsFeasibleIn-Cat at h).1 in row_weighs lift mass lift_is mass_is made.0 made.1

light_lifts : (n lift : ℕ) → IsTrue (all_valid (lift ∷ [])) → IsTrue (nat_le lift 100) → IsFeasibleIn no_types n motors (counts (lift ∷ [])) (counts (10 ∷ []))
light_lifts n lift lift_is within = rw IsFeasibleIn-Cat (
  record { provided = counts_fit (lift ∷ []) ∙ lift_is; required = counts_fit (10 ∷ []) },
  (0, record { enough = counts_leq (lift ∷ []) (100 ∷ []) ∙ both _ _ within refl; within = counts_leq (10 ∷ []) (10 ∷ []) }),
)

middle_lifts : (n lift : ℕ) → IsTrue (all_valid (lift ∷ [])) → IsTrue (nat_le lift 120) → IsFeasibleIn no_types n motors (counts (lift ∷ [])) (counts (50 ∷ []))
middle_lifts n lift lift_is within = rw IsFeasibleIn-Cat (
  record { provided = counts_fit (lift ∷ []) ∙ lift_is; required = counts_fit (50 ∷ []) },
  (1, record { enough = counts_leq (lift ∷ []) (120 ∷ []) ∙ both _ _ within refl; within = counts_leq (50 ∷ []) (50 ∷ []) }),
)

abbrev pub loop : nets.Loop numbers
loop = record {
  provides = number_port (codes "payload") ∷ [];
  requires_ = number_port (codes "mass") ∷ [];
  name = codes "motor";
  inner = motors;
  inner_provides = ap port_kinds (provided-Cat motor_provides motor_requires motor_rows);
  inner_requires = ap port_kinds (required-Cat motor_provides motor_requires motor_rows);
  asked = expr.Sum (expr.Own 0) (expr.Inner 0 0);
  asked_reads = λ test. laws.reads-Sum test (expr.Own 0) (expr.Inner 0 0) ∙ (λ i. laws.reads-Own test 0 i || laws.reads-Inner test 0 0 i);
  own = (0, expr.Inner 0 0) ∷ [];
}

-- At a payload the motor is asked for it and for the motor's mass.
module _ (payload : Number) where
  abbrev asks : Number → Number
  asks z = numeric.number_sum payload z

  asks_is : (reads : Reads) (z : Number) → reads.own ≡ slice_get (number_value payload ∷ []) → reads.inner 0 0 ≡ Some (number_value z) → value_of (expr.Sum (expr.Own 0) (expr.Inner 0 0)) reads ≡ Some (number_value (asks z))
  asks_is reads z own inner = sum_worth (expr.Own 0) (expr.Inner 0 0) reads payload z (laws.value-Own 0 reads ∙ ap (λ (at : ℕ → Option Value). at 0) own) (laws.value-Inner 0 0 reads ∙ inner)

  -- From a payload of 95 on, one step leads to 10 or more, and two to 50 or more.
  module _ (payload_is : IsTrue (numeric.is_number payload)) (heavy : IsTrue (numeric.number_leq (number.Count 95) payload)) where
    one_step : (y : Number) (own : Row) → IsTrue (numeric.is_number y) → EndsIn no_types 2 body (number_value payload ∷ []) 1 (number_value y ∷ own) → IsTrue (numeric.number_leq (number.Count 10) y)
    one_step y own y_is chain =
        let last = loops.last_step loop (number_value payload ∷ []) asks asks_is 2 0 y own chain in
        let weighs = motor_weighs 2 last.given last.needed last.given_valid last.needed_valid last.step.feasible in
        numeric_laws.number_laws.transitive (number.Count 10) last.needed y refl last.needed_valid y_is weighs.some last.step.covered

    -- The last of two steps is by a motor of 50 or more.
    two_steps : (y : Number) (own : Row) → EndsIn no_types 2 body (number_value payload ∷ []) 2 (number_value y ∷ own)
        → (last : loops.LastStep loop (number_value payload ∷ []) asks asks_is 2 1 y own) × IsTrue (numeric.number_leq (number.Count 50) last.needed)
    two_steps y own chain =
        let last = loops.last_step loop (number_value payload ∷ []) asks asks_is 2 1 y own chain in
        let before = one_step last.cut last.before last.cut_valid last.ends in
        let laws = numeric_laws.number_laws in
        let asked = sum_monotone (number.Count 95) (number.Count 10) payload last.cut heavy before in
        let high = laws.transitive (number.Count 101) (asks last.cut) last.given refl (sum_number payload last.cut) last.given_valid
        (laws.transitive (number.Count 101) (number.Count 105) (asks last.cut) refl refl (sum_number payload last.cut) refl asked) last.step.asked in
        (last, (motor_weighs 2 last.given last.needed last.given_valid last.needed_valid last.step.feasible).more high)

    pub body_weighs : (mass : Number) → IsTrue (numeric.is_number mass) → IsFeasibleIn no_types 2 (design_of body) (number_value payload ∷ []) (number_value mass ∷ []) → IsTrue (numeric.number_leq (number.Count 50) mass)
    body_weighs mass mass_is h =
        let some = loops.some_end loop (number_value payload ∷ []) asks asks_is 2 1 refl (number_value mass ∷ []) h in
        let two = two_steps some.cut (number_value mass ∷ []) some.ends in
        numeric_laws.number_laws.transitive (number.Count 50) two.0.needed mass refl two.0.needed_valid mass_is two.1
        (loops.need_covered (number_value payload ∷ []) mass two.0.needed two.0.step.own_hold.0)

-- At such a payload, 10 and then 50 are reached.
module _ (payload heavier : ℕ) (payload_is : IsTrue (all_valid (payload ∷ []))) (heavier_is : IsTrue (all_valid (heavier ∷ []))) (first : numeric.number_sum (number.Count payload) (number.Count 0) ≡ number.Count payload)
    (second : numeric.number_sum (number.Count payload) (number.Count 10) ≡ number.Count heavier) (light : IsTrue (nat_le payload 100)) (middle : IsTrue (nat_le heavier 120))
    (payload_self : IsTrue (nat_le payload payload)) (heavier_self : IsTrue (nat_le heavier heavier)) where
  ten_ends : EndsIn no_types 2 body (counts (payload ∷ [])) 1 (counts (10 ∷ 10 ∷ []))
  ten_ends =
      loops.longer loop (counts (payload ∷ [])) (asks (number.Count payload)) (asks_is (number.Count payload)) 2 0 (number.Count 0) (number.Count 10) (counts (0 ∷ [])) (counts (10 ∷ [])) (number.Count payload) (number.Count 10)
      (rw loops.states_are (counts_fit (0 ∷ 0 ∷ []))) (counts_fit (0 ∷ 0 ∷ [])) (counts_fit (10 ∷ 10 ∷ [])) (counts_leq (0 ∷ 0 ∷ []) (10 ∷ 10 ∷ []))
      (record { feasible = light_lifts 2 payload payload_is light; asked = rw first payload_self; covered = refl; own_hold = (loops.covers_need (counts (payload ∷ [])) (number.Count 10) (number.Count 10) refl, tt) })

  fifty_ends : EndsIn no_types 2 body (counts (payload ∷ [])) 2 (counts (50 ∷ 50 ∷ []))
  fifty_ends =
      loops.longer loop (counts (payload ∷ [])) (asks (number.Count payload)) (asks_is (number.Count payload)) 2 1 (number.Count 10) (number.Count 50) (counts (10 ∷ [])) (counts (50 ∷ [])) (number.Count heavier) (number.Count 50)
      ten_ends (counts_fit (10 ∷ 10 ∷ [])) (counts_fit (50 ∷ 50 ∷ [])) (counts_leq (10 ∷ 10 ∷ []) (50 ∷ 50 ∷ []))
      (record { feasible = middle_lifts 2 heavier heavier_is middle; asked = rw second heavier_self; covered = refl; own_hold = (loops.covers_need (counts (payload ∷ [])) (number.Count 50) (number.Count 50) refl, tt) })

  fifty_feasible : IsFeasibleIn no_types 2 (design_of body) (counts (payload ∷ [])) (counts (50 ∷ []))
  fifty_feasible = loops.end_is_feasible loop (counts (payload ∷ [])) (asks (number.Count payload)) (asks_is (number.Count payload)) 2 (number.Count 50) (counts (50 ∷ []))
      (record { provided = counts_fit (payload ∷ []) ∙ payload_is; required = counts_fit (50 ∷ []) }) fifty_ends

pub feasible_at_95 : IsFeasibleIn no_types 2 (design_of body) (counts (95 ∷ [])) (counts (50 ∷ []))
feasible_at_95 = fifty_feasible 95 105 refl refl refl refl refl refl refl refl

pub feasible_at_96 : IsFeasibleIn no_types 2 (design_of body) (counts (96 ∷ [])) (counts (50 ∷ []))
feasible_at_96 = fifty_feasible 96 106 refl refl refl refl refl refl refl refl

masses : row_leq no_types (numbers ∷ []) ≡ resources_leq no_types (design_of body)
masses = rw required-Net refl

pub minimum_at_96 : IsMinimumIn no_types 2 (design_of body) (counts (96 ∷ [])) (counts (50 ∷ []))
minimum_at_96 = record { element = feasible_at_96; least = least }
  where
    least : (y : Row) → IsFeasibleIn no_types 2 (design_of body) (counts (96 ∷ [])) y → IsTrue (resources_leq no_types (design_of body) y (counts (50 ∷ []))) → y ≡ counts (50 ∷ [])
    least y feasible l =
        let one = as_one y (rw required-Net at (feasible_in_fits no_types 2 (design_of body) (counts (96 ∷ [])) y feasible).required) in
        let no_less = body_weighs (number.Count 96) refl refl one.only one.valid (subst (IsFeasibleIn no_types 2 (design_of body) (counts (96 ∷ []))) one.row_is feasible) in
        let no_more = one_leq one.only (number.Count 50) (subst (λ (r : Row). IsTrue (row_leq no_types (numbers ∷ []) r (counts (50 ∷ [])))) one.row_is (subst (λ (leq : Row → Row → Bool). IsTrue (leq y (counts (50 ∷ [])))) (sym masses) l)) in
        one.row_is ∙ ap (λ (m : Number). number_value m ∷ []) (numeric_laws.number_laws.antisymmetric one.only (number.Count 50) one.valid refl no_more no_less)

-- 10 ends a chain of one step, and none of two.
pub body_moves : IsSteadyIn no_types 2 body (counts (96 ∷ [])) → ⊥
body_moves (inl none) = nets.is_cut_somewhere loop none
body_moves (inr last) =
    let two = two_steps (number.Count 96) refl refl (number.Count 10) (counts (10 ∷ [])) (last (counts (10 ∷ 10 ∷ [])) (ten_ends 96 106 refl refl refl refl refl refl refl refl)) in
    let wrong = numeric_laws.number_laws.transitive (number.Count 50) two.0.needed (number.Count 10) refl two.0.needed_valid refl two.1 two.0.step.covered in
    cc
