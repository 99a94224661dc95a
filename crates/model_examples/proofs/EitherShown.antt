-- The choice between a fixed price and a loop, in 5 rounds: both have a minimum, and only that of the fixed price is shown.
use Rattle.std.specs.Prelude.{◌≡◌, ℕ, zero, suc, Bool, false, nat_le, ◌⊎◌, IsTrue, IsSomeAnd, [], ◌∷◌, slice_get, List}
use Rattle.std.proofs.Common.{refl, sym, ap, subst, ◌∙◌, inl, inr}
use Rattle.order_core.specs.declared.num.Num.{Num as Number}
use Rattle.order_core.specs.declared.num.Num.TheVariants as number
use Rattle.order_core.specs.MemberLaws.{both}
use Rattle.order_core.specs.Num as numeric
use Rattle.order_core.specs.NumLaws as numeric_laws
use Rattle.value_type.specs.declared.value.Value.TheVariants as value
use Rattle.value_type.specs.Forms.{number_value}
use Rattle.value_type.specs.Leq.{row_leq}
use Rattle.value_type.specs.PortKinds.{port_kinds}
use Rattle.design_model.specs.declared.expr.Expr.{Expr}
use Rattle.design_model.specs.declared.expr.Expr.TheVariants as expr
use Rattle.design_model.specs.ExprLaws as laws
use Rattle.design_model.specs.Feasible.{resources_leq}
use Rattle.design_model.specs.Holds.{RowHolds}
use Rattle.design_model.specs.Met.{IsMet}
use Rattle.design_model.specs.PartsLaws.{required-Cat, required-Choice}
use Rattle.design_model.specs.Rounds.{IsFeasibleIn, IsMinimumIn}
use Rattle.design_model.specs.RoundsLaws.{IsFeasibleIn-Cat, IsFeasibleIn-Choice, feasible_in_fits}
use Rattle.design_model.specs.Rows.{Row}
use Rattle.design_model.specs.Shown.{IsShown, Shows}
use Rattle.design_model.specs.ShownLaws.{Shows-Cat, Shows-Choice, Shows-Net, IsMet-here, IsMet-Choice}
use Rattle.design_model.specs.Steady.{design_of, wiring}
use Rattle.design_model.specs.SteadyLaws.{StepsIn, EndsIn, IsSteadyIn}
use Rattle.design_model.specs.Step.{own_values}
use Rattle.model_examples.specs.Either.{requires_, flat_rows, flat, paid, branches, either}
use Rattle.model_examples.proofs.NumberRowsLemmas.{counts_fit, counts_leq, as_two, two_leq}
use Rattle.model_examples.proofs.OnePartLemmas.{number_at_least, at_least_number}
use Rattle.model_examples.specs.Words.{no_types, numbers, counts}
use Rattle.model_examples.proofs.Loops as nets
use Rattle.model_examples.proofs.NumberLoops as loops
use Rattle.model_examples.proofs.SuccessorLoops as rising

-- the constraints on the own ports
abbrev own : List (ℕ × Expr)
own = (0, expr.Inner 0 0) ∷ (1, expr.Constant (value.Num 1)) ∷ []

abbrev loop : nets.Loop numbers
loop = rising.loop [] requires_ own

abbrev nothing : Row
nothing = []

-- what the constraints on the own ports say
record Paid (out pay needed : Number) : Type 0 where
  price : IsTrue (numeric.number_leq needed out)
  fee : IsTrue (numeric.number_leq (number.Count 1) pay)

own_hold : (out pay needed : Number) → Paid out pay needed → loops.OwnHold loop nothing rising.asks (rising.asks_is nothing) 5 (number_value out ∷ number_value pay ∷ []) needed
own_hold out pay needed h = (loops.covers_need nothing out needed h.price, (rw laws.value-Constant (at_least_number pay (number.Count 1) h.fee), tt))

what_is_paid : (out pay needed : Number) → loops.OwnHold loop nothing rising.asks (rising.asks_is nothing) 5 (number_value out ∷ number_value pay ∷ []) needed → Paid out pay needed
what_is_paid out pay needed h = record { price = loops.need_covered nothing out needed h.0; fee = number_at_least pay (number.Count 1) (rw laws.value-Constant at h.1.0) }

-- Each step asks for one more, so k is reached in k steps.
reaches : (k : ℕ) → IsTrue (nat_le k 10000000000000000000) → EndsIn no_types 5 paid nothing k (counts (k ∷ k ∷ 1 ∷ []))
reaches zero valid = rw (loops.states_are loop) (counts_fit (0 ∷ 0 ∷ 1 ∷ []))
reaches (suc k) valid = one_on (reaches k (rising.one_less k valid))
  where
    k_valid : IsTrue (nat_le k 10000000000000000000)
    k_valid = rising.one_less k valid

    one_on : EndsIn no_types 5 paid nothing k (counts (k ∷ k ∷ 1 ∷ [])) → EndsIn no_types 5 paid nothing (suc k) (counts (suc k ∷ suc k ∷ 1 ∷ []))
    one_on chain =
        loops.longer loop nothing rising.asks (rising.asks_is nothing) 5 k (number.Count k) (number.Count (suc k)) (counts (k ∷ 1 ∷ [])) (counts (suc k ∷ 1 ∷ [])) (number.Count k) (number.Count (suc k)) chain
        (counts_fit (k ∷ k ∷ 1 ∷ []) ∙ both _ _ k_valid (both _ _ k_valid refl)) (counts_fit (suc k ∷ suc k ∷ 1 ∷ []) ∙ both _ _ valid (both _ _ valid refl))
        (counts_leq (k ∷ k ∷ 1 ∷ []) (suc k ∷ suc k ∷ 1 ∷ []) ∙ both _ _ (rising.next k) (both _ _ (rising.next k) refl))
        (rising.step_on [] requires_ own nothing 4 k (counts (suc k ∷ 1 ∷ [])) valid
        (own_hold (number.Count (suc k)) (number.Count 1) (number.Count (suc k)) (record { price = rising.itself (suc k); fee = refl })))

-- What the loop is feasible at in 5 rounds.
record CostsFive (out pay : Number) : Type 0 where
  price : IsTrue (numeric.number_leq (number.Count 5) out)
  fee : IsTrue (numeric.number_leq (number.Count 1) pay)

paid_costs : (out pay : Number) → IsTrue (numeric.is_number out) → IsFeasibleIn no_types 5 (design_of paid) nothing (number_value out ∷ number_value pay ∷ []) → CostsFive out pay
paid_costs out pay out_is h =
    let some = loops.some_end loop nothing rising.asks (rising.asks_is nothing) 5 4 refl (number_value out ∷ number_value pay ∷ []) h in
    let last = loops.last_step loop nothing rising.asks (rising.asks_is nothing) 5 4 some.cut (number_value out ∷ number_value pay ∷ []) some.ends in
    let four = rising.climbs [] requires_ own nothing 4 4 refl last.cut last.before last.cut_valid last.ends in
    let five = rising.needs_more [] requires_ own nothing 4 4 last.cut some.cut (number_value out ∷ number_value pay ∷ []) last.given last.needed refl last.cut_valid last.given_valid last.needed_valid four last.step in
    let says = what_is_paid out pay last.needed last.step.own_hold in
    record { price = numeric_laws.number_laws.transitive (number.Count 5) last.needed out refl last.needed_valid out_is five says.price; fee = says.fee }

paid_at_5 : IsFeasibleIn no_types 5 (design_of paid) nothing (counts (5 ∷ 1 ∷ []))
paid_at_5 = loops.end_is_feasible loop nothing rising.asks (rising.asks_is nothing) 5 (number.Count 5) (counts (5 ∷ 1 ∷ [])) (record { provided = refl; required = counts_fit (5 ∷ 1 ∷ []) }) (reaches 5 refl)

flat_at_9 : IsFeasibleIn no_types 5 flat nothing (counts (9 ∷ 0 ∷ []))
flat_at_9 = rw IsFeasibleIn-Cat (record { provided = refl; required = counts_fit (9 ∷ 0 ∷ []) }, (0, record { enough = refl; within = counts_leq (9 ∷ 0 ∷ []) (9 ∷ 0 ∷ []) }))

only_flat_row : (out pay : Number) (i : ℕ) → IsSomeAnd (slice_get flat_rows i) (RowHolds no_types [] requires_ nothing (number_value out ∷ number_value pay ∷ [])) → IsTrue (numeric.number_leq (number.Count 9) out)
only_flat_row out pay zero h = (two_leq (number.Count 9) (number.Count 0) out pay h.within).0
only_flat_row out pay (suc i) h = absurd h

flat_costs : (out pay : Number) → IsFeasibleIn no_types 5 flat nothing (number_value out ∷ number_value pay ∷ []) → IsTrue (numeric.number_leq (number.Count 9) out)
flat_costs out pay h = let made = (rw IsFeasibleIn-Cat at h).1 in only_flat_row out pay made.0 made.1

-- The two branches' costs, one of which each feasible row pays.
either_costs : (out pay : Number) → IsTrue (numeric.is_number out) → (i : ℕ) → IsSomeAnd (slice_get branches i) (λ b. IsFeasibleIn no_types 5 b.design nothing (number_value out ∷ number_value pay ∷ []))
    → IsTrue (numeric.number_leq (number.Count 9) out) ⊎ CostsFive out pay
either_costs out pay out_is zero h = inl (flat_costs out pay h)
either_costs out pay out_is (suc zero) h = inr (paid_costs out pay out_is h)
either_costs out pay out_is (suc (suc i)) h = absurd h

prices : row_leq no_types (port_kinds requires_) ≡ resources_leq no_types either
prices = rw required-Choice refl

-- A row is a minimum where each price below it that some branch asks is no less.
module _ (out pay : ℕ) (out_is : IsTrue (numeric.is_number (number.Count out))) (pay_is : IsTrue (numeric.is_number (number.Count pay)))
    (no_less : (o p : Number) → IsTrue (numeric.is_number o) → IsTrue (numeric.is_number p) → IsTrue (numeric.number_leq o (number.Count out)) → IsTrue (numeric.number_leq p (number.Count pay))
    → IsTrue (numeric.number_leq (number.Count 9) o) ⊎ CostsFive o p → IsTrue (numeric.number_leq (number.Count out) o) × IsTrue (numeric.number_leq (number.Count pay) p)) where
  least : (y : Row) → IsFeasibleIn no_types 5 either nothing y → IsTrue (resources_leq no_types either y (counts (out ∷ pay ∷ []))) → y ≡ counts (out ∷ pay ∷ [])
  least y feasible l =
      let two = as_two y (rw required-Choice at (feasible_in_fits no_types 5 either nothing y feasible).required) in
      let below = two_leq two.left two.right (number.Count out) (number.Count pay)
      (subst (λ (r : Row). IsTrue (row_leq no_types (numbers ∷ numbers ∷ []) r (counts (out ∷ pay ∷ [])))) two.row_is (subst (λ (leq : Row → Row → Bool). IsTrue (leq y (counts (out ∷ pay ∷ [])))) (sym prices) l)) in
      let by = (rw IsFeasibleIn-Choice at (subst (IsFeasibleIn no_types 5 either nothing) two.row_is feasible)).1 in
      let above = no_less two.left two.right two.left_valid two.right_valid below.0 below.1 (either_costs two.left two.right two.left_valid by.0 by.1) in
      let o_is : two.left ≡ number.Count out = numeric_laws.number_laws.antisymmetric two.left (number.Count out) two.left_valid out_is below.0 above.0 in
      let p_is : two.right ≡ number.Count pay = numeric_laws.number_laws.antisymmetric two.right (number.Count pay) two.right_valid pay_is below.1 above.1 in
      two.row_is ∙ (λ i. number_value (o_is i) ∷ number_value (p_is i) ∷ [])

-- Below 5 and 1 the fixed price isn't paid.
pub five_minimum : IsMinimumIn no_types 5 either nothing (counts (5 ∷ 1 ∷ []))
five_minimum = record { element = rw IsFeasibleIn-Choice (record { provided = refl; required = counts_fit (5 ∷ 1 ∷ []) }, (1, paid_at_5)); least = least 5 1 refl refl no_less }
  where
    no_less : (o p : Number) → IsTrue (numeric.is_number o) → IsTrue (numeric.is_number p) → IsTrue (numeric.number_leq o (number.Count 5)) → IsTrue (numeric.number_leq p (number.Count 1))
        → IsTrue (numeric.number_leq (number.Count 9) o) ⊎ CostsFive o p → IsTrue (numeric.number_leq (number.Count 5) o) × IsTrue (numeric.number_leq (number.Count 1) p)
    no_less o p o_is p_is o_low p_low (inl nine) = absurd (let wrong : IsTrue false = numeric_laws.number_laws.transitive (number.Count 9) o (number.Count 5) refl o_is refl nine o_low in cc)
    no_less o p o_is p_is o_low p_low (inr five) = (five.price, five.fee)

-- Below 9 and 0 no fee is paid.
pub nine_minimum : IsMinimumIn no_types 5 either nothing (counts (9 ∷ 0 ∷ []))
nine_minimum = record { element = rw IsFeasibleIn-Choice (record { provided = refl; required = counts_fit (9 ∷ 0 ∷ []) }, (0, flat_at_9)); least = least 9 0 refl refl no_less }
  where
    no_less : (o p : Number) → IsTrue (numeric.is_number o) → IsTrue (numeric.is_number p) → IsTrue (numeric.number_leq o (number.Count 9)) → IsTrue (numeric.number_leq p (number.Count 0))
        → IsTrue (numeric.number_leq (number.Count 9) o) ⊎ CostsFive o p → IsTrue (numeric.number_leq (number.Count 9) o) × IsTrue (numeric.number_leq (number.Count 0) p)
    no_less o p o_is p_is o_low p_low (inl nine) = (nine, loops.zero_is_least p)
    no_less o p o_is p_is o_low p_low (inr five) = absurd (let wrong : IsTrue false = numeric_laws.number_laws.transitive (number.Count 1) p (number.Count 0) refl p_is refl five.fee p_low in cc)

-- What is feasible for the fixed price is feasible for the choice, so it is a minimum of the one where it is of the other.
flat_minimum : IsMinimumIn no_types 5 flat nothing (counts (9 ∷ 0 ∷ []))
flat_minimum = record { element = flat_at_9; least = least_flat }
  where
    least_flat : (y : Row) → IsFeasibleIn no_types 5 flat nothing y → IsTrue (resources_leq no_types flat y (counts (9 ∷ 0 ∷ []))) → y ≡ counts (9 ∷ 0 ∷ [])
    least_flat y feasible l =
        let fit = rw required-Cat at (feasible_in_fits no_types 5 flat nothing y feasible).required in
        nine_minimum.least y (rw IsFeasibleIn-Choice (record { provided = refl; required = fit }, (0, feasible))) (rw (required-Choice) (rw required-Cat at l))

pub nine_shown : IsShown no_types 5 either nothing (counts (9 ∷ 0 ∷ []))
nine_shown = record { minimum = nine_minimum; shows = rw Shows-Choice (0, (flat_minimum, rw Shows-Cat tt)) }

-- A state of the loop that shows 5 and 1 would step to itself, and so ask for 6.
paid_shows : Shows no_types 5 (design_of paid) nothing (counts (5 ∷ 1 ∷ [])) → ⊥
paid_shows shows =
    let by = rw Shows-Net at shows in
    let state = loops.as_state loop by.0 by.1.steps.1.before_is in
    let own_is : state.own ≡ counts (5 ∷ 1 ∷ []) = sym (nets.own_is loop (number_value state.cut) state.own) ∙ (ap (own_values (wiring paid)) (sym state.is) ∙ by.1.own) in
    let five = rising.climbs [] requires_ own nothing 4 5 refl state.cut state.own state.cut_valid (subst (EndsIn no_types 5 paid nothing 5) state.is by.1.ends.element) in
    let step = subst (λ (x : Row). StepsIn no_types 5 paid nothing x x) state.is by.1.steps in
    let some = loops.of_step loop nothing rising.asks (rising.asks_is nothing) 5 state.cut state.cut state.own state.own step.0 step.1 in
    let six = rising.needs_more [] requires_ own nothing 4 5 state.cut state.cut state.own some.given some.needed refl state.cut_valid some.given_valid some.needed_valid five some.step in
    let says = what_is_paid (number.Count 5) (number.Count 1) some.needed (subst (λ (x : Row). loops.OwnHold loop nothing rising.asks (rising.asks_is nothing) 5 x some.needed) own_is some.step.own_hold) in
    let wrong = numeric_laws.number_laws.transitive (number.Count 6) some.needed (number.Count 5) refl some.needed_valid refl six says.price in
    cc

pub five_not_shown : IsShown no_types 5 either nothing (counts (5 ∷ 1 ∷ [])) → ⊥
five_not_shown h = let by = rw Shows-Choice at h.shows in by_branch by.0 by.1
  where
    by_branch : (i : ℕ) → IsSomeAnd (slice_get branches i) (λ b. IsMinimumIn no_types 5 b.design nothing (counts (5 ∷ 1 ∷ [])) × Shows no_types 5 b.design nothing (counts (5 ∷ 1 ∷ []))) → ⊥
    by_branch zero k = let wrong = flat_costs (number.Count 5) (number.Count 1) k.0.element in cc
    by_branch (suc zero) k = paid_shows k.1
    by_branch (suc (suc i)) k = absurd k

pub loop_met : IsMet no_types 5 (1 ∷ []) either nothing (design_of paid) nothing
loop_met = rw IsMet-Choice (rw IsMet-here (refl, refl))

-- 4 ends a chain of 4 steps, and none of 5.
pub loop_moves : IsSteadyIn no_types 5 paid nothing → ⊥
loop_moves (inl none) = nets.is_cut_somewhere loop none
loop_moves (inr last) = let wrong = rising.climbs [] requires_ own nothing 4 5 refl (number.Count 4) (counts (4 ∷ 1 ∷ [])) refl (last (counts (4 ∷ 4 ∷ 1 ∷ [])) (reaches 4 refl)) in cc
