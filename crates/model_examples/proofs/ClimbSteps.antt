-- The loop that climbs without end has one cut signal, and in 5 rounds its state 4 | 4 ends a chain of 4 steps and doesn't step to itself.
use Rattle.std.specs.Prelude.{◌≡◌, ℕ, zero, suc, nat_le, IsTrue, [], ◌∷◌}
use Rattle.std.proofs.Common.{refl, ◌∙◌}
use Rattle.order_core.specs.declared.num.Num.TheVariants as number
use Rattle.order_core.specs.MemberLaws.{both}
use Rattle.order_core.specs.NumLaws as numeric
use Rattle.design_model.specs.declared.expr.Expr.TheVariants as expr
use Rattle.design_model.specs.Cuts.{cut_signals}
use Rattle.design_model.specs.Rows.{Row}
use Rattle.design_model.specs.Steady.{wiring}
use Rattle.design_model.specs.SteadyLaws.{StepsIn, EndsIn}
use Rattle.model_examples.specs.Climb.{climb, the_signal}
use Rattle.model_examples.proofs.NumberRowsLemmas.{counts_fit, counts_leq}
use Rattle.model_examples.specs.Words.{no_types, numbers, counts}
use Rattle.model_examples.proofs.Loops as nets
use Rattle.model_examples.proofs.NumberLoops as loops
use Rattle.model_examples.proofs.SuccessorLoops as rising

abbrev nothing : Row
nothing = []

abbrev loop : nets.Loop numbers
loop = rising.loop climb.provides climb.requires_ ((0, expr.Inner 0 0) ∷ [])

pub climb_signals : cut_signals (wiring climb) ≡ the_signal ∷ []
climb_signals = nets.signals_are loop

-- from 0 on, one more at each step
reaches : (k : ℕ) → IsTrue (nat_le k 10000000000000000000) → EndsIn no_types 5 climb nothing k (counts (k ∷ k ∷ []))
reaches zero valid = rw (loops.states_are loop) (counts_fit (0 ∷ 0 ∷ []))
reaches (suc k) valid = one_on (reaches k (rising.one_less k valid))
  where
    k_valid : IsTrue (nat_le k 10000000000000000000)
    k_valid = rising.one_less k valid

    one_on : EndsIn no_types 5 climb nothing k (counts (k ∷ k ∷ [])) → EndsIn no_types 5 climb nothing (suc k) (counts (suc k ∷ suc k ∷ []))
    one_on chain =
        loops.longer loop nothing rising.asks (rising.asks_is nothing) 5 k (number.Count k) (number.Count (suc k)) (counts (k ∷ [])) (counts (suc k ∷ [])) (number.Count k) (number.Count (suc k)) chain
        (counts_fit (k ∷ k ∷ []) ∙ both _ _ k_valid (both _ _ k_valid refl)) (counts_fit (suc k ∷ suc k ∷ []) ∙ both _ _ valid (both _ _ valid refl))
        (counts_leq (k ∷ k ∷ []) (suc k ∷ suc k ∷ []) ∙ both _ _ (rising.next k) (both _ _ (rising.next k) refl))
        (rising.step_on climb.provides climb.requires_ ((0, expr.Inner 0 0) ∷ []) nothing 4 k (counts (suc k ∷ [])) valid
        (loops.covers_need nothing (number.Count (suc k)) (number.Count (suc k)) (rising.itself (suc k)), tt))

pub climb_ends : EndsIn no_types 5 climb nothing 4 (counts (4 ∷ 4 ∷ []))
climb_ends = reaches 4 refl

-- From 4 on, 5 is needed.
pub climb_moves : StepsIn no_types 5 climb nothing (counts (4 ∷ 4 ∷ [])) (counts (4 ∷ 4 ∷ [])) → ⊥
climb_moves step =
    let some = loops.of_step loop nothing rising.asks (rising.asks_is nothing) 5 (number.Count 4) (number.Count 4) (counts (4 ∷ [])) (counts (4 ∷ [])) step.0 step.1 in
    let five = rising.needs_more climb.provides climb.requires_ ((0, expr.Inner 0 0) ∷ []) nothing 4 4 (number.Count 4) (number.Count 4) (counts (4 ∷ [])) some.given some.needed
    refl refl some.given_valid some.needed_valid refl some.step in
    let wrong = numeric.number_laws.transitive (number.Count 5) some.needed (number.Count 4) refl some.needed_valid refl five some.step.covered in
    cc
