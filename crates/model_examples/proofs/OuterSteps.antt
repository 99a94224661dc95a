-- The outer net in 2 rounds, at a load of 95: it is steady, its state 50 | 50 is a least end that steps to itself, and there the body is asked for 96 and never for 95.
use Rattle.std.specs.Prelude.{◌≡◌, ℕ, suc, ◌||◌, codes, IsTrue, IsSomeAnd, List, [], ◌∷◌, Option, Some, slice_get, zero, length, Bool, true, false, nat_le}
use Rattle.std.proofs.Common.{refl, sym, ap, subst, ◌∙◌, inr}
use Rattle.order_core.specs.declared.num.Num.{Num as Number}
use Rattle.order_core.specs.declared.num.Num.TheVariants as number
use Rattle.order_core.specs.Num as numeric
use Rattle.order_core.specs.NumLaws as numeric_laws
use Rattle.order_core.specs.NumLaws.{sum_number, sum_monotone}
use Rattle.unit_core.specs.Ratio.{ratio}
use Rattle.value_type.specs.declared.port.Port.{Port}
use Rattle.value_type.specs.declared.value.Value.{Value}
use Rattle.value_type.specs.Forms.{number_value}
use Rattle.value_type.specs.Leq.{row_leq}
use Rattle.value_type.specs.Scale.{scaled}
use Rattle.value_type.specs.ScaleLaws.{scaled_monotone}
use Rattle.value_type.specs.PortKinds.{port_kinds}
use Rattle.design_model.specs.declared.expr.Expr.{Expr}
use Rattle.design_model.specs.declared.expr.Expr.TheVariants as expr
use Rattle.design_model.specs.ExprLaws as laws
use Rattle.design_model.specs.Met.{IsMet, AsksPart}
use Rattle.design_model.specs.NumberLaws.{number_back}
use Rattle.design_model.specs.Parts.{provided_ports}
use Rattle.design_model.specs.PartsLaws.{provided-Cat, provided-Net, required-Net}
use Rattle.design_model.specs.Rows.{Row}
use Rattle.design_model.specs.ShownLaws.{IsMet-here, IsMet-Cat, IsMet-Net}
use Rattle.design_model.specs.Step.{is_state, state_leq}
use Rattle.design_model.specs.Steady.{design_of, wiring}
use Rattle.design_model.specs.SteadyLaws.{EndsIn, EndsLeastIn, IsTight, IsSteadyIn}
use Rattle.design_model.specs.ValueOf.{Reads, value_of, of_one, number_in}
use Rattle.design_model.specs.Wiring.{Carried}
use Rattle.model_examples.proofs.NumberRowsLemmas.{counts_fit, counts_leq, number_leq, as_one, one_leq, leq_one, two_leq}
use Rattle.model_examples.proofs.OnePartLemmas.{sum_worth}
use Rattle.model_examples.specs.Outer.{motor_provides, motor_requires, motor_rows, motors, body, hundredth, outer}
use Rattle.model_examples.proofs.ShortRowsLemmas.{leq_two}
use Rattle.model_examples.specs.Words.{no_types, numbers, number_port, counts}
use Rattle.model_examples.proofs.BodySteps.{body_weighs, feasible_at_95, feasible_at_96, minimum_at_96}
use Rattle.model_examples.proofs.Loops as nets
use Rattle.model_examples.proofs.NumberLoops as loops

abbrev asked : Expr
asked = expr.Sum (expr.Own 0) (expr.Scale hundredth (expr.Inner 0 0))

abbrev loop : nets.Loop numbers
loop = record {
  provides = number_port (codes "load") ∷ [];
  requires_ = number_port (codes "total") ∷ [];
  name = codes "b";
  inner = design_of body;
  inner_provides = ap port_kinds (provided-Net body.provides body.requires_ body.parts body.constraints);
  inner_requires = ap port_kinds (required-Net body.provides body.requires_ body.parts body.constraints);
  asked = asked;
  asked_reads = λ test. laws.reads-Sum test (expr.Own 0) (expr.Scale hundredth (expr.Inner 0 0))
      ∙ (λ i. laws.reads-Own test 0 i || (laws.reads-Scale test hundredth (expr.Inner 0 0) ∙ laws.reads-Inner test 0 0) i);
  own = (0, expr.Inner 0 0) ∷ [];
}

abbrev load : Row
load = counts (95 ∷ [])

-- the load and a hundredth of the mass, rounded up
abbrev asks : Number → Number
asks z = numeric.number_sum (number.Count 95) (scaled (ratio hundredth) z)

asks_is : (reads : Reads) (z : Number) → reads.own ≡ slice_get load → reads.inner 0 0 ≡ Some (number_value z) → value_of asked reads ≡ Some (number_value (asks z))
asks_is reads z own inner =
    sum_worth (expr.Own 0) (expr.Scale hundredth (expr.Inner 0 0)) reads (number.Count 95) (scaled (ratio hundredth) z) (laws.value-Own 0 reads ∙ ap (λ (at : ℕ → Option Value). at 0) own)
    (laws.value-Scale hundredth (expr.Inner 0 0) reads ∙ (ap (λ (o : Option Value). of_one (scaled (ratio hundredth)) (number_in o)) (laws.value-Inner 0 0 reads ∙ inner)
    ∙ ap (λ (o : Option Number). of_one (scaled (ratio hundredth)) o) (number_back z)))

-- At least 95 is asked for, and 96 from a mass of 50 on.
asks_95 : (z : Number) → IsTrue (numeric.number_leq (number.Count 95) (asks z))
asks_95 z = sum_monotone (number.Count 95) (number.Count 0) (number.Count 95) (scaled (ratio hundredth) z) refl (loops.zero_is_least (scaled (ratio hundredth) z))

asks_96 : (z : Number) → IsTrue (numeric.number_leq (number.Count 50) z) → IsTrue (numeric.number_leq (number.Count 96) (asks z))
asks_96 z heavy =
    sum_monotone (number.Count 95) (number.Count 1) (number.Count 95) (scaled (ratio hundredth) z) refl (scaled_monotone (ratio hundredth) (number.Count 50) z hundredth.whole heavy)

asks_is_number : (z : Number) → IsTrue (numeric.is_number (asks z))
asks_is_number z = sum_number (number.Count 95) (scaled (ratio hundredth) z)

-- So a step leads to 50 or more.
step_weighs : (z y : Number) (own : Row) (given needed : Number) → IsTrue (numeric.is_number given) → IsTrue (numeric.is_number needed) → loops.LoopStep loop load asks asks_is 2 z y own given needed
    → IsTrue (numeric.number_leq (number.Count 50) needed)
step_weighs z y own given needed given_is needed_is step =
    body_weighs given given_is (numeric_laws.number_laws.transitive (number.Count 95) (asks z) given refl (asks_is_number z) given_is (asks_95 z) step.asked) needed needed_is step.feasible

record IsHeavy (y : Number) (own : Row) : Type 0 where
  cut : IsTrue (numeric.number_leq (number.Count 50) y)
  total : (r : Number) → own ≡ number_value r ∷ [] → IsTrue (numeric.is_number r) → IsTrue (numeric.number_leq (number.Count 50) r)

end_is_heavy : (k : ℕ) (y : Number) (own : Row) → IsTrue (numeric.is_number y) → EndsIn no_types 2 outer load (suc k) (number_value y ∷ own) → IsHeavy y own
end_is_heavy k y own y_is chain =
    let last = loops.last_step loop load asks asks_is 2 k y own chain in
    let weighs = step_weighs last.cut y own last.given last.needed last.given_valid last.needed_valid last.step in
    record {
      cut = numeric_laws.number_laws.transitive (number.Count 50) last.needed y refl last.needed_valid y_is weighs last.step.covered;
      total = λ r e r_is.
          numeric_laws.number_laws.transitive (number.Count 50) last.needed r refl last.needed_valid r_is weighs
          (loops.need_covered load r last.needed (subst (λ (x : Row). loops.OwnHold loop load asks asks_is 2 x last.needed) e last.step.own_hold).0);
    }

-- The state 50 | 50 ends a chain of one step,
fifty_ends : EndsIn no_types 2 outer load 1 (counts (50 ∷ 50 ∷ []))
fifty_ends =
    loops.longer loop load asks asks_is 2 0 (number.Count 0) (number.Count 50) (counts (0 ∷ [])) (counts (50 ∷ [])) (number.Count 95) (number.Count 50)
    (rw loops.states_are (counts_fit (0 ∷ 0 ∷ []))) (counts_fit (0 ∷ 0 ∷ [])) (counts_fit (50 ∷ 50 ∷ [])) (counts_leq (0 ∷ 0 ∷ []) (50 ∷ 50 ∷ []))
    (record { feasible = feasible_at_95; asked = refl; covered = refl; own_hold = (loops.covers_need load (number.Count 50) (number.Count 50) refl, tt) })

-- and steps to all that is at least it.
step_on : (y r : Number) → IsTrue (numeric.number_leq (number.Count 50) y) → IsTrue (numeric.number_leq (number.Count 50) r)
    → loops.LoopStep loop load asks asks_is 2 (number.Count 50) y (number_value r ∷ []) (number.Count 96) (number.Count 50)
step_on y r cut total = record { feasible = feasible_at_96; asked = refl; covered = cut; own_hold = (loops.covers_need load r (number.Count 50) total, tt) }

-- So whatever ends a chain of one step ends one of two.
pub root_is_steady : IsSteadyIn no_types 2 outer load
root_is_steady = inr (λ s chain. stays s chain)
  where
    stays : (s : Row) → EndsIn no_types 2 outer load 1 s → EndsIn no_types 2 outer load 2 s
    stays s chain =
        let state = loops.as_state loop s chain.3.1.after_is in
        let one = as_one state.own state.own_fits in
        let s_is : s ≡ number_value state.cut ∷ number_value one.only ∷ [] = state.is ∙ ap (λ (x : Row). number_value state.cut ∷ x) one.row_is in
        let heavy = end_is_heavy 0 state.cut (number_value one.only ∷ []) state.cut_valid (subst (EndsIn no_types 2 outer load 1) s_is chain) in
        let total = heavy.total one.only refl one.valid in
        let fits = rw (loops.states_are loop) at (subst (λ (x : Row). IsTrue (is_state no_types (wiring outer) x)) s_is chain.3.1.after_is) in
        subst (EndsIn no_types 2 outer load 2) (sym s_is)
        (loops.longer loop load asks asks_is 2 1 (number.Count 50) state.cut (counts (50 ∷ [])) (number_value one.only ∷ []) (number.Count 96) (number.Count 50) fifty_ends (counts_fit (50 ∷ 50 ∷ [])) fits
        (leq_two no_types numbers numbers (number_value (number.Count 50)) (number_value (number.Count 50)) (number_value state.cut) (number_value one.only)
        (number_leq (number.Count 50) state.cut ∙ heavy.cut) (number_leq (number.Count 50) one.only ∙ total))
        (step_on state.cut one.only heavy.cut total))

pub least_end : EndsLeastIn no_types 2 outer load 2 (counts (50 ∷ 50 ∷ []))
least_end = record {
  element = loops.longer loop load asks asks_is 2 1 (number.Count 50) (number.Count 50) (counts (50 ∷ [])) (counts (50 ∷ [])) (number.Count 96) (number.Count 50) fifty_ends (counts_fit (50 ∷ 50 ∷ [])) (counts_fit (50 ∷ 50 ∷ []))
      (counts_leq (50 ∷ 50 ∷ []) (50 ∷ 50 ∷ [])) (step_on (number.Count 50) (number.Count 50) refl refl);
  least = least;
}
  where
    least : (s : Row) → EndsIn no_types 2 outer load 2 s → IsTrue (state_leq no_types (wiring outer) s (counts (50 ∷ 50 ∷ []))) → s ≡ counts (50 ∷ 50 ∷ [])
    least s chain l =
        let state = loops.as_state loop s chain.3.1.after_is in
        let one = as_one state.own state.own_fits in
        let s_is : s ≡ number_value state.cut ∷ number_value one.only ∷ [] = state.is ∙ ap (λ (x : Row). number_value state.cut ∷ x) one.row_is in
        let heavy = end_is_heavy 1 state.cut (number_value one.only ∷ []) state.cut_valid (subst (EndsIn no_types 2 outer load 2) s_is chain) in
        let below = two_leq state.cut one.only (number.Count 50) (number.Count 50)
        (rw (loops.order_of_states loop) at (subst (λ (x : Row). IsTrue (state_leq no_types (wiring outer) x (counts (50 ∷ 50 ∷ [])))) s_is l)) in
        let cut : state.cut ≡ number.Count 50 = numeric_laws.number_laws.antisymmetric state.cut (number.Count 50) state.cut_valid refl below.0 heavy.cut in
        let total : one.only ≡ number.Count 50 = numeric_laws.number_laws.antisymmetric one.only (number.Count 50) one.valid refl below.1 (heavy.total one.only refl one.valid) in
        s_is ∙ (λ i. number_value (cut i) ∷ number_value (total i) ∷ [])

tight : IsTight no_types 2 outer load (counts (50 ∷ 50 ∷ [])) (counts (50 ∷ 50 ∷ [])) (loops.carries (number.Count 96) (number.Count 50))
tight =
    loops.tight_by loop load asks asks_is 2 (number.Count 50) (number.Count 50) (counts (50 ∷ [])) (counts (50 ∷ [])) (number.Count 50) refl
    (loops.step_by loop load asks asks_is 2 (number.Count 50) (number.Count 50) (counts (50 ∷ [])) (counts (50 ∷ [])) (number.Count 96) (number.Count 50) (rw loops.states_are (counts_fit (50 ∷ 50 ∷ [])))
    (rw loops.states_are (counts_fit (50 ∷ 50 ∷ []))) (step_on (number.Count 50) (number.Count 50) refl refl))
    minimum_at_96

pub met_at_96 : IsMet no_types 2 (0 ∷ []) (design_of outer) load (design_of body) (counts (96 ∷ []))
met_at_96 = rw IsMet-Net (
  counts (96 ∷ []),
  record { steady = root_is_steady; state = counts (50 ∷ 50 ∷ []); ends = least_end; steps = (loops.carries (number.Count 96) (number.Count 50), tight.steps); asks = (loops.carries (number.Count 96) (number.Count 50), tight, refl) },
  rw IsMet-here (refl, refl),
)

-- What a state steps to itself by is given 96 or more.
asked_high : (row : Row) → AsksPart no_types 2 outer load 0 row → (m : Number) → row ≡ number_value m ∷ [] → IsTrue (numeric.is_number m) → IsTrue (numeric.number_leq (number.Count 96) m)
asked_high row asks_part m row_is m_is =
    let state = loops.as_state loop asks_part.state asks_part.steps.1.before_is in
    let heavy = end_is_heavy 1 state.cut state.own state.cut_valid (subst (EndsIn no_types 2 outer load 2) state.is asks_part.ends.element) in
    let by = subst (λ (x : Row). IsTight no_types 2 outer load x x asks_part.asks.0) state.is asks_part.asks.1 in
    let some = loops.of_step loop load asks asks_is 2 state.cut state.cut state.own state.own asks_part.asks.0 by.steps in
    let high = numeric_laws.number_laws.transitive (number.Count 96) (asks state.cut) some.given refl (asks_is_number state.cut) some.given_valid (asks_96 state.cut heavy.cut) some.step.asked in
    let given_is : number_value some.given ∷ [] ≡ row = subst (λ (cs : List Carried). IsSomeAnd (slice_get cs 0) (λ c. c.provided ≡ row)) some.is asks_part.asks.2 in
    same_number some.given m (given_is ∙ row_is) high
  where
    same_number : (a b : Number) → number_value a ∷ [] ≡ number_value b ∷ [] → IsTrue (numeric.number_leq (number.Count 96) a) → IsTrue (numeric.number_leq (number.Count 96) b)
    same_number a b e h = one_leq (number.Count 96) b (subst (λ (x : Row). IsTrue (row_leq no_types (numbers ∷ []) (counts (96 ∷ [])) x)) e (leq_one (number.Count 96) a h))

-- The three designs differ, as the names of their provided ports do in length.
is_short : List Port → Bool
is_short [] = true
is_short (port ∷ ports) = nat_le (length port.name) 4

outer_isnt_body : design_of outer ≡ design_of body → ⊥
unfolding is_short
outer_isnt_body e =
    let ports : outer.provides ≡ body.provides = sym (provided-Net outer.provides outer.requires_ outer.parts outer.constraints)
    ∙ (ap provided_ports e ∙ provided-Net body.provides body.requires_ body.parts body.constraints) in
    let wrong : true ≡ false = ap is_short ports in cc

motors_arent_body : motors ≡ design_of body → ⊥
unfolding is_short
motors_arent_body e =
    let ports : motor_provides ≡ body.provides = sym (provided-Cat motor_provides motor_requires motor_rows) ∙ (ap provided_ports e ∙ provided-Net body.provides body.requires_ body.parts body.constraints) in
    let wrong : true ≡ false = ap is_short ports in cc

-- The body doesn't stand within itself.
not_within : (path : List ℕ) (row g : Row) (i : ℕ) → IsMet no_types 2 (i ∷ path) (design_of body) row (design_of body) g → ⊥
not_within path row g i h = let through = rw IsMet-Net at h in in_part i path through.0 through.2
  where
    in_part : (j : ℕ) (rest : List ℕ) (asked_for : Row) → IsSomeAnd (slice_get body.parts j) (λ p. IsMet no_types 2 rest p.design asked_for (design_of body) g) → ⊥
    in_part zero [] asked_for met = motors_arent_body (rw IsMet-here at met).0
    in_part zero (k ∷ rest) asked_for met = rw IsMet-Cat at met
    in_part (suc j) rest asked_for met = met

pub not_met_at_95 : (path : List ℕ) → IsMet no_types 2 path (design_of outer) load (design_of body) (counts (95 ∷ [])) → ⊥
not_met_at_95 [] h = outer_isnt_body (rw IsMet-here at h).0
not_met_at_95 (i ∷ path) h = let through = rw IsMet-Net at h in in_part i path through.0 through.1 through.2
  where
    in_part : (j : ℕ) (rest : List ℕ) (row : Row) → AsksPart no_types 2 outer load j row → IsSomeAnd (slice_get outer.parts j) (λ p. IsMet no_types 2 rest p.design row (design_of body) (counts (95 ∷ []))) → ⊥
    in_part zero [] row asks_part met = let same = rw IsMet-here at met in let wrong = asked_high row asks_part (number.Count 95) same.1 refl in cc
    in_part zero (k ∷ rest) row asks_part met = not_within rest row (counts (95 ∷ [])) k met
    in_part (suc j) rest row asks_part met = met
