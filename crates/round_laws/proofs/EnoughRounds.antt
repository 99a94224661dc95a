-- A net of a height is steady after more steps than the height.
use Rattle.std.specs.Prelude.{◌≡◌, ◌+◌, ◌<◌, ℕ, suc, cond, IsTrue, IsSomeAnd, List, [], ◌∷◌, ◌++◌, length, map, take, drop, Option, Some, slice_get}
use Rattle.std.proofs.Common.{refl, sym, ap, subst, ◌∙◌, arith, inr}
use Rattle.order_core.specs.Chains.{IsSteady}
use Rattle.order_core.specs.MemberLaws.{first, second, both}
use Rattle.order_core.specs.Pointwise.{Each, Pointwise}
use Rattle.value_type.specs.declared.kind.Kind.{Kind}
use Rattle.value_type.specs.declared.poset.Types.{Types}
use Rattle.value_type.specs.declared.value.Value.{Value}
use Rattle.value_type.specs.Fits.{row_fits}
use Rattle.value_type.specs.KindOrderLaws.{row_laws}
use Rattle.value_type.specs.Leq.{leq, row_leq}
use Rattle.value_type.specs.PortKinds.{port_kinds}
use Rattle.design_model.specs.declared.expr.Greater.{Greater}
use Rattle.design_model.specs.Cuts.{Signal, cut_signals, is_cut_read}
use Rattle.design_model.specs.Heights.{Survey, values_at, height, net_height, sum_all}
use Rattle.design_model.specs.HeightsLaws.{of_part}
use Rattle.design_model.specs.Rows.{Row}
use Rattle.design_model.specs.Steady.{NetOf, design_of, wiring}
use Rattle.design_model.specs.SteadyLaws.{StepsIn, StepsInBy, IsSteadyIn}
use Rattle.design_model.specs.Step.{is_state, state_leq, signal_kinds, cut_values, own_values, signal_value, step_reads, IsCovered}
use Rattle.design_model.specs.Typed.{IsTyped, IsTypedNet}
use Rattle.design_model.specs.TypedLaws.{IsTyped-Net}
use Rattle.design_model.specs.ValueOf.{Reads, port_at}
use Rattle.design_model.specs.Wiring.{Wiring, Carried, required_rows, Satisfied}
use Rattle.model_laws.specs.GatheredLaws.{CarriesAt, Gathered, gathered}
use Rattle.model_laws.specs.RoundsMonotoneLaws.{feasible_carried_fits}
use Rattle.model_laws.specs.SatisfiedLaws.{CarriedFits}
use Rattle.model_laws.specs.SignalLaws.{cut_in_place}
use Rattle.model_laws.specs.StateLaws as state_laws
use Rattle.model_laws.specs.StepLaws.{cut_fits, own_fits, cut_leq, own_leq}
use Rattle.design_model.specs.ValuesInOrderLaws.{part_row_at}
use Rattle.round_laws.proofs.GradedKinds.{OccurEach, heights, graded_rows}
use Rattle.round_laws.proofs.Grading.{Grading}
use Rattle.round_laws.proofs.LesserRequired.{still_satisfied, still_covered}
use Rattle.round_laws.proofs.LongChains.{IsRank, steady_above}
use Rattle.round_laws.proofs.OccurringRows.{Thinned, thinned, signals_occur}

-- Where the parts carry these values at the signals, the signals are covered by all that is at least them, and by nothing else.
covering_leq : (t : Types) (carried : List Carried) (signals : List Signal) (values upper : Row) → Pointwise (CarriesAt (required_rows carried)) signals values → Pointwise (IsCovered t carried) signals upper
    → IsTrue (row_leq t (map (λ s. s.kind) signals) values upper)
covering_leq t carried [] [] [] at covered = refl
covering_leq t carried [] [] (u ∷ upper) at covered = absurd covered
covering_leq t carried [] (v ∷ values) upper at covered = absurd at
covering_leq t carried (s ∷ signals) [] upper at covered = absurd at
covering_leq t carried (s ∷ signals) (v ∷ values) [] at covered = absurd covered
covering_leq t carried (s ∷ signals) (v ∷ values) (u ∷ upper) at covered =
    both _ _ (subst (λ (o : Option Value). IsSomeAnd o (λ z. IsTrue (leq t s.kind z u))) at.0 covered.0) (covering_leq t carried signals values upper at.1 covered.1)

leq_covering : (t : Types) (carried : List Carried) (signals : List Signal) (values upper : Row) → Pointwise (CarriesAt (required_rows carried)) signals values
    → IsTrue (row_leq t (map (λ s. s.kind) signals) values upper) → Pointwise (IsCovered t carried) signals upper
leq_covering t carried [] [] [] at l = tt
leq_covering t carried [] [] (u ∷ upper) at l = absurd (cc)
leq_covering t carried [] (v ∷ values) upper at l = absurd at
leq_covering t carried (s ∷ signals) [] upper at l = absurd at
leq_covering t carried (s ∷ signals) (v ∷ values) [] at l = absurd (cc)
leq_covering t carried (s ∷ signals) (v ∷ values) (u ∷ upper) at l =
    (subst (λ (o : Option Value). IsSomeAnd o (λ z. IsTrue (leq t s.kind z u))) (sym at.0) (first _ _ l), leq_covering t carried signals values upper at.1 (second (leq t s.kind v u) _ l))

-- A state is at least two rows put together where each of its two parts is.
together_leq : (t : Types) (signals : List Signal) (own : List Kind) (xs zs ys : Row) → IsTrue (row_leq t (map (λ s. s.kind) signals) xs (take (length signals) ys)) → IsTrue (row_leq t own zs (drop (length signals) ys))
    → IsTrue (row_leq t (map (λ s. s.kind) signals ++ own) (xs ++ zs) ys)
together_leq t [] own [] zs ys l k = k
together_leq t [] own (x ∷ xs) zs ys l k = absurd (cc)
together_leq t (s ∷ signals) own [] zs ys l k = absurd (cc)
together_leq t (s ∷ signals) own (x ∷ xs) zs [] l k = absurd (cc)
together_leq t (s ∷ signals) own (x ∷ xs) zs (y ∷ ys) l k = both _ _ (first _ _ l) (together_leq t signals own xs zs ys (second (leq t s.kind x y) _ l) k)

heights_are : (t : Types) (parts : List Survey) (signals : List Signal) → map (λ s. height t s.kind (values_at parts s)) signals ≡ heights t (map (λ s. s.kind) signals) (map (values_at parts) signals)
heights_are t parts [] = refl
heights_are t parts (s ∷ signals) = ap (λ (hs : List (Option ℕ)). height t s.kind (values_at parts s) ∷ hs) (heights_are t parts signals)

length-maps : {A B C : Type 0} (f : A → B) (g : A → C) (xs : List A) → length (map f xs) ≡ length (map g xs)
length-maps f g [] = refl
length-maps f g (x ∷ xs) = ap suc (length-maps f g xs)

-- What a constraint into this port reads in a step, by the cut values alone.
abbrev reads_from : Wiring → Row → Row → List Carried → Greater → Reads
reads_from net f cuts carried into = record {
  own = slice_get f;
  inner = λ part port. cond (is_cut_read net into part) (signal_value (cut_signals net) cuts part port) (port_at (required_rows carried) part port);
}

module _ (t : Types) (n : ℕ) (net : NetOf) (f : Row) (h : ℕ) (typed : IsTyped t (design_of net)) (f_fits : IsTrue (row_fits t (port_kinds net.provides) f))
    (high : net_height t (wiring net) (map (of_part t) net.parts) ≡ Some h) where
  abbrev wired : Wiring
  wired = wiring net

  abbrev known : List (Option (List Value))
  known = map (values_at (map (of_part t) net.parts)) (cut_signals wired)

  grading : Grading (row_fits t (signal_kinds wired)) (row_leq t (signal_kinds wired)) (OccurEach known) h
  grading = graded_rows t (signal_kinds wired) known h (length-maps (λ s. s.kind) (values_at (map (of_part t) net.parts)) (cut_signals wired))
      (ap sum_all (sym (heights_are t (map (of_part t) net.parts) (cut_signals wired))) ∙ high)

  is : IsTypedNet t net.provides net.requires_ net.parts net.constraints (Each (λ q. IsTyped t q.design) net.parts)
  is = rw IsTyped-Net at typed

  -- A step that leaves the rank as it was can be made in two: first to the old cut values with the new own values, and from there on.
  module _ (x y : Row) (x_is : IsTrue (is_state t wired x)) (y_is : IsTrue (is_state t wired y)) (l : IsTrue (state_leq t wired x y))
      (stays : grading.rank (cut_values wired x) ≡ grading.rank (cut_values wired y)) (carried : List Carried) (by : StepsInBy t n net f x y carried) where
    abbrev between : Row
    between = cut_values wired x ++ own_values wired y

    between_cuts : cut_values wired between ≡ cut_values wired x
    between_cuts = state_laws.join_take t (cut_signals wired) (cut_values wired x) (own_values wired y) (cut_fits t wired x x_is)

    between_own : own_values wired between ≡ own_values wired y
    between_own = state_laws.join_drop t (cut_signals wired) (cut_values wired x) (own_values wired y) (cut_fits t wired x x_is)

    between_is : IsTrue (is_state t wired between)
    between_is = state_laws.join_fits t (cut_signals wired) wired.requires_ (cut_values wired x) (own_values wired y) (cut_fits t wired x x_is) (own_fits t wired y y_is)

    x_below : IsTrue (state_leq t wired x between)
    x_below = state_laws.own_leq t (cut_signals wired) wired.requires_ x (own_values wired y)
        ((row_laws t (signal_kinds wired)).reflexive (cut_values wired x) (cut_fits t wired x x_is)) x_is (own_leq t wired x y l)

    y_above : IsTrue (state_leq t wired between y)
    y_above = together_leq t (cut_signals wired) wired.requires_ (cut_values wired x) (own_values wired y) y (cut_leq t wired x y l)
        ((row_laws t wired.requires_).reflexive (own_values wired y) (own_fits t wired y y_is))

    thin : Thinned t n net.parts carried
    thin = thinned t n net.parts carried is.typed by.may_carry

    fit : CarriedFits t wired carried
    fit = feasible_carried_fits t n net.provides net.requires_ net.parts net.constraints carried by.may_carry

    thin_fit : CarriedFits t wired thin.lesser
    thin_fit = feasible_carried_fits t n net.provides net.requires_ net.parts net.constraints thin.lesser thin.may

    at_signals : Gathered t (required_rows thin.lesser) (cut_signals wired)
    at_signals = gathered t (required_rows thin.lesser) (cut_signals wired)
        (λ s m. part_row_at t wired.required (required_rows thin.lesser) s.part s.port s.kind thin_fit.required (cut_in_place wired s m))

    -- The old cut values cover the thinner rows already: what occurs and is at most the new ones is at most the old ones.
    covered_before : Pointwise (IsCovered t thin.lesser) (cut_signals wired) (cut_values wired x)
    covered_before =
        let after = still_covered t wired f x carried thin.lesser is.each_constraint f_fits x_is fit thin_fit thin.less (cut_signals wired) (cut_values wired y)
        (cut_in_place wired) (cut_fits t wired y y_is) by.covered in
        let below_new = covering_leq t thin.lesser (cut_signals wired) at_signals.values (cut_values wired y) at_signals.carried after in
        let below_old = grading.keeps (cut_values wired x) (cut_values wired y) at_signals.values (cut_fits t wired x x_is) (cut_fits t wired y y_is) at_signals.fit (cut_leq t wired x y l) stays
        (signals_occur t net.parts thin.lesser (cut_signals wired) at_signals.values thin.occur at_signals.carried) below_new in
        leq_covering t thin.lesser (cut_signals wired) at_signals.values (cut_values wired x) at_signals.carried below_old

    to_between : StepsInBy t n net f x between thin.lesser
    to_between = record {
      before_is = x_is;
      after_is = between_is;
      may_carry = thin.may;
      constraints = subst (λ (own : Row). Each (λ c. Satisfied t wired own thin.lesser (step_reads wired f x thin.lesser c.greater) c) net.constraints) (sym between_own)
          (still_satisfied t wired f x carried thin.lesser is.each_constraint f_fits x_is fit thin_fit thin.less (own_values wired y) (own_fits t wired y y_is) thin.same by.constraints);
      covered = subst (λ (cuts : Row). Pointwise (IsCovered t thin.lesser) (cut_signals wired) cuts) (sym between_cuts) covered_before;
    }

    -- A step reads of the state before its cut values alone.
    from_between : StepsInBy t n net f between y carried
    from_between = record {
      before_is = between_is;
      after_is = y_is;
      may_carry = by.may_carry;
      constraints = subst (λ (cuts : Row). Each (λ c. Satisfied t wired (own_values wired y) carried (reads_from wired f cuts carried c.greater) c) net.constraints) (sym between_cuts) by.constraints;
      covered = by.covered;
    }

  ranked : IsRank (is_state t wired) (state_leq t wired) (StepsIn t n net f) h (λ s. grading.rank (cut_values wired s))
  ranked = record {
    within = λ x x_is. grading.within (cut_values wired x) (cut_fits t wired x x_is);
    rises = λ x y x_is y_is l. grading.rises (cut_values wired x) (cut_values wired y) (cut_fits t wired x x_is) (cut_fits t wired y y_is) (cut_leq t wired x y l);
    halves = λ x y x_is y_is l stays step. (
      cut_values wired x ++ own_values wired y,
      x_below x y x_is y_is l stays step.0 step.1,
      ((thin x y x_is y_is l stays step.0 step.1).lesser, to_between x y x_is y_is l stays step.0 step.1),
      y_above x y x_is y_is l stays step.0 step.1,
      (step.0, from_between x y x_is y_is l stays step.0 step.1),
    );
  }

  pub chains_are_steady : (k : ℕ) → h < k → IsSteady (is_state t wired) (state_leq t wired) (StepsIn t n net f) k
  chains_are_steady = steady_above (is_state t wired) (state_leq t wired) (StepsIn t n net f) h (λ s. grading.rank (cut_values wired s)) (λ x y v by. by.1.after_is) ranked

pub steady_in_enough : (t : Types) (more h : ℕ) (net : NetOf) (f : Row) → IsTyped t (design_of net) → IsTrue (row_fits t (port_kinds net.provides) f)
    → net_height t (wiring net) (map (of_part t) net.parts) ≡ Some h → IsSteadyIn t (more + (h + 2)) net f
steady_in_enough t more h net f typed f_fits high =
    let rounds : suc (more + (h + 1)) ≡ more + (h + 2) = omega arith in
    subst (λ (n : ℕ). IsSteadyIn t n net f) rounds (inr (chains_are_steady t (suc (more + (h + 1))) net f h typed f_fits high (more + (h + 1)) (omega arith)))
