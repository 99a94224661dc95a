-- Loops over numbers: what a step and a chain come to, as numbers.
use Rattle.std.specs.Prelude.{◌≡◌, ℕ, zero, suc, nat_le, cond, IsTrue, map, take, length, List, [], ◌∷◌, Option, Some, slice_get}
use Rattle.std.proofs.Common.{refl, sym, ap, subst, ◌∙◌, arith, inl}
use Rattle.std.proofs.lemmas.Bool.Decides.{nat_tests}
use Rattle.order_core.specs.declared.num.Num.{Num as Number}
use Rattle.order_core.specs.declared.num.Num.TheVariants as number
use Rattle.order_core.specs.MemberLaws.{first, second}
use Rattle.order_core.specs.Num as numeric
use Rattle.order_core.specs.NumLaws as numeric_laws
use Rattle.order_core.specs.Pointwise.{Each, Pointwise}
use Rattle.order_core.specs.PointwiseLaws.{Each-map}
use Rattle.value_type.specs.declared.kind.Kind.{Kind}
use Rattle.value_type.specs.declared.value.Value.{Value}
use Rattle.value_type.specs.Fits.{fits, row_fits}
use Rattle.value_type.specs.Forms.{number_value}
use Rattle.value_type.specs.Leq.{row_leq}
use Rattle.value_type.specs.PortKinds.{port_kinds}
use Rattle.design_model.specs.declared.design.Part.{Part}
use Rattle.design_model.specs.declared.expr.Constraint.{Constraint}
use Rattle.design_model.specs.declared.expr.Expr.{Expr}
use Rattle.design_model.specs.declared.expr.Greater.TheVariants as greater
use Rattle.design_model.specs.Cuts.{Signal, cut_signals}
use Rattle.design_model.specs.declared.expr.Expr.TheVariants as expr
use Rattle.design_model.specs.ExprLaws as laws
use Rattle.design_model.specs.Evaluation.{place}
use Rattle.design_model.specs.Holds.{Fit}
use Rattle.design_model.specs.Parts.{provided_ports}
use Rattle.design_model.specs.Rounds.{IsFeasibleIn, IsMinimumIn}
use Rattle.design_model.specs.RoundsLaws.{IsFeasibleIn-Net, feasible_in_fits}
use Rattle.design_model.specs.Rows.{Row}
use Rattle.design_model.specs.Steady.{design_of, wiring, MayCarryIn}
use Rattle.design_model.specs.SteadyLaws.{StepsInBy, EndsIn, KeepsInto, IsTight, IsTightAt}
use Rattle.design_model.specs.Step.{is_state, state_leq, own_values, signal_value, step_reads, IsCovered}
use Rattle.design_model.specs.StepLaws.{StepsBy}
use Rattle.design_model.specs.ValueOf.{Reads, port_at, value_of, reads_of}
use Rattle.design_model.specs.Wiring.{Wiring, Carried, required_rows, Satisfied, IsAtLeast}
use Rattle.model_examples.proofs.NumberRowsLemmas.{number_leq, as_number, as_one, one_leq}
use Rattle.model_examples.proofs.OnePartLemmas.{only_partner, number_at_least, at_least_number}
use Rattle.model_examples.specs.Words.{no_types, numbers, part, constraint}
use Rattle.model_examples.proofs.Loops.{Loop, own_constraint, constraints_of, loop_net, wired, wiring_is, order_is, the_signal, wired_signals, wired_own, own_is}
use Rattle.model_examples.proofs.Loops as loops

pub zero_is_least : (n : Number) → IsTrue (numeric.number_leq (number.Count 0) n)
zero_is_least (number.Count n) = grind (arith, nat_tests)
zero_is_least number.Top = refl

-- An own port covers what the part requires where its number is at least that.
pub covers_need : (f : Row) (r needed : Number) → IsTrue (numeric.number_leq needed r)
    → IsAtLeast no_types (Some numbers) (Some (number_value r)) (value_of (expr.Inner 0 0) (reads_of f ((number_value needed ∷ []) ∷ [])))
covers_need f r needed h = rw laws.value-Inner (at_least_number r needed h)

pub need_covered : (f : Row) (r needed : Number) → IsAtLeast no_types (Some numbers) (Some (number_value r)) (value_of (expr.Inner 0 0) (reads_of f ((number_value needed ∷ []) ∷ [])))
    → IsTrue (numeric.number_leq needed r)
need_covered f r needed h = number_at_least r needed (rw laws.value-Inner at h)

-- what the part carries
abbrev pub carries : Number → Number → List Carried
carries given needed = record { provided = number_value given ∷ []; required = number_value needed ∷ [] } ∷ []

module _ (l : Loop numbers) where
  pub states_are : is_state no_types (wiring (loop_net l)) ≡ row_fits no_types (numbers ∷ port_kinds l.requires_)
  states_are = loops.states_are l no_types

  pub order_of_states : state_leq no_types (wiring (loop_net l)) ≡ row_leq no_types (numbers ∷ port_kinds l.requires_)
  order_of_states = loops.order_of_states l no_types

  pub record IsState (s : Row) : Type 0 where
    pub cut : Number
    pub own : Row
    pub is : s ≡ number_value cut ∷ own
    pub cut_valid : IsTrue (numeric.is_number cut)
    pub own_fits : IsTrue (row_fits no_types (port_kinds l.requires_) own)

  pub as_state : (s : Row) → IsTrue (is_state no_types (wiring (loop_net l)) s) → IsState s
  as_state s h = in_two s (rw states_are at h)
    where
      in_two : (r : Row) → IsTrue (row_fits no_types (numbers ∷ port_kinds l.requires_) r) → IsState r
      in_two [] k = absurd (cc)
      in_two (v ∷ own) k =
          let n = as_number v (first _ _ k) in
          record { cut = n.number_is; own = own; is = ap (λ (w : Value). w ∷ own) n.value_is; cut_valid = n.valid; own_fits = second (fits no_types numbers v) _ k }

  -- At the functionality f, what the part is asked for is a function of the cut number.
  module _ (f : Row) (asks : Number → Number)
      (asks_is : (reads : Reads) (z : Number) → reads.own ≡ slice_get f → reads.inner 0 0 ≡ Some (number_value z) → value_of l.asked reads ≡ Some (number_value (asks z))) (n : ℕ) where
    -- The constraints on own ports hold where these own values stand and the part requires this.
    abbrev pub OwnHold : Row → Number → Type 0
    OwnHold own needed = Each (λ (e : ℕ × Expr). IsAtLeast no_types (slice_get (port_kinds l.requires_) e.0) (slice_get own e.0) (value_of e.1 (reads_of f ((number_value needed ∷ []) ∷ [])))) l.own

    -- A step from the cut number z to the cut number y and these own values, in which the part carries these numbers.
    pub record LoopStep (z y : Number) (own : Row) (given needed : Number) : Type 0 where
      pub feasible : IsFeasibleIn no_types n l.inner (number_value given ∷ []) (number_value needed ∷ [])
      pub asked : IsTrue (numeric.number_leq (asks z) given)
      pub covered : IsTrue (numeric.number_leq needed y)
      pub own_hold : OwnHold own needed

    pub record SomeLoopStep (z y : Number) (own : Row) (carried : List Carried) : Type 0 where
      pub given : Number
      pub needed : Number
      pub given_valid : IsTrue (numeric.is_number given)
      pub needed_valid : IsTrue (numeric.is_number needed)
      pub is : carried ≡ carries given needed
      pub step : LoopStep z y own given needed

    abbrev May : List Carried → Type 0
    May = MayCarryIn no_types n (loop_net l)

    -- Into the part, the state's cut number is read.
    cut_is : (v : Value) (own : Row) (carried : List Carried) → (step_reads (wired l) f (v ∷ own) carried (greater.Inner 0 0)).inner 0 0 ≡ Some v
    cut_is v own carried =
        λ i. cond (nat_le (place ((order_is l) i) 0) (place ((order_is l) i) 0)) (signal_value ((wired_signals l) i) (take (length ((wired_signals l) i)) (v ∷ own)) 0 0) (port_at (required_rows carried) 0 0)

    asked_is : (z : Number) (own : Row) (carried : List Carried) → value_of l.asked (step_reads (wired l) f (number_value z ∷ own) carried (greater.Inner 0 0)) ≡ Some (number_value (asks z))
    asked_is z own carried = asks_is (step_reads (wired l) f (number_value z ∷ own) carried (greater.Inner 0 0)) z refl (cut_is (number_value z) own carried)

    abbrev Holds : Row → Row → List Carried → Constraint → Type 0
    Holds before own cs c = Satisfied no_types (wired l) own cs (step_reads (wired l) f before cs c.greater) c

    own_path : (before own : Row) (given needed : Number) → OwnHold own needed ≡ Each (Holds before own (carries given needed)) (map own_constraint l.own)
    own_path before own given needed = Each-map own_constraint (Holds before own (carries given needed)) l.own

    pub step_by : (z y : Number) (before own : Row) (given needed : Number) → IsTrue (is_state no_types (wiring (loop_net l)) (number_value z ∷ before)) → IsTrue (is_state no_types (wiring (loop_net l)) (number_value y ∷ own))
        → LoopStep z y own given needed → StepsInBy no_types n (loop_net l) f (number_value z ∷ before) (number_value y ∷ own) (carries given needed)
    step_by z y before own given needed before_is after_is step =
        let made : StepsBy no_types (wired l) May f (number_value z ∷ before) (number_value y ∷ own) (carries given needed) = record {
          before_is = subst (λ (net : Wiring). IsTrue (is_state no_types net (number_value z ∷ before))) (wiring_is l) before_is;
          after_is = subst (λ (net : Wiring). IsTrue (is_state no_types net (number_value y ∷ own))) (wiring_is l) after_is;
          may_carry = (step.feasible, tt);
          constraints = subst (λ (o : Row). Each (Holds (number_value z ∷ before) o (carries given needed)) (constraints_of l)) (sym ((wired_own l) (number_value y) own)) (
            subst (λ (o : Option Value). IsAtLeast no_types (Some numbers) (Some (number_value given)) o) (sym (asked_is z before (carries given needed))) (at_least_number given (asks z) step.asked),
            subst (λ (P : Type 0). P) (own_path (number_value z ∷ before) own given needed) step.own_hold,
          );
          covered = subst (λ (ss : List Signal). Pointwise (IsCovered no_types (carries given needed)) ss (take (length ss) (number_value y ∷ own))) (sym (wired_signals l)) (number_leq needed y ∙ step.covered, tt);
        } in
        subst (λ (net : Wiring). StepsBy no_types net May f (number_value z ∷ before) (number_value y ∷ own) (carries given needed)) (sym (wiring_is l)) made

    pub of_step : (z y : Number) (before own : Row) (carried : List Carried) → StepsInBy no_types n (loop_net l) f (number_value z ∷ before) (number_value y ∷ own) carried → SomeLoopStep z y own carried
    of_step z y before own carried steps =
        let by = subst (λ (net : Wiring). StepsBy no_types net May f (number_value z ∷ before) (number_value y ∷ own) carried) (wiring_is l) steps in
        let c = only_partner (λ (p : Part) (c : Carried). IsFeasibleIn no_types n p.design c.provided c.required) (part l.name l.inner) carried by.may_carry in
        let fit = feasible_in_fits no_types n l.inner c.0.provided c.0.required c.2 in
        let given = as_one c.0.provided (subst (λ (ks : List Kind). IsTrue (row_fits no_types ks c.0.provided)) l.inner_provides fit.provided) in
        let needed = as_one c.0.required (subst (λ (ks : List Kind). IsTrue (row_fits no_types ks c.0.required)) l.inner_requires fit.required) in
        let same : carried ≡ carries given.only needed.only = c.1 ∙ (λ i. record { provided = given.row_is i; required = needed.row_is i } ∷ []) in
        let holds = subst (λ (o : Row). Each (Holds (number_value z ∷ before) o (carries given.only needed.only)) (constraints_of l)) ((wired_own l) (number_value y) own)
        (subst (λ (cs : List Carried). Each (Holds (number_value z ∷ before) (own_values (wired l) (number_value y ∷ own)) cs) (constraints_of l)) same by.constraints) in
        let covering : Pointwise (IsCovered no_types (carries given.only needed.only)) (the_signal numbers ∷ []) (number_value y ∷ []) =
        subst (λ (ss : List Signal). Pointwise (IsCovered no_types (carries given.only needed.only)) ss (take (length ss) (number_value y ∷ own))) (wired_signals l)
        (subst (λ (cs : List Carried). Pointwise (IsCovered no_types cs) (cut_signals (wired l)) (take (length (cut_signals (wired l))) (number_value y ∷ own))) same by.covered) in
        record {
          given = given.only;
          needed = needed.only;
          given_valid = given.valid;
          needed_valid = needed.valid;
          is = same;
          step = record {
            feasible = subst (λ (x : Row). IsFeasibleIn no_types n l.inner x (number_value needed.only ∷ [])) given.row_is (subst (λ (x : Row). IsFeasibleIn no_types n l.inner c.0.provided x) needed.row_is c.2);
            asked = number_at_least given.only (asks z) (subst (λ (o : Option Value). IsAtLeast no_types (Some numbers) (Some (number_value given.only)) o) (asked_is z before (carries given.only needed.only)) holds.0);
            covered = sym (number_leq needed.only y) ∙ covering.0;
            own_hold = subst (λ (P : Type 0). P) (sym (own_path (number_value z ∷ before) own given.only needed.only)) holds.1;
          };
        }

    -- What keeps the constraint into the part is at least what the part is asked for.
    keeps_asked : (z : Number) (before after : Row) (given needed p : Number) → KeepsInto no_types n (loop_net l) f (number_value z ∷ before) after (carries given needed) 0 (number_value p ∷ []) → IsTrue (numeric.number_leq (asks z) p)
    keeps_asked z before after given needed p keeps =
        let kept = keeps (constraint (greater.Inner 0 0) l.asked) (inl refl) refl in
        let at : IsAtLeast no_types (Some numbers) (Some (number_value p)) (value_of l.asked (step_reads (wired l) f (number_value z ∷ before) (carries given needed) (greater.Inner 0 0))) =
        subst (λ (net : Wiring). Satisfied no_types net (own_values net after) (carries p needed) (step_reads net f (number_value z ∷ before) (carries given needed) (greater.Inner 0 0)) (constraint (greater.Inner 0 0) l.asked)) (wiring_is l) kept in
        number_at_least p (asks z) (subst (λ (o : Option Value). IsAtLeast no_types (Some numbers) (Some (number_value p)) o) (asked_is z before (carries given needed)) at)

    -- A step is tight where the part is given just what it is asked for, and needs a minimum.
    pub tight_by : (z y : Number) (before own : Row) (needed : Number) → IsTrue (numeric.is_number (asks z)) → StepsInBy no_types n (loop_net l) f (number_value z ∷ before) (number_value y ∷ own) (carries (asks z) needed)
        → IsMinimumIn no_types n l.inner (number_value (asks z) ∷ []) (number_value needed ∷ []) → IsTight no_types n (loop_net l) f (number_value z ∷ before) (number_value y ∷ own) (carries (asks z) needed)
    tight_by z y before own needed asks_valid steps minimum = record { steps = steps; tight = at }
      where
        least : (row : Row) → IsTrue (row_fits no_types (port_kinds (provided_ports l.inner)) row) → IsTrue (row_leq no_types (port_kinds (provided_ports l.inner)) row (number_value (asks z) ∷ []))
            → KeepsInto no_types n (loop_net l) f (number_value z ∷ before) (number_value y ∷ own) (carries (asks z) needed) 0 row → row ≡ number_value (asks z) ∷ []
        least row fit below keeps =
            let p = as_one row (subst (λ (ks : List Kind). IsTrue (row_fits no_types ks row)) l.inner_provides fit) in
            let low = subst (λ (ks : List Kind). IsTrue (row_leq no_types ks row (number_value (asks z) ∷ []))) l.inner_provides below in
            let no_more = one_leq p.only (asks z) (subst (λ (r : Row). IsTrue (row_leq no_types (numbers ∷ []) r (number_value (asks z) ∷ []))) p.row_is low) in
            let no_less = keeps_asked z before (number_value y ∷ own) (asks z) needed p.only
            (subst (KeepsInto no_types n (loop_net l) f (number_value z ∷ before) (number_value y ∷ own) (carries (asks z) needed) 0) p.row_is keeps) in
            p.row_is ∙ ap (λ (m : Number). number_value m ∷ []) (numeric_laws.number_laws.antisymmetric p.only (asks z) p.valid asks_valid no_more no_less)

        at : (i : ℕ) (p : Part) (c : Carried) → slice_get (part l.name l.inner ∷ []) i ≡ Some p → slice_get (carries (asks z) needed) i ≡ Some c
            → IsTightAt no_types n (loop_net l) f (number_value z ∷ before) (number_value y ∷ own) (carries (asks z) needed) i p c
        at (suc i) p c p_at c_at = absurd (cc)
        at zero p c p_at c_at =
            let p_is : part l.name l.inner ≡ p = cc in
            let c_is : record { provided = number_value (asks z) ∷ []; required = number_value needed ∷ [] } ≡ c = cc in
            subst (λ (q : Part). IsTightAt no_types n (loop_net l) f (number_value z ∷ before) (number_value y ∷ own) (carries (asks z) needed) 0 q c) p_is
            (subst (λ (d : Carried). IsTightAt no_types n (loop_net l) f (number_value z ∷ before) (number_value y ∷ own) (carries (asks z) needed) 0 (part l.name l.inner) d) c_is
            (record { minimal = least; answer = minimum }))

    -- The last step of a chain.
    pub record LastStep (k : ℕ) (y : Number) (own : Row) : Type 0 where
      pub cut : Number
      pub before : Row
      pub cut_valid : IsTrue (numeric.is_number cut)
      pub ends : EndsIn no_types n (loop_net l) f k (number_value cut ∷ before)
      pub below : IsTrue (row_leq no_types (numbers ∷ port_kinds l.requires_) (number_value cut ∷ before) (number_value y ∷ own))
      pub given : Number
      pub needed : Number
      pub given_valid : IsTrue (numeric.is_number given)
      pub needed_valid : IsTrue (numeric.is_number needed)
      pub step : LoopStep cut y own given needed

    pub last_step : (k : ℕ) (y : Number) (own : Row) → EndsIn no_types n (loop_net l) f (suc k) (number_value y ∷ own) → LastStep k y own
    last_step k y own chain =
        let s = as_state chain.0 chain.3.1.before_is in
        let some = of_step s.cut y s.own own chain.3.0 (subst (λ (x : Row). StepsInBy no_types n (loop_net l) f x (number_value y ∷ own) chain.3.0) s.is chain.3.1) in
        record {
          cut = s.cut;
          before = s.own;
          cut_valid = s.cut_valid;
          ends = subst (EndsIn no_types n (loop_net l) f k) s.is chain.1;
          below = rw order_of_states at (subst (λ (x : Row). IsTrue (state_leq no_types (wiring (loop_net l)) x (number_value y ∷ own))) s.is chain.2);
          given = some.given;
          needed = some.needed;
          given_valid = some.given_valid;
          needed_valid = some.needed_valid;
          step = some.step;
        }

    -- A chain with a further step.
    pub longer : (k : ℕ) (z y : Number) (before own : Row) (given needed : Number) → EndsIn no_types n (loop_net l) f k (number_value z ∷ before)
        → IsTrue (row_fits no_types (numbers ∷ port_kinds l.requires_) (number_value z ∷ before)) → IsTrue (row_fits no_types (numbers ∷ port_kinds l.requires_) (number_value y ∷ own))
        → IsTrue (row_leq no_types (numbers ∷ port_kinds l.requires_) (number_value z ∷ before) (number_value y ∷ own)) → LoopStep z y own given needed
        → EndsIn no_types n (loop_net l) f (suc k) (number_value y ∷ own)
    longer k z y before own given needed chain before_is after_is below step = (
      number_value z ∷ before,
      chain,
      rw order_of_states below,
      (carries given needed, step_by z y before own given needed (rw states_are before_is) (rw states_are after_is) step),
    )

    -- What is feasible in n rounds stands at the end of a chain of n steps.
    pub record SomeEnd (r : Row) : Type 0 where
      pub cut : Number
      pub cut_valid : IsTrue (numeric.is_number cut)
      pub ends : EndsIn no_types n (loop_net l) f n (number_value cut ∷ r)

    pub some_end : (k : ℕ) → n ≡ suc k → (r : Row) → IsFeasibleIn no_types n (design_of (loop_net l)) f r → SomeEnd r
    some_end k more r feasible =
        let some = (rw IsFeasibleIn-Net at feasible).1 in
        let chain = subst (λ (m : ℕ). EndsIn no_types n (loop_net l) f m some.state) more some.ends in
        let s = as_state some.state chain.3.1.after_is in
        let own : s.own ≡ r = sym ((own_is l) (number_value s.cut) s.own) ∙ (ap (own_values (wiring (loop_net l))) (sym s.is) ∙ some.own) in
        record {
          cut = s.cut;
          cut_valid = s.cut_valid;
          ends = subst (λ (x : Row). EndsIn no_types n (loop_net l) f n (number_value s.cut ∷ x)) own (subst (EndsIn no_types n (loop_net l) f n) s.is some.ends);
        }

    pub end_is_feasible : (z : Number) (r : Row) → Fit no_types l.provides l.requires_ f r → EndsIn no_types n (loop_net l) f n (number_value z ∷ r) → IsFeasibleIn no_types n (design_of (loop_net l)) f r
    end_is_feasible z r fit chain = rw IsFeasibleIn-Net (fit, record { state = number_value z ∷ r; ends = chain; own = (own_is l) (number_value z) r })
