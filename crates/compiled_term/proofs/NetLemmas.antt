-- The term of a net is typed, and relates what the net's chains end in.
use Rattle.std.proofs.Common.{refl, sym, ap, subst, ◌∙◌, inl, inr, arith}
use Rattle.std.proofs.lemmas.List.{length-map, take-append-drop}
use Rattle.std.specs.Prelude.{◌≡◌, ◌+◌, ◌<◌, ◌≤◌, ◌++◌, ◌&&◌, ◌==◌, ℕ, zero, suc, Bool, true, false, cond, IsTrue, List, [], ◌∷◌, length, map, take, drop, Some, slice_get}
use Rattle.order_core.specs.ChainLaws.{chain_between, ends_are_states, ends_rise, stands_still}
use Rattle.order_core.specs.Chains.{EndsChain}
use Rattle.order_core.specs.Members.{IsMember}
use Rattle.order_core.specs.PartnerLaws.{are_values_length}
use Rattle.order_core.specs.Pointwise.{Each, Pointwise}
use Rattle.value_type.specs.Fits.{fits, row_fits}
use Rattle.value_type.specs.KindOrderLaws.{row_laws}
use Rattle.value_type.specs.Leq.{row_leq}
use Rattle.value_type.specs.RowLaws.{fits_together}
use Rattle.value_type.specs.declared.kind.Kind.{Kind}
use Rattle.value_type.specs.declared.poset.Types.{Types}
use Rattle.value_type.specs.declared.value.Value.{Value}
use Rattle.design_model.specs.Cuts.{Signal, cut_signals}
use Rattle.design_model.specs.Evaluation.{evaluation_order, numbers_from}
use Rattle.design_model.specs.Rounds.{SomeEnds}
use Rattle.design_model.specs.Rows.{Row}
use Rattle.design_model.specs.Step.{cut_values, is_state, own_values, signal_kinds, signal_value, state_kinds, state_leq}
use Rattle.design_model.specs.StepLaws.{Steps}
use Rattle.design_model.specs.ValuesInOrderLaws.{row_at}
use Rattle.design_model.specs.Wiring.{Carried, Wiring, kind_at, provided_rows, required_rows}
use Rattle.design_term.specs.Outcomes.{Keeps, Relates, values_at}
use Rattle.design_term.specs.OutcomesLaws.{Relates-Loop, Relates-Prim, Relates-Series}
use Rattle.design_term.specs.TermLaws.{term_monotone}
use Rattle.design_term.specs.TermTypes.{TermIsTyped}
use Rattle.design_term.specs.TermTypesLaws.{typed-Loop, typed-Prim, typed-Series}
use Rattle.design_term.specs.declared.term.Term.{Term}
use Rattle.expr_residual.specs.AppendLaws.{got_left, got_right}
use Rattle.model_laws.specs.SatisfiedLaws.{CarriedFits}
use Rattle.model_laws.specs.SignalLaws.{IsInPlace, cut_in_place, later, same_port, signal}
use Rattle.model_laws.specs.StateLaws.{join_drop, join_fits, own_leq}
use Rattle.model_laws.specs.StepLaws.{cut_fits, own_fits, states_in_order, steps_monotone}
use Rattle.compiled_term.specs.CompiledTerm.{given, in_turn, net_term, net_with, signal_place}
use Rattle.compiled_term.specs.Stages.{Compiled, stages}
use Rattle.compiled_term.specs.Wires.{wires_from}
use Rattle.compiled_term.proofs.GivenLemmas.{IsBody, IsGiven, given_stands, within_parts}
use Rattle.compiled_term.proofs.JoinLemmas.{Through, as_each, as_one}
use Rattle.compiled_term.proofs.RunLemmas.{Works, some_stages}
use Rattle.compiled_term.proofs.StageTypeLemmas.{stages_typed}
use Rattle.compiled_term.proofs.StepLemmas.{Gives, stages_step, step_stages}
use Rattle.compiled_term.proofs.TargetLemmas.{every_place, values_all}
use Rattle.compiled_term.proofs.WireLemmas.{Fit, kinds_from}

taken_at : (k : ℕ) (xs : Row) (i : ℕ) (x : Value) → slice_get (take k xs) i ≡ Some x → slice_get xs i ≡ Some x
taken_at zero xs i x e = absurd (cc)
taken_at (suc k) [] i x e = absurd (cc)
taken_at (suc k) (y ∷ xs) zero x e = e
taken_at (suc k) (y ∷ xs) (suc i) x e = taken_at k xs i x e

-- A signal's place has its type,
signal_kind : (required : List (List Kind)) (signals : List Signal) (i j : ℕ) (k : Kind) → ((s : Signal) → IsMember s signals → IsInPlace required s) → kind_at required i j ≡ Some k → IsMember (signal i j k) signals
    → slice_get (map (λ s. s.kind) signals) (signal_place signals i j) ≡ Some k
signal_kind required [] i j k place e m = absurd m
signal_kind required (s ∷ signals) i j k place e m = go ((s.part == i) && (s.port == j)) refl (λ n. signal_kind required signals i j k (λ z n. place z (inr n)) e n)
  where
    go : (b : Bool) → (s.part == i) && (s.port == j) ≡ b → (IsMember (signal i j k) signals → slice_get (map (λ s. s.kind) signals) (signal_place signals i j) ≡ Some k)
        → slice_get (s.kind ∷ map (λ s. s.kind) signals) (cond b 0 (signal_place signals i j + 1)) ≡ Some k
    go true same rest = let ports = same_port s i j same in
        sym (place s (inl refl)) ∙ (ap (λ m. kind_at required m s.port) ports.0 ∙ (ap (λ m. kind_at required i m) ports.1 ∙ e))
    go false other rest = let next : signal_place signals i j + 1 ≡ suc (signal_place signals i j) = omega arith in
        ap (slice_get (s.kind ∷ map (λ s. s.kind) signals)) next ∙ rest (later s signals i j k m other)

-- and in a row of the signals' values, its value.
signal_at : (signals : List Signal) (values : Row) (i j : ℕ) → length signals ≡ length values → slice_get values (signal_place signals i j) ≡ signal_value signals values i j
signal_at [] [] i j long = refl
signal_at [] (v ∷ values) i j long = absurd (omega (arith, long))
signal_at (s ∷ signals) [] i j long = absurd (omega (arith, long))
signal_at (s ∷ signals) (v ∷ values) i j long = go ((s.part == i) && (s.port == j)) (signal_at signals values i j (omega (arith, long)))
  where
    go : (b : Bool) → slice_get values (signal_place signals i j) ≡ signal_value signals values i j
        → slice_get (v ∷ values) (cond b 0 (signal_place signals i j + 1)) ≡ cond b (Some v) (signal_value signals values i j)
    go true rest = refl
    go false rest = let next : signal_place signals i j + 1 ≡ suc (signal_place signals i j) = omega arith in ap (slice_get (v ∷ values)) next ∙ rest

module _ (t : Types) (n : ℕ) (net : Wiring) (parts : List Compiled) (body : IsBody t net parts) where
  abbrev pub AllWork : List Carried → Type 0
  AllWork carried = Pointwise (Works t n) parts carried

  abbrev pub Feasible : Row → Row → Type 0
  Feasible f r = SomeEnds t net AllWork f n r

  abbrev Step : Row → Row → Row → Type 0
  Step f = Steps t net AllWork f

  provided_fit : (ps : List Compiled) (carried : List Carried) → Pointwise (Works t n) ps carried → Pointwise (λ kinds row. IsTrue (row_fits t kinds row)) (map (λ p. p.provided) ps) (provided_rows carried)
  provided_fit [] [] h = tt
  provided_fit [] (c ∷ carried) h = absurd h
  provided_fit (p ∷ ps) [] h = absurd h
  provided_fit (p ∷ ps) (c ∷ carried) h = (h.0.fit, provided_fit ps carried h.1)

  required_fit : (ps : List Compiled) → Each (λ p. TermIsTyped t p.term p.provided p.required) ps → (carried : List Carried) → Pointwise (Works t n) ps carried
      → Pointwise (λ kinds row. IsTrue (row_fits t kinds row)) (map (λ p. p.required) ps) (required_rows carried)
  required_fit [] typed [] h = tt
  required_fit [] typed (c ∷ carried) h = absurd h
  required_fit (p ∷ ps) typed [] h = absurd h
  required_fit (p ∷ ps) typed (c ∷ carried) h = ((term_monotone t n p.term p.provided p.required typed.0).fit c.provided c.required h.0.fit h.0.relates, required_fit ps typed.1 carried h.1)

  work_fits : (carried : List Carried) → AllWork carried → CarriedFits t net carried
  work_fits carried h = record { provided = rw body.provided (provided_fit parts carried h); required = rw body.required (required_fit parts body.terms carried h) }

  -- From what the net is given to the next state:
  module _ (kinds : List Kind) (is_given : IsGiven net kinds) where
    abbrev terms : List Term
    terms = stages (length kinds) (state_kinds net) parts (given net kinds) (evaluation_order net)

    many : 0 < length terms
    many = some_stages t n (length kinds) (state_kinds net) parts body.terms (given net kinds) (evaluation_order net)

    pub turn_typed : TermIsTyped t (in_turn net kinds parts) kinds (state_kinds net)
    turn_typed = as_one (TermIsTyped t) (λ a b x y h. rw typed-Series at h) (λ a b x y z h g. rw typed-Series (y, h, g)) terms kinds (state_kinds net) many
        (subst (λ (ks : List Kind). Through (TermIsTyped t) terms ks (state_kinds net)) (kinds_from 0 kinds)
        (stages_typed t (length kinds) (state_kinds net) parts body.terms (given net kinds) (evaluation_order net) (within_parts t net parts body kinds is_given) (given_stands t net parts body kinds is_given)))

    module _ (f before base : Row) (gives : Gives t net kinds f before base) where
      pub turn_step : IsTrue (is_state t net before) → (y : Row) → Relates t n (in_turn net kinds parts) base y → Step f before y
      turn_step before_is y rel = stages_step t n net parts body kinds is_given f before base gives before_is y (as_each (Relates t n) (λ a b x y h. rw Relates-Series at h) (λ a b x y z h g. rw Relates-Series (y, h, g)) terms base y many rel)

      pub step_turn : (y : Row) → Step f before y → Relates t n (in_turn net kinds parts) base y
      step_turn y step = as_one (Relates t n) (λ a b x y h. rw Relates-Series at h) (λ a b x y z h g. rw Relates-Series (y, h, g)) terms base y many (step_stages t n net parts body kinds is_given f before base gives y step)

  fit_given : (kinds : List Kind) (x : Row) → IsTrue (row_fits t kinds x) → Fit t (wires_from 0 kinds) x
  fit_given kinds x h = subst (λ (ks : List Kind). IsTrue (row_fits t ks x)) (sym (kinds_from 0 kinds)) h

  -- A net without cut signals is given its own provided values alone.
  module _ (none : cut_signals net ≡ []) where
    never : (s : Signal) → IsMember s (cut_signals net) → ⊥
    never s m = subst (λ (ss : List Signal). IsMember s ss) none m

    flat_given : IsGiven net net.provides
    flat_given = record { own = λ j k e. e; cut = λ i j k e m. absurd (never (signal i j k) m) }

    flat_gives : (f before : Row) → IsTrue (row_fits t net.provides f) → Gives t net net.provides f before f
    flat_gives f before h = record { fit = fit_given net.provides f h; own = λ j k e. refl; cut = λ i j k e m. absurd (never (signal i j k) m) }

    flat_kinds : state_kinds net ≡ net.requires_
    flat_kinds = ap (λ (ss : List Signal). map (λ s. s.kind) ss ++ net.requires_) none

    flat_typed : TermIsTyped t (in_turn net net.provides parts) net.provides net.requires_
    flat_typed = subst (λ (ks : List Kind). TermIsTyped t (in_turn net net.provides parts) net.provides ks) flat_kinds (turn_typed net.provides flat_given)

    flat_own : (y : Row) → own_values net y ≡ y
    flat_own y = ap (λ (ss : List Signal). drop (length ss) y) none

    flat_to : (f r : Row) → IsTrue (row_fits t net.provides f) → Relates t n (in_turn net net.provides parts) f r → Feasible f r
    flat_to f r h rel =
        let r_fits = (term_monotone t n (in_turn net net.provides parts) net.provides net.requires_ flat_typed).fit f r h rel in
        let r_is : IsTrue (is_state t net r) = subst (λ (ks : List Kind). IsTrue (row_fits t ks r)) (sym flat_kinds) r_fits in
        let step = turn_step net.provides flat_given f r f (flat_gives f r h) r_is r rel in
        record {
          state = r;
          ends = stands_still (is_state t net) (state_leq t net) (Step f) (λ x y v by. by.1.after_is) (states_in_order t net).reflexive n r r_is step;
          own = flat_own r;
        }

    last : (f : Row) (m : ℕ) → 1 ≤ m → (s : Row) → EndsChain (is_state t net) (state_leq t net) (Step f) m s → (z : Row) × Step f z s
    last f zero some s ends = absurd (omega (arith, some))
    last f (suc m) some s ends = (ends.0, ends.3)

    flat_from : 1 ≤ n → (f r : Row) → IsTrue (row_fits t net.provides f) → Feasible f r → Relates t n (in_turn net net.provides parts) f r
    flat_from some f r h feasible =
        let step = last f n some feasible.state feasible.ends in
        let same : feasible.state ≡ r = sym (flat_own feasible.state) ∙ feasible.own in
        subst (Relates t n (in_turn net net.provides parts) f) same (step_turn net.provides flat_given f step.0 f (flat_gives f step.0 h) feasible.state step.1)

  -- Another one is given these and a state.
  abbrev loop_kinds : List Kind
  loop_kinds = net.provides ++ state_kinds net

  loop_given : IsGiven net loop_kinds
  loop_given = record {
    own = λ j k e. got_left net.provides (state_kinds net) j k e;
    cut = λ i j k e m. got_right net.provides (state_kinds net) (signal_place (cut_signals net) i j)
        ∙ got_left (signal_kinds net) net.requires_ (signal_place (cut_signals net) i j) k (signal_kind net.required (cut_signals net) i j k (cut_in_place net) e m);
  }

  many_signals : (z : Row) → IsTrue (is_state t net z) → length (cut_signals net) ≡ length (cut_values net z)
  many_signals z z_is = sym (length-map (cut_signals net) (λ s. s.kind)) ∙ are_values_length (fits t) (signal_kinds net) (cut_values net z) (cut_fits t net z z_is)

  loop_gives : (f z : Row) → IsTrue (row_fits t net.provides f) → IsTrue (is_state t net z) → Gives t net loop_kinds f z (f ++ z)
  loop_gives f z h z_is = record {
    fit = fit_given loop_kinds (f ++ z) (fits_together t net.provides (state_kinds net) f z h z_is);
    own = λ j k e. let there = value_there net.provides f j k h e in got_left f z j there.0 there.1 ∙ sym there.1;
    cut = λ i j k e m.
        let there = value_there (signal_kinds net) (cut_values net z) (signal_place (cut_signals net) i j) k (cut_fits t net z z_is) (signal_kind net.required (cut_signals net) i j k (cut_in_place net) e m) in
        ap (λ m. slice_get (f ++ z) (m + signal_place (cut_signals net) i j)) (are_values_length (fits t) net.provides f h)
        ∙ (got_right f z (signal_place (cut_signals net) i j)
        ∙ (taken_at (length (cut_signals net)) z (signal_place (cut_signals net) i j) there.0 there.1
        ∙ (sym there.1 ∙ signal_at (cut_signals net) (cut_values net z) i j (many_signals z z_is))));
  }
    where
      value_there : (ks : List Kind) (x : Row) (i : ℕ) (k : Kind) → IsTrue (row_fits t ks x) → slice_get ks i ≡ Some k → (v : Value) × (slice_get x i ≡ Some v)
      value_there ks x i k h e = let at = row_at t ks x i k h e in (at.value, at.is)

  abbrev Body : Row → Row → Type 0
  Body x y = Relates t n (in_turn net loop_kinds parts) x y

  body_typed : TermIsTyped t (in_turn net loop_kinds parts) loop_kinds (state_kinds net)
  body_typed = turn_typed loop_kinds loop_given

  -- the own required values of a state
  own_kept : (m : Row) → IsTrue (is_state t net m) → values_at (numbers_from (length (cut_signals net)) (length net.requires_)) m ≡ Some (own_values net m)
  own_kept m m_is =
      let own : length net.requires_ ≡ length (own_values net m) = are_values_length (fits t) net.requires_ (own_values net m) (own_fits t net m m_is) in
      ap (λ a. values_at (numbers_from a (length net.requires_)) m) (many_signals m m_is)
      ∙ (ap (λ b. values_at (numbers_from (length (cut_values net m)) b) m) own
      ∙ (ap (λ (z : Row). values_at (numbers_from (length (cut_values net m)) (length (own_values net m))) z) (sym (take-append-drop (length (cut_signals net)) m))
      ∙ values_all (cut_values net m) (own_values net m)))

  module _ (f : Row) (h : IsTrue (row_fits t net.provides f)) where
    to_step : (z s : Row) → IsTrue (is_state t net z) → IsTrue (is_state t net s) → Body (f ++ z) s → Step f z s
    to_step z s z_is s_is body_leads = turn_step loop_kinds loop_given f z (f ++ z) (loop_gives f z h z_is) z_is s body_leads

    to_body : (z s : Row) → IsTrue (is_state t net z) → IsTrue (is_state t net s) → Step f z s → Body (f ++ z) s
    to_body z s z_is s_is step = step_turn loop_kinds loop_given f z (f ++ z) (loop_gives f z h z_is) s step

    body_states : (z s : Row) → IsTrue (is_state t net z) → Body (f ++ z) s → IsTrue (is_state t net s)
    body_states z s z_is body_leads = (term_monotone t n (in_turn net loop_kinds parts) loop_kinds (state_kinds net) body_typed).fit (f ++ z) s (fits_together t net.provides (state_kinds net) f z h z_is) body_leads

    -- A state that the loop ends in, with greater own required values,
    loop_to : (m r : Row) → EndsChain (is_state t net) (state_leq t net) (λ z s. Body (f ++ z) s) n m → Keeps t net.requires_ (numbers_from (length (cut_signals net)) (length net.requires_)) m r → Feasible f r
    loop_to m r loop keeps =
        let ends = chain_between (is_state t net) (state_leq t net) (λ z s. Body (f ++ z) s) body_states (Step f) to_step n m loop in
        let m_is = ends_are_states (is_state t net) (state_leq t net) (λ z s. Body (f ++ z) s) body_states n m loop in
        let least : IsTrue (row_leq t net.requires_ (own_values net m) r) = rw (own_kept m m_is) at keeps.at_least in
        let cuts = cut_fits t net m m_is in
        let new_is = join_fits t (cut_signals net) net.requires_ (cut_values net m) r cuts keeps.fits in
        let rises = own_leq t (cut_signals net) net.requires_ m r ((row_laws t (signal_kinds net)).reflexive (cut_values net m) cuts) m_is least in
        record {
          state = cut_values net m ++ r;
          ends = ends_rise (is_state t net) (state_leq t net) (Step f) (states_in_order t net) (steps_monotone t net AllWork body.constraints work_fits f h) n m (cut_values net m ++ r) ends new_is rises;
          own = join_drop t (cut_signals net) (cut_values net m) r cuts;
        }

    -- and the other way round.
    loop_from : (r : Row) → (feasible : Feasible f r) → EndsChain (is_state t net) (state_leq t net) (λ z s. Body (f ++ z) s) n feasible.state
        × Keeps t net.requires_ (numbers_from (length (cut_signals net)) (length net.requires_)) feasible.state r
    loop_from r feasible =
        let m = feasible.state in
        let states = λ (x y : Row) (v : IsTrue (is_state t net x)) (by : Step f x y). by.1.after_is in
        let m_is = ends_are_states (is_state t net) (state_leq t net) (Step f) states n m feasible.ends in
        let own = own_fits t net m m_is in
        let r_fits : IsTrue (row_fits t net.requires_ r) = subst (λ (x : Row). IsTrue (row_fits t net.requires_ x)) feasible.own own in
        let at_least : IsTrue (row_leq t net.requires_ (own_values net m) r) = subst (λ (x : Row). IsTrue (row_leq t net.requires_ (own_values net m) x)) feasible.own ((row_laws t net.requires_).reflexive (own_values net m) own) in (
          chain_between (is_state t net) (state_leq t net) (Step f) states (λ z s. Body (f ++ z) s) to_body n m feasible.ends,
          record { fits = r_fits; at_least = rw (own_kept m m_is) at_least },
        )

  -- The term of the net, by its cut signals.
  net_to : (signals : List Signal) → cut_signals net ≡ signals → (f r : Row) → IsTrue (row_fits t net.provides f) → Relates t n (net_with net parts signals) f r → Feasible f r
  net_to [] e f r h rel = flat_to e f r h rel
  net_to (s ∷ signals) e f r h rel =
      let series = rw Relates-Series at rel in
      loop_to f h series.0 r (rw Relates-Loop at series.1)
      (subst (λ (ss : List Signal). Keeps t net.requires_ (numbers_from (length ss) (length net.requires_)) series.0 r) (sym e) (rw Relates-Prim at series.2))

  net_from : (signals : List Signal) → cut_signals net ≡ signals → 1 ≤ n → (f r : Row) → IsTrue (row_fits t net.provides f) → Feasible f r → Relates t n (net_with net parts signals) f r
  net_from [] e some f r h feasible = flat_from e some f r h feasible
  net_from (s ∷ signals) e some f r h feasible =
      let both = loop_from f h r feasible in
      rw Relates-Series (
        feasible.state,
        rw Relates-Loop both.0,
        rw Relates-Prim (subst (λ (ss : List Signal). Keeps t net.requires_ (numbers_from (length ss) (length net.requires_)) feasible.state r) e both.1),
      )

  net_typed_with : (signals : List Signal) → cut_signals net ≡ signals → TermIsTyped t (net_with net parts signals) net.provides net.requires_
  net_typed_with [] e = flat_typed e
  net_typed_with (s ∷ signals) e =
      let many_kinds : length (signal_kinds net) ≡ suc (length signals) = length-map (cut_signals net) (λ s. s.kind) ∙ ap (λ (ss : List Signal). length ss) e in
      rw typed-Series (
        state_kinds net,
        rw typed-Loop (refl, body_typed),
        rw typed-Prim (refl, subst (λ m. Pointwise (λ place kind. slice_get (state_kinds net) place ≡ Some kind) (numbers_from m (length net.requires_)) net.requires_) many_kinds (every_place (signal_kinds net) net.requires_)),
      )

  -- The net's term is typed, and relates what some chain of the net ends in.
  pub net_term_typed : TermIsTyped t (net_term net parts) net.provides net.requires_
  net_term_typed = net_typed_with (cut_signals net) refl

  pub net_term_to : (f r : Row) → IsTrue (row_fits t net.provides f) → Relates t n (net_term net parts) f r → Feasible f r
  net_term_to = net_to (cut_signals net) refl

  pub net_term_from : 1 ≤ n → (f r : Row) → IsTrue (row_fits t net.provides f) → Feasible f r → Relates t n (net_term net parts) f r
  net_term_from = net_from (cut_signals net) refl
