-- The stages of a net lead from what is given to the next state exactly where a step of the net does.
use Rattle.std.proofs.Common.{refl, sym, ap, subst, ◌∙◌, inl, inr, arith}
use Rattle.std.proofs.Math.Seq.{get_or-append_seam}
use Rattle.std.proofs.lemmas.List.{length-map}
use Rattle.std.proofs.lemmas.Option.{slice_get-get_or}
use Rattle.std.specs.Prelude.{◌≡◌, ◌⊎◌, ◌+◌, ◌<◌, ◌++◌, ◌==◌, ℕ, zero, suc, Bool, true, false, cond, IsTrue, IsSomeAnd, List, [], ◌∷◌, length, map, take, drop, get_or, Option, Some, None, slice_get}
use Rattle.order_core.specs.MemberLaws.{map-mem, mem-left, mem-right}
use Rattle.order_core.specs.Members.{IsMember}
use Rattle.order_core.specs.Pointwise.{Each, Pointwise}
use Rattle.order_core.specs.PointwiseLaws.{each_got, each_made, pointwise_length}
use Rattle.value_type.specs.Fits.{row_fits}
use Rattle.value_type.specs.Leq.{leq}
use Rattle.value_type.specs.declared.kind.Kind.{Kind}
use Rattle.value_type.specs.declared.poset.Types.{Types}
use Rattle.value_type.specs.declared.value.Value.{Value}
use Rattle.design_model.specs.Cuts.{Signal, cut_signals, is_cut_read}
use Rattle.design_model.specs.Evaluation.{evaluation_order, numbers_from}
use Rattle.design_model.specs.ExprLaws as laws
use Rattle.design_model.specs.ExprRisesLaws.{equal_self}
use Rattle.design_model.specs.Reading.{reads_port}
use Rattle.design_model.specs.Rows.{Row}
use Rattle.design_model.specs.Step.{IsCovered, cut_values, is_state, own_values, signal_value, state_kinds, step_reads}
use Rattle.design_model.specs.StepLaws.{Steps}
use Rattle.design_model.specs.Typed.{ConstraintIsTyped}
use Rattle.design_model.specs.ValueOf.{Reads, port_at, value_of}
use Rattle.design_model.specs.Wiring.{Carried, IsAtLeast, Satisfied, Wiring, greater_kind, greater_value, kind_at, provided_rows, readable, required_rows}
use Rattle.design_model.specs.declared.expr.Constraint.{Constraint}
use Rattle.design_model.specs.declared.expr.Expr.TheVariants as expr
use Rattle.design_model.specs.declared.expr.Greater.TheVariants as greater
use Rattle.design_model.specs.declared.expr.Greater.{Greater}
use Rattle.design_term.specs.Outcomes.{Relates}
use Rattle.expr_residual.specs.AppendLaws.{got_next, got_right, many_more, one_by_one}
use Rattle.expr_residual.specs.MovedLaws as moving
use Rattle.expr_residual.specs.MovedLaws.{moved_same}
use Rattle.model_laws.specs.SignalLaws.{IsInPlace, cut_in_place, is_cut_signal, signal}
use Rattle.compiled_term.specs.CompiledTerm.{covers, cut_wire, given, over_wires, signal_place, state_port}
use Rattle.compiled_term.specs.Stages.{Compiled, nothing, stages}
use Rattle.compiled_term.specs.Wires.{wires_from}
use Rattle.compiled_term.proofs.GivenLemmas.{IsBody, IsGiven, cover_kind, given_stands, in_order, inner_agrees, is_provided, is_required, own_agrees, within_parts}
use Rattle.compiled_term.proofs.JoinLemmas.{Through}
use Rattle.compiled_term.proofs.RunLemmas.{IsMet, Works, at_least_same, items_of, provided_in, runs_from, runs_to, target_value}
use Rattle.compiled_term.proofs.StageTypeLemmas.{append_each}
use Rattle.compiled_term.proofs.StandingLemmas.{opened, part_at, target_kind}
use Rattle.compiled_term.proofs.WireLemmas.{Fit, equal, kinds_from, value_from, wire_kind, wire_value}
use Rattle.compiled_term.proofs.WorthLemmas.{Item, port_in}

abbrev nobody : Carried
nobody = record { provided = []; required = [] }

-- what a part carries, by its number
abbrev found : List Item → ℕ → Carried
found [] i = nobody
found (item ∷ items) i = cond (item.part == i) (record { provided = item.provided; required = item.required }) (found items i)

found_required : (items : List Item) (i j : ℕ) → port_in items i j ≡ slice_get (found items i).required j
found_required [] i j = refl
found_required (item ∷ items) i j = go (item.part == i) (found_required items i j)
  where
    go : (b : Bool) → port_in items i j ≡ slice_get (found items i).required j
        → cond b (slice_get item.required j) (port_in items i j) ≡ slice_get (cond b (record { provided = item.provided; required = item.required }) (found items i)).required j
    go true rest = refl
    go false rest = rest

found_provided : (items : List Item) (i j : ℕ) → provided_in items i j ≡ slice_get (found items i).provided j
found_provided [] i j = refl
found_provided (item ∷ items) i j = go (item.part == i) (found_provided items i j)
  where
    go : (b : Bool) → provided_in items i j ≡ slice_get (found items i).provided j
        → cond b (slice_get item.provided j) (provided_in items i j) ≡ slice_get (cond b (record { provided = item.provided; required = item.required }) (found items i)).provided j
    go true rest = refl
    go false rest = rest

-- The item of each number, in their order.
at_number : {A : Type 0} (f : ℕ → A) (from n i : ℕ) → i < n → slice_get (map f (numbers_from from n)) i ≡ Some (f (from + i))
at_number f from zero i l = absurd (omega (arith, l))
at_number f from (suc n) zero l = let here : from ≡ from + zero = omega arith in ap (λ m. Some (f m)) here
at_number f from (suc n) (suc i) l = let on : from + 1 + i ≡ from + suc i = omega arith in at_number f (from + 1) n i (omega (arith, l)) ∙ ap (λ m. Some (f m)) on

got_required : (carried : List Carried) (i j : ℕ) (c : Carried) → slice_get carried i ≡ Some c → port_at (required_rows carried) i j ≡ slice_get c.required j
got_required [] i j c e = absurd (cc)
got_required (x ∷ carried) zero j c e = let same : x ≡ c = cc in ap (λ (z : Carried). slice_get z.required j) same
got_required (x ∷ carried) (suc i) j c e = got_required carried i j c e

got_provided : (carried : List Carried) (i j : ℕ) (c : Carried) → slice_get carried i ≡ Some c → port_at (provided_rows carried) i j ≡ slice_get c.provided j
got_provided [] i j c e = absurd (cc)
got_provided (x ∷ carried) zero j c e = let same : x ≡ c = cc in ap (λ (z : Carried). slice_get z.provided j) same
got_provided (x ∷ carried) (suc i) j c e = got_provided carried i j c e

slice_drop : (k : ℕ) (xs : Row) (i : ℕ) → slice_get xs (k + i) ≡ slice_get (drop k xs) i
slice_drop zero xs i = let same : zero + i ≡ i = omega arith in ap (slice_get xs) same
slice_drop (suc k) [] i = refl
slice_drop (suc k) (x ∷ xs) i = let on : suc k + i ≡ suc (k + i) = omega arith in ap (slice_get (x ∷ xs)) on ∙ slice_drop k xs i

many_longer : (front rest : List Compiled) (p : Compiled) → length (front ++ p ∷ rest) ≡ length front + length rest + 1
many_longer [] rest p = omega arith
many_longer (q ∷ front) rest p = let on : suc (length front + length rest + 1) ≡ length (q ∷ front) + length rest + 1 = omega arith in ap suc (many_longer front rest p) ∙ on

-- What parts carry, listed in the order of evaluation and by their numbers, is the same for each part in the order.
record Agree (order : List ℕ) (items : List Item) (carried : List Carried) : Type 0 where
  required : (i j : ℕ) → IsMember i order → port_in items i j ≡ port_at (required_rows carried) i j
  provided : (i j : ℕ) → IsMember i order → provided_in items i j ≡ port_at (provided_rows carried) i j

-- What the net is given carries f and the cut signals' values of the state before.
pub record Gives (t : Types) (net : Wiring) (kinds : List Kind) (f before base : Row) : Type 0 where
  pub fit : Fit t (wires_from 0 kinds) base
  pub own : (j : ℕ) (k : Kind) → slice_get net.provides j ≡ Some k → slice_get base j ≡ slice_get f j
  pub cut : (i j : ℕ) (k : Kind) → kind_at net.required i j ≡ Some k → IsMember (signal i j k) (cut_signals net) → slice_get base (length net.provides + signal_place (cut_signals net) i j) ≡ signal_value (cut_signals net) (cut_values net before) i j

module _ (t : Types) (n : ℕ) (net : Wiring) (parts : List Compiled) (body : IsBody t net parts) (kinds : List Kind) (is_given : IsGiven net kinds) (f before base : Row) (gives : Gives t net kinds f before base) where
  abbrev order : List ℕ
  order = evaluation_order net

  abbrev start : ℕ
  start = length kinds

  abbrev AllWork : List Carried → Type 0
  AllWork carried = Pointwise (Works t n) parts carried

  given_value : (j : ℕ) → wire_value (wires_from 0 kinds) base j ≡ slice_get base j
  given_value j =
      let on : j ≡ 0 + j = omega arith in
      ap (wire_value (wires_from 0 kinds) base) on ∙ value_from t 0 kinds base j (subst (λ (ks : List Kind). IsTrue (row_fits t ks base)) (kinds_from 0 kinds) gives.fit)

  module _ (items : List Item) (carried : List Carried) (agree : Agree order items carried) (y : Row) where
    abbrev reads : Reads
    reads = record { own = wire_value (wires_from 0 kinds) base; inner = port_in items }

    abbrev Met : Constraint → Type 0
    Met c = IsMet t n start (state_kinds net) parts body.terms (wires_from 0 kinds) base items y c

    ports : (into : Greater) → target_kind t start (state_kinds net) parts (state_port (length (cut_signals net)) into) ≡ greater_kind net into
    ports (greater.Own j) = ap (λ m. slice_get (state_kinds net) (m + j)) (sym (length-map (cut_signals net) (λ s. s.kind))) ∙ got_right (map (λ s. s.kind) (cut_signals net)) net.requires_ j
    ports (greater.Inner i j) = ap (λ rows. kind_at rows i j) (sym body.provided)

    uppers : (into : Greater) (k : Kind) → greater_kind net into ≡ Some k → target_value items y (state_port (length (cut_signals net)) into) ≡ greater_value (own_values net y) carried into
    uppers (greater.Own j) k e = slice_drop (length (cut_signals net)) y j
    uppers (greater.Inner i j) k e = agree.provided i j (is_provided t net parts body kinds is_given i j k e)

    lowers : (c : Constraint) → IsMember c net.constraints → (typed : ConstraintIsTyped t net c) → value_of c.lower (step_reads net f before carried c.greater) ≡ value_of (over_wires net c).lower reads
    lowers c m typed =
        (moved_same t (λ j. j) (cut_wire net c.greater) (readable net) (record { own = wire_kind (wires_from 0 kinds); inner = opened t start (state_kinds net) parts order (state_port (length (cut_signals net)) c.greater) })
        (step_reads net f before carried c.greater) reads c.lower
        (λ j r k e. (own_agrees t net parts body kinds is_given j k e, sym (gives.own j k e) ∙ sym (given_value j)))
        (λ i j r k e. (inner_agrees t net parts body kinds is_given c m typed.kind typed.greater i j r k e, go i j k e r (is_cut_read net c.greater i) refl)) typed.kind typed.lower).1
      where
        go : (i j : ℕ) (k : Kind) → kind_at net.required i j ≡ Some k → IsTrue (reads_port c.lower i j) → (b : Bool) → is_cut_read net c.greater i ≡ b
            → cond b (signal_value (cut_signals net) (cut_values net before) i j) (port_at (required_rows carried) i j)
            ≡ moving.value_by t (λ j. j) (cut_wire net c.greater) (readable net) (record { own = wire_kind (wires_from 0 kinds); inner = opened t start (state_kinds net) parts order (state_port (length (cut_signals net)) c.greater) })
            (step_reads net f before carried c.greater) reads (cond b (Some (length net.provides + signal_place (cut_signals net) i j)) None) (port_in items i j)
        go i j k e r true cut = sym (gives.cut i j k e (is_cut_signal net c m i j k e cut r)) ∙ sym (given_value (length net.provides + signal_place (cut_signals net) i j))
        go i j k e r false out = sym (agree.required i j (is_required t net parts body kinds is_given i j k e))

    typed_at : (c : Constraint) → IsMember c net.constraints → ConstraintIsTyped t net c
    typed_at c m = each_got (ConstraintIsTyped t net) net.constraints c body.constraints m

    -- A constraint is met over the wires where it's satisfied in the step.
    met_holds : (c : Constraint) → IsMember c net.constraints → Met (over_wires net c) → Satisfied t net (own_values net y) carried (step_reads net f before carried c.greater) c
    met_holds c m h = let typed = typed_at c m in at_least_same t _ _ _ _ _ _ (ports c.greater) (uppers c.greater typed.kind typed.greater) (sym (lowers c m typed)) h

    holds_met : (c : Constraint) → IsMember c net.constraints → Satisfied t net (own_values net y) carried (step_reads net f before carried c.greater) c → Met (over_wires net c)
    holds_met c m h = let typed = typed_at c m in at_least_same t _ _ _ _ _ _ (sym (ports c.greater)) (sym (uppers c.greater typed.kind typed.greater)) (lowers c m typed) h

    port_read : (s : Signal) → IsInPlace net.required s → value_of (expr.Inner s.part s.port) reads ≡ port_at (required_rows carried) s.part s.port
    port_read s place = laws.value-Inner s.part s.port reads ∙ agree.required s.part s.port (is_required t net parts body kinds is_given s.part s.port s.kind place)

    -- What asks for a signal's value is met where the signal is covered.
    covered_by : (s : Signal) → IsInPlace net.required s → (at : ℕ) (v : Value) → slice_get (state_kinds net) at ≡ Some s.kind → slice_get y at ≡ Some v
        → IsAtLeast t (slice_get (state_kinds net) at) (slice_get y at) (value_of (expr.Inner s.part s.port) reads) → IsCovered t carried s v
    covered_by s place at v kind_is value_is h =
        let port : port_at (required_rows carried) s.part s.port ≡ Some h.below = sym (port_read s place) ∙ h.lower_is in
        let kind : h.kind ≡ s.kind = let e : Some h.kind ≡ Some s.kind = sym h.port_is ∙ kind_is in cc in
        let value : h.above ≡ v = let e : Some h.above ≡ Some v = sym h.upper_is ∙ value_is in cc in
        let least : IsTrue (leq t s.kind h.below v) = rw (kind, value) at h.at_least in
        rw port least

    covers_it : (s : Signal) → IsInPlace net.required s → (at : ℕ) (v : Value) → slice_get (state_kinds net) at ≡ Some s.kind → slice_get y at ≡ Some v → IsCovered t carried s v
        → IsAtLeast t (slice_get (state_kinds net) at) (slice_get y at) (value_of (expr.Inner s.part s.port) reads)
    covers_it s place at v kind_is value_is h = go (port_at (required_rows carried) s.part s.port) refl h
      where
        go : (o : Option Value) → port_at (required_rows carried) s.part s.port ≡ o → IsSomeAnd o (λ x. IsTrue (leq t s.kind x v))
            → IsAtLeast t (slice_get (state_kinds net) at) (slice_get y at) (value_of (expr.Inner s.part s.port) reads)
        go None e k = absurd k
        go (Some x) e k = record { kind = s.kind; above = v; below = x; port_is = kind_is; upper_is = value_is; lower_is = port_read s place ∙ e; at_least = k }

    signal_in_place : (front signals : List Signal) (s : Signal) → cut_signals net ≡ front ++ s ∷ signals → IsInPlace net.required s
    signal_in_place front signals s e = cut_in_place net s (subst (IsMember s) (sym e) (mem-right front (s ∷ signals) s (inl refl)))

    value_at : (front : List Signal) (passed ys : Row) (v : Value) → length front ≡ length passed → slice_get (passed ++ v ∷ ys) (length front) ≡ Some v
    value_at front passed ys v long = ap (slice_get (passed ++ v ∷ ys)) long ∙ got_next passed ys v

    no_value : (front : List Signal) (passed : Row) → length front ≡ length passed → slice_get (passed ++ []) (length front) ≡ None
    no_value front passed long =
        let on : length front ≡ length passed + 0 = omega (arith, long) in ap (slice_get (passed ++ [])) on ∙ got_right passed [] 0

    all_covered : (front signals : List Signal) (passed ys : Row) → length front ≡ length passed → cut_signals net ≡ front ++ signals → y ≡ passed ++ ys → Each Met (covers (length front) signals)
        → Pointwise (IsCovered t carried) signals (take (length signals) ys)
    all_covered front [] passed ys long e is h = tt
    all_covered front (s ∷ signals) passed [] long e is h = absurd (no_some h.0.above (sym h.0.upper_is ∙ (ap (λ z. slice_get z (length front)) is ∙ no_value front passed long)))
      where
        no_some : (v : Value) → Some v ≡ None → ⊥
        no_some v e = absurd (cc)
    all_covered front (s ∷ signals) passed (v ∷ ys) long e is h = (
      covered_by s (signal_in_place front signals s e) (length front) v (cover_kind net front signals s e) (ap (λ z. slice_get z (length front)) is ∙ value_at front passed ys v long) h.0,
      all_covered (front ++ s ∷ []) signals (passed ++ v ∷ []) ys (let a = many_more front s in let b = many_more passed v in omega (arith, a, b, long)) (e ∙ sym (one_by_one front s signals)) (is ∙ sym (one_by_one passed v ys))
          (subst (λ (m : ℕ). Each Met (covers m signals)) (sym (many_more front s)) h.1),
    )

    cover_all : (front signals : List Signal) (passed ys : Row) → length front ≡ length passed → cut_signals net ≡ front ++ signals → y ≡ passed ++ ys → Pointwise (IsCovered t carried) signals (take (length signals) ys)
        → Each Met (covers (length front) signals)
    cover_all front [] passed ys long e is h = tt
    cover_all front (s ∷ signals) passed [] long e is h = absurd h
    cover_all front (s ∷ signals) passed (v ∷ ys) long e is h = (
      covers_it s (signal_in_place front signals s e) (length front) v (cover_kind net front signals s e) (ap (λ z. slice_get z (length front)) is ∙ value_at front passed ys v long) h.0,
      subst (λ (m : ℕ). Each Met (covers m signals)) (many_more front s)
          (cover_all (front ++ s ∷ []) signals (passed ++ v ∷ []) ys (let a = many_more front s in let b = many_more passed v in omega (arith, a, b, long)) (e ∙ sym (one_by_one front s signals)) (is ∙ sym (one_by_one passed v ys)) h.1),
    )

    constraints_hold : Each Met (given net kinds).waiting → Each (λ c. Satisfied t net (own_values net y) carried (step_reads net f before carried c.greater) c) net.constraints
    constraints_hold met = each_made (λ c. Satisfied t net (own_values net y) carried (step_reads net f before carried c.greater) c) net.constraints (λ c m.
        met_holds c m (each_got Met (given net kinds).waiting (over_wires net c) met (mem-right (covers 0 (cut_signals net)) (map (over_wires net) net.constraints) (over_wires net c) (map-mem (over_wires net) net.constraints c m))))

    signals_covered : Each Met (given net kinds).waiting → Pointwise (IsCovered t carried) (cut_signals net) (cut_values net y)
    signals_covered met = all_covered [] (cut_signals net) [] y refl refl refl (each_made Met (covers 0 (cut_signals net)) (λ c m. each_got Met (given net kinds).waiting c met (mem-left (covers 0 (cut_signals net)) (map (over_wires net) net.constraints) c m)))

    all_met : Each (λ c. Satisfied t net (own_values net y) carried (step_reads net f before carried c.greater) c) net.constraints → Pointwise (IsCovered t carried) (cut_signals net) (cut_values net y) → Each Met (given net kinds).waiting
    all_met holds covered = append_each Met (covers 0 (cut_signals net)) (map (over_wires net) net.constraints) (cover_all [] (cut_signals net) [] y refl refl refl covered) (each_mapped net.constraints (λ c m. m) holds)
      where
        each_mapped : (cs : List Constraint) → ((c : Constraint) → IsMember c cs → IsMember c net.constraints) → Each (λ c. Satisfied t net (own_values net y) carried (step_reads net f before carried c.greater) c) cs
            → Each (IsMet t n (length kinds) (state_kinds net) parts body.terms (wires_from 0 kinds) base items y) (map (over_wires net) cs)
        each_mapped [] among h = tt
        each_mapped (c ∷ cs) among h = (holds_met c (among c (inl refl)) h.0, each_mapped cs (λ d m. among d (inr m)) h.1)

  -- By their numbers, what the parts carry in the order of evaluation.
  abbrev by_number : List Item → List Carried
  by_number items = map (found items) (numbers_from 0 (length parts))

  many_parts : length net.provided ≡ length parts
  many_parts = ap length body.provided ∙ length-map parts (λ p. p.provided)

  in_parts : (i : ℕ) → IsMember i order → i < length parts
  in_parts i m = each_got (λ p. p < length parts) order i (within_parts t net parts body kinds is_given) m

  number_found : (items : List Item) (i : ℕ) → i < length parts → slice_get (by_number items) i ≡ Some (found items i)
  number_found items i l = at_number (found items) 0 (length parts) i l ∙ (let same : 0 + i ≡ i = omega arith in ap (λ m. Some (found items m)) same)

  numbered_agree : (items : List Item) → Agree order items (by_number items)
  numbered_agree items = record {
    required = λ i j m. found_required items i j ∙ sym (got_required (by_number items) i j (found items i) (number_found items i (in_parts i m)));
    provided = λ i j m. found_provided items i j ∙ sym (got_provided (by_number items) i j (found items i) (number_found items i (in_parts i m)));
  }

  found_works : (left : List ℕ) (carried : List Carried) (i : ℕ) → Pointwise (λ p c. Works t n (part_at t start (state_kinds net) parts p) c) left carried → IsMember i left
      → Works t n (part_at t start (state_kinds net) parts i) (found (items_of left carried) i)
  found_works [] carried i works m = absurd m
  found_works (p ∷ left) [] i works m = absurd works
  found_works (p ∷ left) (c ∷ carried) i works m = go (p == i) refl (found_works left carried i works.1) m
    where
      go : (b : Bool) → (p == i) ≡ b → (IsMember i left → Works t n (part_at t (length kinds) (state_kinds net) parts i) (found (items_of left carried) i)) → (i ≡ p) ⊎ IsMember i left
          → Works t n (part_at t (length kinds) (state_kinds net) parts i) (cond b (record { provided = c.provided; required = c.required }) (found (items_of left carried) i))
      go true same rest m = subst (λ (q : ℕ). Works t n (part_at t (length kinds) (state_kinds net) parts q) c) (equal p i same) works.0
      go false other rest (inl here) = absurd (let yes : (p == i) ≡ true = ap (λ q. p == q) here ∙ equal_self p in cc)
      go false other rest (inr m) = rest m

  numbered_work : (carried : List Carried) → Pointwise (λ p c. Works t n (part_at t start (state_kinds net) parts p) c) order carried → AllWork (by_number (items_of order carried))
  numbered_work carried works = go [] parts refl
    where
      go : (front rest : List Compiled) → parts ≡ front ++ rest → Pointwise (Works t n) rest (map (found (items_of order carried)) (numbers_from (length front) (length rest)))
      go front [] e = tt
      go front (p ∷ rest) e =
          let here : length front < length parts = let many : length parts ≡ length (front ++ p ∷ rest) = ap length e in let longer = many_longer front rest p in omega (arith, many, longer) in
          let is : part_at t start (state_kinds net) parts (length front) ≡ p = ap (λ ps. get_or ps (length front) nothing) e ∙ get_or-append_seam front p rest nothing in (
            subst (λ (q : Compiled). Works t n q (found (items_of order carried) (length front))) is
                (found_works order carried (length front) works (in_order t net parts body kinds is_given (length front) (let many = many_parts in omega (arith, here, many)))),
            subst (λ (m : ℕ). Pointwise (Works t n) rest (map (found (items_of order carried)) (numbers_from m (length rest)))) (many_more front p) (go (front ++ p ∷ []) rest (e ∙ sym (one_by_one front p rest))),
          )

  -- In the order of evaluation, what the parts carry by their numbers.
  abbrev in_turn_of : List Carried → List ℕ → List Carried
  in_turn_of carried left = map (λ p. get_or carried p nobody) left

  works_at : (ps : List Compiled) (carried : List Carried) (i : ℕ) → Pointwise (Works t n) ps carried → i < length ps → Works t n (get_or ps i nothing) (get_or carried i nobody)
  works_at [] carried i works l = absurd (omega (arith, l))
  works_at (p ∷ ps) [] i works l = absurd works
  works_at (p ∷ ps) (c ∷ carried) zero works l = works.0
  works_at (p ∷ ps) (c ∷ carried) (suc i) works l = works_at ps carried i works.1 (omega (arith, l))

  turn_works : (left : List ℕ) (carried : List Carried) → Each (λ p. p < length parts) left → AllWork carried → Pointwise (λ p c. Works t n (part_at t start (state_kinds net) parts p) c) left (in_turn_of carried left)
  turn_works [] carried within works = tt
  turn_works (p ∷ left) carried within works = (works_at parts carried p works within.0, turn_works left carried within.1 works)

  turn_agree : (left : List ℕ) (carried : List Carried) (i : ℕ) → i < length carried → IsMember i left → found (items_of left (in_turn_of carried left)) i ≡ get_or carried i nobody
  turn_agree [] carried i l m = absurd m
  turn_agree (p ∷ left) carried i l m = go (p == i) refl (turn_agree left carried i l) m
    where
      go : (b : Bool) → (p == i) ≡ b → (IsMember i left → found (items_of left (map (λ p. get_or carried p nobody) left)) i ≡ get_or carried i nobody) → (i ≡ p) ⊎ IsMember i left
          → cond b (record { provided = (get_or carried p nobody).provided; required = (get_or carried p nobody).required }) (found (items_of left (map (λ p. get_or carried p nobody) left)) i) ≡ get_or carried i nobody
      go true same rest m = ap (λ q. get_or carried q nobody) (equal p i same)
      go false other rest (inl here) = absurd (let yes : (p == i) ≡ true = ap (λ q. p == q) here ∙ equal_self p in cc)
      go false other rest (inr m) = rest m

  ordered_agree : (carried : List Carried) → AllWork carried → Agree order (items_of order (in_turn_of carried order)) carried
  ordered_agree carried works = record {
    required = λ i j m. found_required (items_of order (in_turn_of carried order)) i j ∙ (ap (λ (c : Carried). slice_get c.required j) (turn_agree order carried i (there i m) m)
        ∙ sym (got_required carried i j (get_or carried i nobody) (slice_get-get_or carried i nobody (there i m))));
    provided = λ i j m. found_provided (items_of order (in_turn_of carried order)) i j ∙ (ap (λ (c : Carried). slice_get c.provided j) (turn_agree order carried i (there i m) m)
        ∙ sym (got_provided carried i j (get_or carried i nobody) (slice_get-get_or carried i nobody (there i m))));
  }
    where
      there : (i : ℕ) → IsMember i order → i < length carried
      there i m = let l = in_parts i m in let many : length parts ≡ length carried = pointwise_length (Works t n) parts carried works in omega (arith, l, many)

  abbrev Stages : Row → Type 0
  Stages y = Through (Relates t n) (stages start (state_kinds net) parts (given net kinds) order) base y

  -- The stages of the net, from what is given: a step of the net,
  pub stages_step : IsTrue (is_state t net before) → (y : Row) → Stages y → Steps t net AllWork f before y
  stages_step before_is y h =
      let run = runs_to t n start (state_kinds net) parts body.terms (given net kinds) order (within_parts t net parts body kinds is_given) (given_stands t net parts body kinds is_given) base y gives.fit h in
      let items = items_of order run.0 in
      let agree = numbered_agree items in (
        by_number items,
        record {
          before_is = before_is;
          after_is = run.1.fits;
          may_carry = numbered_work run.0 run.1.works;
          constraints = constraints_hold items (by_number items) agree y run.1.met;
          covered = signals_covered items (by_number items) agree y run.1.met;
        },
      )

  -- and each step.
  pub step_stages : (y : Row) → Steps t net AllWork f before y → Stages y
  step_stages y step =
      let carried = step.0 in
      let agree = ordered_agree step.0 step.1.may_carry in
      runs_from t n start (state_kinds net) parts body.terms (given net kinds) order (within_parts t net parts body kinds is_given) (given_stands t net parts body kinds is_given) base y gives.fit (in_turn_of carried order)
      (record {
        works = turn_works order carried (within_parts t net parts body kinds is_given) step.1.may_carry;
        fits = step.1.after_is;
        met = all_met (items_of order (in_turn_of carried order)) carried agree y step.1.constraints step.1.covered;
      })
