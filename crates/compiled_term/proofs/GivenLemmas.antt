-- What stands before the first part is typed.
use Rattle.std.proofs.Common.{refl, sym, ap, subst, ◌∙◌, inl, inr, arith}
use Rattle.std.proofs.lemmas.Bool.Decides.{nat_tests}
use Rattle.std.proofs.lemmas.List.{length-map}
use Rattle.std.specs.List.{list_any}
use Rattle.std.specs.Prelude.{◌≡◌, ◌⊎◌, ◌+◌, ◌<◌, ◌++◌, ◌||◌, ◌==◌, ℕ, zero, suc, Bool, true, false, cond, IsTrue, List, [], ◌∷◌, length, map, Option, Some, None, slice_get}
use Rattle.cut_plan.specs.OrderLaws.{order_is}
use Rattle.order_core.specs.MemberLaws.{any_intro, mem-map}
use Rattle.order_core.specs.Members.{IsMember}
use Rattle.order_core.specs.Pointwise.{Each}
use Rattle.order_core.specs.PointwiseLaws.{each_got, each_made}
use Rattle.value_type.specs.SameFormLaws.{same_form_itself}
use Rattle.value_type.specs.declared.kind.Kind.{Kind}
use Rattle.value_type.specs.declared.poset.Types.{Types}
use Rattle.design_model.specs.Cuts.{Signal, cut_signals, is_cut_read}
use Rattle.design_model.specs.Evaluation.{evaluation_order, place}
use Rattle.design_model.specs.ExprKinds.{has_form}
use Rattle.design_model.specs.ExprLaws as laws
use Rattle.design_model.specs.ExprRisesLaws.{equal_self}
use Rattle.design_model.specs.Reading.{reads_port}
use Rattle.design_model.specs.Step.{state_kinds}
use Rattle.design_model.specs.Typed.{ConstraintIsTyped}
use Rattle.design_model.specs.ValueOf.{Reads}
use Rattle.design_model.specs.Wiring.{Wiring, greater_kind, kind_at, readable}
use Rattle.design_model.specs.declared.expr.Constraint.{Constraint}
use Rattle.design_model.specs.declared.expr.Greater.TheVariants as greater
use Rattle.design_model.specs.declared.expr.Greater.{Greater}
use Rattle.design_term.specs.TermTypes.{TermIsTyped}
use Rattle.expr_residual.specs.AppendLaws.{got_right, many_more, one_by_one}
use Rattle.expr_residual.specs.MovedLaws as moving
use Rattle.expr_residual.specs.MovedLaws.{moved_same}
use Rattle.model_laws.specs.SignalLaws.{cut_in_place, is_cut_signal, signal}
use Rattle.compiled_term.specs.CompiledTerm.{covers, cut_wire, given, over_wires, signal_place, state_port}
use Rattle.compiled_term.specs.Stages.{Compiled}
use Rattle.compiled_term.specs.Wires.{wires_from}
use Rattle.compiled_term.proofs.StageTypeLemmas.{append_each}
use Rattle.compiled_term.proofs.StandingLemmas.{IsStanding, IsWaiting, is_left, is_open, opened, stands_before, target_kind}
use Rattle.compiled_term.proofs.WireLemmas.{from_below, kind_from, wire_kind}

-- A net whose parts are compiled to these: their types are the net's, and constraints and terms are typed.
pub record IsBody (t : Types) (net : Wiring) (parts : List Compiled) : Type 0 where
  pub provided : net.provided ≡ map (λ p. p.provided) parts
  pub required : net.required ≡ map (λ p. p.required) parts
  pub constraints : Each (ConstraintIsTyped t net) net.constraints
  pub terms : Each (λ p. TermIsTyped t p.term p.provided p.required) parts

-- The types of what the net is given: those of the own provided ports, and then those of the cut signals.
pub record IsGiven (net : Wiring) (kinds : List Kind) : Type 0 where
  pub own : (j : ℕ) (k : Kind) → slice_get net.provides j ≡ Some k → slice_get kinds j ≡ Some k
  pub cut : (i j : ℕ) (k : Kind) → kind_at net.required i j ≡ Some k → IsMember (signal i j k) (cut_signals net) → slice_get kinds (length net.provides + signal_place (cut_signals net) i j) ≡ Some k

-- A part that stands before another one in the order of evaluation is open to it.
earlier_open : (order : List ℕ) (q i : ℕ) → IsMember i order → place order i < place order q → IsTrue (stands_before order q i)
earlier_open [] q i m l = absurd m
earlier_open (x ∷ order) q i m l = go (x == q) refl (x == i) refl l m (earlier_open order q i)
  where
    go : (b : Bool) → (x == q) ≡ b → (c : Bool) → (x == i) ≡ c → cond c 0 (place order i + 1) < cond b 0 (place order q + 1) → (i ≡ x) ⊎ IsMember i order
        → (IsMember i order → place order i < place order q → IsTrue (stands_before order q i)) → IsTrue (cond b false (c || stands_before order q i))
    go true same c e l m rest = absurd (omega (arith, l))
    go false other true e l m rest = refl
    go false other false e l (inl here) rest = absurd (let yes : (x == i) ≡ true = ap (λ n. x == n) here ∙ equal_self x in cc)
    go false other false e l (inr m) rest = rest m (omega (arith, l))

there_at : (rows : List (List Kind)) (i j : ℕ) (x : Kind) → kind_at rows i j ≡ Some x → i < length rows
there_at [] i j x e = absurd (cc)
there_at (row ∷ rows) zero j x e = omega arith
there_at (row ∷ rows) (suc i) j x e = let l = there_at rows i j x e in omega (arith, l)

pub cover_kind : (net : Wiring) (front signals : List Signal) (s : Signal) → cut_signals net ≡ front ++ s ∷ signals → slice_get (state_kinds net) (length front) ≡ Some s.kind
cover_kind net front signals s e = ap (λ (ss : List Signal). slice_get (map (λ s. s.kind) ss ++ net.requires_) (length front)) e ∙ go front
  where
    go : (front : List Signal) → slice_get (map (λ s. s.kind) (front ++ s ∷ signals) ++ net.requires_) (length front) ≡ Some s.kind
    go [] = refl
    go (x ∷ front) = go front

module _ (t : Types) (net : Wiring) (parts : List Compiled) (body : IsBody t net parts) (kinds : List Kind) (is_given : IsGiven net kinds) where
  abbrev start : ℕ
  start = length kinds

  abbrev Waits : Constraint → Type 0
  Waits = IsWaiting t start (state_kinds net) parts (wires_from 0 kinds) (evaluation_order net)

  pub as_many : length net.required ≡ length net.provided
  as_many = ap length body.required ∙ (length-map parts (λ p. p.required) ∙ (sym (length-map parts (λ p. p.provided)) ∙ sym (ap length body.provided)))

  pub in_order : (i : ℕ) → i < length net.provided → IsMember i (evaluation_order net)
  in_order i l = (order_is net).all i l

  pub is_required : (i j : ℕ) (k : Kind) → kind_at net.required i j ≡ Some k → IsMember i (evaluation_order net)
  is_required i j k e = in_order i (let l = there_at net.required i j k e in let many = as_many in omega (arith, l, many))

  pub is_provided : (i j : ℕ) (k : Kind) → kind_at net.provided i j ≡ Some k → IsMember i (evaluation_order net)
  is_provided i j k e = in_order i (there_at net.provided i j k e)

  among : (i : ℕ) → IsMember i (evaluation_order net) → IsTrue (list_any (λ q. q == i) (evaluation_order net))
  among i m = any_intro (λ q. q == i) (evaluation_order net) i m (equal_self i)

  pub given_kind : (j : ℕ) → wire_kind (wires_from 0 kinds) j ≡ slice_get kinds j
  given_kind j = let on : j ≡ 0 + j = omega arith in ap (wire_kind (wires_from 0 kinds)) on ∙ kind_from 0 kinds j

  required_kind : (i j : ℕ) → kind_at (map (λ p. p.required) parts) i j ≡ kind_at net.required i j
  required_kind i j = ap (λ rows. kind_at rows i j) (sym body.required)

  -- What isn't read by a cut read is read of a part that is open.
  pub uncut_open : (into : Greater) (k : Kind) → greater_kind net into ≡ Some k → (i j : ℕ) (kind : Kind) → kind_at net.required i j ≡ Some kind → is_cut_read net into i ≡ false → IsTrue (is_open (evaluation_order net) into i)
  uncut_open (greater.Own port) k there i j kind e out = among i (is_required i j kind e)
  uncut_open (greater.Inner q port) k there i j kind e out = earlier_open (evaluation_order net) q i (is_required i j kind e) (grind (arith, nat_tests, out))

  uncut_kind : (into : Greater) (k : Kind) → greater_kind net into ≡ Some k → (i j : ℕ) (kind : Kind) → kind_at net.required i j ≡ Some kind → is_cut_read net into i ≡ false
      → opened t start (state_kinds net) parts (evaluation_order net) (state_port (length (cut_signals net)) into) i j ≡ Some kind
  uncut_kind into k there i j kind e out = ap (λ b. cond b (kind_at (map (λ p. p.required) parts) i j) None) (same into (uncut_open into k there i j kind e out)) ∙ (required_kind i j ∙ e)
    where
      same : (g : Greater) → IsTrue (is_open (evaluation_order net) g i) → is_open (evaluation_order net) (state_port (length (cut_signals net)) g) i ≡ true
      same (greater.Own port) h = h
      same (greater.Inner q port) h = h

  -- Over the wires that are given, a constraint reads what it read.
  pub inner_agrees : (c : Constraint) → IsMember c net.constraints → (k : Kind) → greater_kind net c.greater ≡ Some k → (i j : ℕ) → IsTrue (reads_port c.lower i j) → (kind : Kind) → kind_at net.required i j ≡ Some kind
      → moving.kind_by t (λ j. j) (cut_wire net c.greater) (readable net) (record { own = wire_kind (wires_from 0 kinds); inner = opened t start (state_kinds net) parts (evaluation_order net) (state_port (length (cut_signals net)) c.greater) })
      (record { own = λ j. None; inner = λ i j. None }) (record { own = λ j. None; inner = λ i j. None }) (cut_wire net c.greater i j)
      (opened t start (state_kinds net) parts (evaluation_order net) (state_port (length (cut_signals net)) c.greater) i j) ≡ Some kind
  inner_agrees c m k there i j reads kind e = go (is_cut_read net c.greater i) refl
    where
      go : (b : Bool) → is_cut_read net c.greater i ≡ b
          → moving.kind_by t (λ j. j) (cut_wire net c.greater) (readable net) (record { own = wire_kind (wires_from 0 kinds); inner = opened t start (state_kinds net) parts (evaluation_order net) (state_port (length (cut_signals net)) c.greater) })
          (record { own = λ j. None; inner = λ i j. None }) (record { own = λ j. None; inner = λ i j. None }) (cond b (Some (length net.provides + signal_place (cut_signals net) i j)) None)
          (opened t start (state_kinds net) parts (evaluation_order net) (state_port (length (cut_signals net)) c.greater) i j) ≡ Some kind
      go true cut = given_kind (length net.provides + signal_place (cut_signals net) i j) ∙ is_given.cut i j kind e (is_cut_signal net c m i j kind e cut reads)
      go false out = uncut_kind c.greater k there i j kind e out

  pub own_agrees : (j : ℕ) (k : Kind) → slice_get net.provides j ≡ Some k → wire_kind (wires_from 0 kinds) j ≡ Some k
  own_agrees j k e = given_kind j ∙ is_given.own j k e

  constraint_waits : (c : Constraint) → IsMember c net.constraints → Waits (over_wires net c)
  constraint_waits c m =
      let nothing : Reads = record { own = λ j. None; inner = λ i j. None } in
      let typed = each_got (ConstraintIsTyped t net) net.constraints c body.constraints m in
      record {
        kind = typed.kind;
        port = port_kind c.greater typed.kind typed.greater;
        lower = (moved_same t (λ j. j) (cut_wire net c.greater) (readable net) (record { own = wire_kind (wires_from 0 kinds); inner = opened t start (state_kinds net) parts (evaluation_order net) (state_port (length (cut_signals net)) c.greater) })
            nothing nothing c.lower (λ j reads k e. (own_agrees j k e, refl)) (λ i j reads k e. (inner_agrees c m typed.kind typed.greater i j reads k e, none_by (cut_wire net c.greater i j))) typed.kind typed.lower).0;
        there = left_there c.greater typed.kind typed.greater;
      }
    where
      port_kind : (into : Greater) (k : Kind) → greater_kind net into ≡ Some k → target_kind t start (state_kinds net) parts (state_port (length (cut_signals net)) into) ≡ Some k
      port_kind (greater.Own j) k e =
          ap (λ m. slice_get (state_kinds net) (m + j)) (sym (length-map (cut_signals net) (λ s. s.kind))) ∙ (got_right (map (λ s. s.kind) (cut_signals net)) net.requires_ j ∙ e)
      port_kind (greater.Inner i j) k e = ap (λ rows. kind_at rows i j) (sym body.provided) ∙ e

      left_there : (into : Greater) (k : Kind) → greater_kind net into ≡ Some k → IsTrue (is_left (evaluation_order net) (state_port (length (cut_signals net)) into))
      left_there (greater.Own j) k e = refl
      left_there (greater.Inner i j) k e = among i (is_provided i j k e)

      none_by : (o : Option ℕ) → None ≡ moving.value_by t (λ j. j) (cut_wire net c.greater) (readable net) (record { own = wire_kind (wires_from 0 kinds); inner = opened t start (state_kinds net) parts (evaluation_order net) (state_port (length (cut_signals net)) c.greater) })
          (record { own = λ j. None; inner = λ i j. None }) (record { own = λ j. None; inner = λ i j. None }) o None
      none_by (Some wire) = refl
      none_by None = refl

  covers_wait : (front signals : List Signal) → cut_signals net ≡ front ++ signals → Each Waits (covers (length front) signals)
  covers_wait front [] e = tt
  covers_wait front (s ∷ signals) e =
      let place_is = cut_in_place net s (subst (IsMember s) (sym e) (within front)) in (
        record {
          kind = s.kind;
          port = cover_kind net front signals s e;
          lower = laws.kind-Inner t (record { own = wire_kind (wires_from 0 kinds); inner = opened t start (state_kinds net) parts (evaluation_order net) (greater.Own (length front)) }) s.part s.port s.kind
              ∙ subst (λ (o : Option Kind). IsTrue (has_form o s.kind)) (sym (ap (λ b. cond b (kind_at (map (λ p. p.required) parts) s.part s.port) None) (among s.part (is_required s.part s.port s.kind place_is)) ∙ (required_kind s.part s.port ∙ place_is)))
              (same_form_itself s.kind);
          there = refl;
        },
        subst (λ (n : ℕ). Each Waits (covers n signals)) (many_more front s) (covers_wait (front ++ s ∷ []) signals (e ∙ sym (one_by_one front s signals))),
      )
    where
      within : (front : List Signal) → IsMember s (front ++ s ∷ signals)
      within [] = inl refl
      within (x ∷ front) = inr (within front)

  pub given_stands : IsStanding t start (state_kinds net) parts (given net kinds) (evaluation_order net)
  given_stands = record {
    below = from_below 0 (length kinds) kinds (omega arith);
    waiting = append_each Waits (covers 0 (cut_signals net)) (map (over_wires net) net.constraints) (covers_wait [] (cut_signals net) refl)
        (each_made Waits (map (over_wires net) net.constraints) (λ d m. let from = mem-map (over_wires net) net.constraints d m in subst Waits (sym from.2) (constraint_waits from.0 from.1)));
  }

  pub within_parts : Each (λ p. p < length parts) (evaluation_order net)
  within_parts = each_made (λ p. p < length parts) (evaluation_order net) (λ p m.
      let l = (order_is net).below p m in let many : length net.provided ≡ length parts = ap length body.provided ∙ length-map parts (λ p. p.provided) in omega (arith, l, many))
