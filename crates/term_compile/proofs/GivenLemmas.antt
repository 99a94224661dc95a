-- What a net is given, by the list of its cut signals.
use Rattle.std.proofs.Common.{refl, sym, ap, ◌∙◌, inl, inr, arith}
use Rattle.std.proofs.lemmas.Bool.{ne_eqb}
use Rattle.std.proofs.lemmas.List.{length-map}
use Rattle.std.specs.Prelude.{◌≡◌, ℕ, ◌+◌, false, cond, ◌&&◌, ◌==◌, List, [], ◌∷◌, ◌++◌, length, map, Some, None}
use Rattle.compiled_term.specs.CompiledTerm.{covers, cut_wire, in_turn, net_term, net_with, over_wires, signal_place, state_port}
use Rattle.compiled_term.specs.Joined.{joined}
use Rattle.compiled_term.specs.Stages.{Compiled, stages}
use Rattle.compiled_term.specs.Wires.{wires_from}
use Rattle.cut_plan.specs.CutReads.{signal_at}
use Rattle.cut_plan.specs.declared.reads.Signal.{Signal}
use Rattle.design_model.specs.Cuts.{Signal as Typed, cut_signals, is_cut_read}
use Rattle.design_model.specs.Evaluation.{evaluation_order}
use Rattle.design_model.specs.Step.{state_kinds}
use Rattle.design_model.specs.Wiring.{Wiring, kind_at}
use Rattle.design_model.specs.declared.expr.Constraint.{Constraint}
use Rattle.design_model.specs.declared.expr.Expr.TheVariants as expr
use Rattle.design_model.specs.declared.expr.Greater.TheVariants as greater
use Rattle.design_model.specs.declared.expr.Greater.{Greater}
use Rattle.design_term.specs.declared.term.Term.{Term}
use Rattle.expr_residual.specs.Moved.{moved}
use Rattle.model_laws.specs.SignalLaws.{IsInPlace, cut_in_place}
use Rattle.order_core.specs.Members.{IsMember}
use Rattle.term_compile.proofs.StageLemmas.{wires_below}
use Rattle.term_compile.specs.Given.{IsPlanOf, covers_in, cut_wire_in, given_kinds, given_with, is_cut_in, looped, over_wires_in, place_among}
use Rattle.term_compile.specs.Stands.{standing_of}
use Rattle.term_compile.specs.declared.plan.Plan.{Plan}
use Rattle.value_type.specs.declared.kind.Kind.{Kind}

covers_are : (at : ℕ) (signals : List Typed) → covers_in at (map signal_at signals) ≡ covers at signals
covers_are at [] = refl
covers_are at (s ∷ signals) = ap (λ cs. record { greater = greater.Own at; lower = expr.Inner s.part s.port } ∷ cs) (covers_are (at + 1) signals)

places_are : (signals : List Typed) (part port : ℕ) → place_among (map signal_at signals) part port ≡ signal_place signals part port
places_are [] part port = refl
places_are (s ∷ signals) part port = ap (λ n. cond ((s.part == part) && (s.port == port)) 0 (n + 1)) (places_are signals part port)

cut_is : (net : Wiring) (into : Greater) (part : ℕ) → is_cut_in (evaluation_order net) into part ≡ is_cut_read net into part
cut_is net (greater.Own j) part = refl
cut_is net (greater.Inner i j) part = refl

wire_is : (net : Wiring) (into : Greater) (part port : ℕ) → cut_wire_in (length net.provides) (evaluation_order net) (map signal_at (cut_signals net)) into part port ≡ cut_wire net into part port
wire_is net into part port = λ i. cond (cut_is net into part i) (Some (length net.provides + places_are (cut_signals net) part port i)) None

over_wires_is : (net : Wiring) (c : Constraint) → over_wires_in (length net.provides) (evaluation_order net) (map signal_at (cut_signals net)) c ≡ over_wires net c
over_wires_is net c = λ i. record {
  greater = state_port (length-map (cut_signals net) signal_at i) c.greater;
  lower = moved (λ j. j) (λ part port. wire_is net c.greater part port i) c.lower;
}

pub waiting_are : (net : Wiring) (first : ℕ) (order : List ℕ) (signals : List Signal) (constraints : List Constraint)
    → first ≡ length net.provides → order ≡ evaluation_order net → signals ≡ map signal_at (cut_signals net)
    → covers_in 0 signals ++ map (over_wires_in first order signals) constraints ≡ covers 0 (cut_signals net) ++ map (over_wires net) constraints
waiting_are net first order signals constraints first_is order_is signals_are =
    (λ i. covers_in 0 (signals_are i) ++ map (over_wires_in (first_is i) (order_is i) (signals_are i)) constraints)
    ∙ (λ i. covers_are 0 (cut_signals net) i ++ map (λ c. over_wires_is net c i) constraints)

-- The types of signals that are in place are found there.
found : (required : List (List Kind)) (signals : List Typed) → ((s : Typed) → IsMember s signals → IsInPlace required s)
    → map (λ (s : Signal). kind_at required s.part s.port) (map signal_at signals) ≡ map Some (map (λ s. s.kind) signals)
found required [] all = refl
found required (s ∷ signals) all = λ i. all s (inl refl) i ∷ found required signals (λ s m. all s (inr m)) i

only_some : {A : Type 0} (xs ys : List A) → map Some xs ≡ map Some ys → xs ≡ ys
only_some [] [] e = refl
only_some [] (y ∷ ys) e = absurd (cc)
only_some (x ∷ xs) [] e = absurd (cc)
only_some (x ∷ xs) (y ∷ ys) e =
    let first : x ≡ y = cc in
    let rest : map Some xs ≡ map Some ys = cc in
    λ i. first i ∷ only_some xs ys rest i

pub kinds_are : (net : Wiring) (kinds : List Kind) (signals : List Signal) → signals ≡ map signal_at (cut_signals net)
    → map Some kinds ≡ map (λ (s : Signal). kind_at net.required s.part s.port) signals → kinds ≡ map (λ s. s.kind) (cut_signals net)
kinds_are net kinds signals are is =
    only_some kinds (map (λ s. s.kind) (cut_signals net)) (is ∙ (ap (map (λ (s : Signal). kind_at net.required s.part s.port)) are ∙ found net.required (cut_signals net) (cut_in_place net)))

some_signal : (s : Typed) (signals : List Typed) → (length (s ∷ signals) == 0) ≡ false
some_signal s signals = ne_eqb (length (s ∷ signals)) 0 (λ e. omega (arith, e))

pub given_is : (net : Wiring) (signals : ℕ) (state : List Kind) → signals ≡ length (cut_signals net) → state ≡ state_kinds net
    → cond (signals == 0) net.provides (net.provides ++ state) ≡ given_kinds net
given_is net signals state signals_are state_is = (λ i. cond (signals_are i == 0) net.provides (net.provides ++ state_is i)) ∙ at (cut_signals net)
  where
    at : (signals : List Typed) → cond (length signals == 0) net.provides (net.provides ++ state_kinds net) ≡ given_with net signals
    at [] = refl
    at (s ∷ signals) = rw (some_signal s signals) refl

-- The term of a net, by its plan.
pub net_is_looped : (net : Wiring) (parts : List Compiled) → net_term net parts ≡ looped (length (cut_signals net)) (state_kinds net) net.requires_ (in_turn net (given_kinds net) parts)
net_is_looped net parts = at (cut_signals net)
  where
    at : (signals : List Typed) → net_with net parts signals ≡ looped (length signals) (state_kinds net) net.requires_ (in_turn net (given_with net signals) parts)
    at [] = refl
    at (s ∷ signals) = rw (some_signal s signals) refl

-- What makes a plan that of the net.
pub planned : (net : Wiring) (plan : Plan) (first : ℕ) (signals : List Signal) (kinds : List Kind)
    → plan.order ≡ evaluation_order net → signals ≡ map signal_at (cut_signals net) → plan.signals ≡ length signals → plan.state ≡ state_kinds net
    → kinds ≡ cond (plan.signals == 0) net.provides (net.provides ++ plan.state)
    → plan.start ≡ 0 + length kinds → plan.given.next ≡ plan.start → plan.given.wires.items ≡ wires_from 0 kinds
    → first ≡ 0 + length net.provides → plan.given.waiting.items ≡ covers_in 0 signals ++ map (over_wires_in first plan.order signals) net.constraints
    → IsPlanOf net plan
planned net plan first signals kinds order_is signals_are count state_is kinds_is start_is next_is wires_are first_is waiting =
    let count_is : plan.signals ≡ length (cut_signals net) = count ∙ (ap length signals_are ∙ length-map (cut_signals net) signal_at) in
    let kinds_are : kinds ≡ given_kinds net = kinds_is ∙ given_is net plan.signals plan.state count_is state_is in
    let many : plan.start ≡ length kinds = omega (arith, start_is) in
    let first_at : first ≡ length net.provides = omega (arith, first_is) in
    record {
      order = order_is;
      signals = count_is;
      state = state_is;
      start = many ∙ ap length kinds_are;
      given = λ i. record {
        wires = (wires_are ∙ ap (wires_from 0) kinds_are) i;
        next = (next_is ∙ (many ∙ ap length kinds_are)) i;
        waiting = (waiting ∙ waiting_are net first plan.order signals net.constraints first_at order_is signals_are) i;
      };
      below = rw wires_are (wires_below plan.given.next 0 kinds (omega (arith, next_is, many)));
    }

-- The term of a net, by what its plan says.
pub net_by_plan : (net : Wiring) (parts : List Compiled) (plan : Plan) → IsPlanOf net plan → (required : List Kind) (body : Term) → required ≡ net.requires_
    → body ≡ joined (stages plan.start plan.state parts (standing_of plan.given) plan.order) → looped plan.signals plan.state required body ≡ net_term net parts
net_by_plan net parts plan is required body required_is body_is =
    (λ i. looped (is.signals i) (is.state i) (required_is i) ((body_is ∙ (λ j. joined (stages (is.start j) (is.state j) parts (is.given j) (is.order j)))) i))
    ∙ sym (net_is_looped net parts)
