-- Nets of one part that has one provided and one required port of one type, and is asked for something that depends on what it requires.
use Rattle.std.specs.Prelude.{◌≡◌, ℕ, Bool, false, nat_le, ◌&&◌, ◌||◌, ◌==◌, filter, map, drop, length, List, [], ◌∷◌, ◌++◌}
use Rattle.std.specs.List.{list_any}
use Rattle.std.proofs.Common.{refl, sym, ap, subst, ◌∙◌}
use Rattle.order_core.specs.Pointwise.{Each}
use Rattle.value_type.specs.declared.kind.Kind.{Kind}
use Rattle.value_type.specs.declared.port.Port.{Port}
use Rattle.value_type.specs.declared.poset.Types.{Types}
use Rattle.value_type.specs.declared.value.Value.{Value}
use Rattle.value_type.specs.Fits.{row_fits}
use Rattle.value_type.specs.Leq.{row_leq}
use Rattle.value_type.specs.PortKinds.{port_kinds}
use Rattle.design_model.specs.declared.design.Design.{Design}
use Rattle.design_model.specs.declared.expr.Constraint.{Constraint}
use Rattle.design_model.specs.declared.expr.Expr.{Expr}
use Rattle.design_model.specs.declared.expr.Greater.TheVariants as greater
use Rattle.design_model.specs.Cuts.{Signal, cut_signals, is_cut, is_cut_read, all_signals}
use Rattle.design_model.specs.Heights.{height, net_height, sum_all, values_at}
use Rattle.design_model.specs.HeightsLaws.{of_part}
use Rattle.design_model.specs.Evaluation.{evaluation_order, is_into, part_reads, place, turns}
use Rattle.design_model.specs.Parts.{provided_ports, required_ports}
use Rattle.design_model.specs.Reading.{reads_some, reads_part, reads_port}
use Rattle.design_model.specs.Rows.{Row}
use Rattle.design_model.specs.Steady.{NetOf, wiring}
use Rattle.design_model.specs.Step.{is_state, state_leq, own_values}
use Rattle.design_model.specs.Typed.{ConstraintIsTyped}
use Rattle.design_model.specs.Wiring.{Wiring}
use Rattle.model_examples.specs.Words.{part, constraint}

-- What the part is asked for reads its required port, and there is an expression for some own required ports.
pub record Loop (k : Kind) : Type 0 where
  pub provides : List Port
  pub requires_ : List Port
  pub name : List ℕ
  pub inner : Design
  pub inner_provides : port_kinds (provided_ports inner) ≡ k ∷ []
  pub inner_requires : port_kinds (required_ports inner) ≡ k ∷ []
  pub asked : Expr
  pub asked_reads : (test : ℕ → ℕ → Bool) → reads_some test asked ≡ test 0 0
  pub own : List (ℕ × Expr)

abbrev pub own_constraint : ℕ × Expr → Constraint
own_constraint e = constraint (greater.Own e.0) e.1

abbrev pub the_signal : Kind → Signal
the_signal k = record { part = 0; port = 0; kind = k }

-- No constraint on an own port leads into a part or reads across a cut.
own_not_into : (p q : ℕ) (own : List (ℕ × Expr)) → list_any (λ c. is_into p c.greater && reads_part c.lower q) (map own_constraint own) ≡ false
own_not_into p q [] = refl
own_not_into p q (e ∷ own) = own_not_into p q own

own_not_cut : (net : Wiring) (s : Signal) (own : List (ℕ × Expr)) → list_any (λ c. is_cut_read net c.greater s.part && reads_port c.lower s.part s.port) (map own_constraint own) ≡ false
own_not_cut net s [] = refl
own_not_cut net s (e ∷ own) = own_not_cut net s own

module _ {k : Kind} (l : Loop k) where
  abbrev pub constraints_of : List Constraint
  constraints_of = constraint (greater.Inner 0 0) l.asked ∷ map own_constraint l.own

  abbrev pub loop_net : NetOf
  loop_net = record { provides = l.provides; requires_ = l.requires_; parts = part l.name l.inner ∷ []; constraints = constraint (greater.Inner 0 0) l.asked ∷ map own_constraint l.own }

  abbrev pub wired : Wiring
  wired = record {
    provides = port_kinds l.provides;
    requires_ = port_kinds l.requires_;
    provided = (k ∷ []) ∷ [];
    required = (k ∷ []) ∷ [];
    constraints = constraint (greater.Inner 0 0) l.asked ∷ map own_constraint l.own;
  }

  pub wiring_is : wiring loop_net ≡ wired
  wiring_is = λ i. record {
    provides = port_kinds l.provides;
    requires_ = port_kinds l.requires_;
    provided = l.inner_provides i ∷ [];
    required = l.inner_requires i ∷ [];
    constraints = constraint (greater.Inner 0 0) l.asked ∷ map own_constraint l.own;
  }

  pub constraints_typed : (t : Types) → Each (ConstraintIsTyped t wired) constraints_of → Each (ConstraintIsTyped t (wiring loop_net)) constraints_of
  constraints_typed t = subst (λ (net : Wiring). Each (ConstraintIsTyped t net) constraints_of) (sym wiring_is)

  abbrev reads : ℕ → ℕ → Bool
  reads p q = ((0 == p) && (0 == q)) || false

  reads_are : part_reads constraints_of ≡ reads
  reads_are = λ i p q. ((0 == p) && l.asked_reads (λ a b. a == q) i) || own_not_into p q l.own i

  pub order_is : evaluation_order wired ≡ 0 ∷ []
  order_is = ap (λ (r : ℕ → ℕ → Bool). turns r 1 (0 ∷ [])) reads_are

  abbrev cut_in : List ℕ → Signal → Bool
  cut_in order s = (nat_le (place order 0) (place order s.part) && ((0 == s.part) && (0 == s.port))) || false

  cuts_are : is_cut wired ≡ cut_in (0 ∷ [])
  cuts_are = λ i s. (nat_le (place (order_is i) 0) (place (order_is i) s.part) && l.asked_reads (λ a b. (a == s.part) && (b == s.port)) i) || own_not_cut wired s l.own i

  pub wired_signals : cut_signals wired ≡ the_signal k ∷ []
  wired_signals = ap (λ (cut : Signal → Bool). filter cut (all_signals wired.required)) cuts_are

  -- What the part requires is the one cut signal.
  pub signals_are : cut_signals (wiring loop_net) ≡ the_signal k ∷ []
  signals_are = ap cut_signals wiring_is ∙ wired_signals

  pub is_cut_somewhere : cut_signals (wiring loop_net) ≡ [] → ⊥
  is_cut_somewhere none = let wrong : the_signal k ∷ [] ≡ [] = sym signals_are ∙ none in cc

  -- The height of the net is that of the part's required port.
  pub height_is : (t : Types) → net_height t (wiring loop_net) (map (of_part t) loop_net.parts) ≡ sum_all (height t k (values_at (map (of_part t) loop_net.parts) (the_signal k)) ∷ [])
  height_is t = ap (λ (ss : List Signal). sum_all (map (λ s. height t s.kind (values_at (map (of_part t) loop_net.parts) s)) ss)) signals_are

  -- A state has one value for the signal, and then the own values.
  pub states_are : (t : Types) → is_state t (wiring loop_net) ≡ row_fits t (k ∷ port_kinds l.requires_)
  states_are t = ap (is_state t) wiring_is ∙ (λ i. row_fits t (map (λ s. s.kind) (wired_signals i) ++ port_kinds l.requires_))

  pub order_of_states : (t : Types) → state_leq t (wiring loop_net) ≡ row_leq t (k ∷ port_kinds l.requires_)
  order_of_states t = ap (state_leq t) wiring_is ∙ (λ i. row_leq t (map (λ s. s.kind) (wired_signals i) ++ port_kinds l.requires_))

  pub wired_own : (v : Value) (own : Row) → own_values wired (v ∷ own) ≡ own
  wired_own v own = ap (λ (ss : List Signal). drop (length ss) (v ∷ own)) wired_signals

  pub own_is : (v : Value) (own : Row) → own_values (wiring loop_net) (v ∷ own) ≡ own
  own_is v own = ap (λ (net : Wiring). own_values net (v ∷ own)) wiring_is ∙ wired_own v own
