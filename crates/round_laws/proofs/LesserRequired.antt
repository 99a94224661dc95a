-- Where the parts provide the same and require less, a step stays one.
use Rattle.std.specs.Prelude.{◌≡◌, ℕ, zero, suc, Bool, true, false, cond, ◌&&◌, IsTrue, IsSomeAnd, List, [], ◌∷◌, map, Option, Some}
use Rattle.std.proofs.Common.{refl, sym, ap, subst, inl, inr}
use Rattle.order_core.specs.Members.{IsMember}
use Rattle.order_core.specs.MemberLaws.{first, second}
use Rattle.order_core.specs.Pointwise.{Each, Pointwise}
use Rattle.order_core.specs.PointwiseLaws.{each_got, each_weaker}
use Rattle.order_core.specs.Tuple.{tuple_leq}
use Rattle.value_type.specs.declared.kind.Kind.{Kind}
use Rattle.value_type.specs.declared.poset.Types.{Types}
use Rattle.value_type.specs.declared.value.Value.{Value}
use Rattle.value_type.specs.Fits.{fits, row_fits}
use Rattle.value_type.specs.KindOrderLaws.{kind_laws, row_laws}
use Rattle.value_type.specs.Leq.{leq, row_leq}
use Rattle.value_type.specs.PortKinds.{port_kinds}
use Rattle.design_model.specs.declared.design.Part.{Part}
use Rattle.design_model.specs.declared.expr.Constraint.{Constraint}
use Rattle.design_model.specs.declared.expr.Greater.{Greater}
use Rattle.design_model.specs.declared.expr.Greater.TheVariants as greater
use Rattle.design_model.specs.Cuts.{Signal, cut_signals, is_cut_read}
use Rattle.design_model.specs.Parts.{provided_ports, required_ports}
use Rattle.design_model.specs.Reading.{reads_port}
use Rattle.design_model.specs.Rows.{Row}
use Rattle.design_model.specs.Step.{is_state, cut_values, signal_kinds, signal_value, step_reads, IsCovered}
use Rattle.design_model.specs.Typed.{ConstraintIsTyped}
use Rattle.design_model.specs.ValueOf.{port_at}
use Rattle.design_model.specs.Wiring.{Wiring, Carried, provided_rows, required_rows, kind_at, readable, greater_value, Satisfied}
use Rattle.design_model.specs.ValuesInOrder.{ReadsLeq}
use Rattle.model_laws.specs.SatisfiedLaws.{CarriedFits, greater_rises, satisfied_rises}
use Rattle.model_laws.specs.SignalLaws.{IsInPlace, cut_in_place, is_cut_signal, signals_at}
use Rattle.model_laws.specs.StepLaws.{cut_fits}
use Rattle.design_model.specs.ValuesInOrder.{ValuesLeq}
use Rattle.design_model.specs.ValuesInOrderLaws.{itself, row_at, rows_at}

-- Each row is at most its partner.
abbrev pub AreRowsLeq : Types → List (List Kind) → List Row → List Row → Type 0
AreRowsLeq t [] [] [] = Unit {0}
AreRowsLeq t (ks ∷ kinds) (x ∷ xs) (y ∷ ys) = IsTrue (row_leq t ks x y) × AreRowsLeq t kinds xs ys
AreRowsLeq _ _ _ _ = ⊥

-- So are the values at each port.
ports_leq : (t : Types) (kinds : List (List Kind)) (xs ys : List Row) (i j : ℕ) (k : Kind) → Pointwise (λ ks row. IsTrue (row_fits t ks row)) kinds xs → Pointwise (λ ks row. IsTrue (row_fits t ks row)) kinds ys
    → AreRowsLeq t kinds xs ys → kind_at kinds i j ≡ Some k → ValuesLeq t k (port_at xs i j) (port_at ys i j)
ports_leq t [] xs ys i j k xs_fit ys_fit l e = absurd (cc)
ports_leq t (ks ∷ kinds) [] ys i j k xs_fit ys_fit l e = absurd xs_fit
ports_leq t (ks ∷ kinds) (x ∷ xs) [] i j k xs_fit ys_fit l e = absurd ys_fit
ports_leq t (ks ∷ kinds) (x ∷ xs) (y ∷ ys) zero j k xs_fit ys_fit l e = rows_at t ks x y j k xs_fit.0 ys_fit.0 l.0 e
ports_leq t (ks ∷ kinds) (x ∷ xs) (y ∷ ys) (suc i) j k xs_fit ys_fit l e = ports_leq t kinds xs ys i j k xs_fit.1 ys_fit.1 l.1 e

-- The part carries at most this, at its provided and at its required ports.
abbrev pub carried_leq : Types → Part → Carried → Carried → Bool
carried_leq t p c d = row_leq t (port_kinds (provided_ports p.design)) c.provided d.provided && row_leq t (port_kinds (required_ports p.design)) c.required d.required

pub required_leq : (t : Types) (parts : List Part) (lower upper : List Carried) → IsTrue (tuple_leq (map (carried_leq t) parts) lower upper)
    → AreRowsLeq t (map (λ p. port_kinds (required_ports p.design)) parts) (required_rows lower) (required_rows upper)
required_leq t [] [] [] h = tt
required_leq t [] [] (d ∷ upper) h = absurd (cc)
required_leq t [] (c ∷ lower) upper h = absurd (cc)
required_leq t (p ∷ parts) [] upper h = absurd (cc)
required_leq t (p ∷ parts) (c ∷ lower) [] h = absurd (cc)
required_leq t (p ∷ parts) (c ∷ lower) (d ∷ upper) h =
    (second (row_leq t (port_kinds (provided_ports p.design)) c.provided d.provided) _ (first _ _ h), required_leq t parts lower upper (second (carried_leq t p c d) _ h))

module _ (t : Types) (net : Wiring) (f x : Row) (carried lesser : List Carried) (typed : Each (ConstraintIsTyped t net) net.constraints) (f_fits : IsTrue (row_fits t net.provides f)) (x_is : IsTrue (is_state t net x))
    (fit : CarriedFits t net carried) (lesser_fit : CarriedFits t net lesser) (less : AreRowsLeq t net.required (required_rows lesser) (required_rows carried)) where
  -- A constraint reads no more: cut reads come from the state before.
  reads_fall : (c : Constraint) → IsMember c net.constraints → ReadsLeq t (readable net) (reads_port c.lower) (step_reads net f x lesser c.greater) (step_reads net f x carried c.greater)
  reads_fall c m = record {
    own = λ j k e. itself t k _ (row_at t net.provides f j k f_fits e);
    inner = λ i j k p e. cut_or_carried i j k p e (is_cut_read net c.greater i) refl;
  }
    where
      cut_or_carried : (i j : ℕ) (k : Kind) → IsTrue (reads_port c.lower i j) → (readable net).inner i j ≡ Some k → (b : Bool) → is_cut_read net c.greater i ≡ b
          → ValuesLeq t k (cond b (signal_value (cut_signals net) (cut_values net x) i j) (port_at (required_rows lesser) i j))
          (cond b (signal_value (cut_signals net) (cut_values net x) i j) (port_at (required_rows carried) i j))
      cut_or_carried i j k p e true cut =
          let cuts = cut_fits t net x x_is in
          signals_at t net.required (cut_signals net) (cut_values net x) (cut_values net x) (cut_in_place net) cuts cuts ((row_laws t (signal_kinds net)).reflexive (cut_values net x) cuts) i j k e
          (is_cut_signal net c m i j k e cut p)
      cut_or_carried i j k p e false uncut = ports_leq t net.required (required_rows lesser) (required_rows carried) i j k lesser_fit.required fit.required less e

  pub still_satisfied : (own : Row) → IsTrue (row_fits t net.requires_ own) → provided_rows lesser ≡ provided_rows carried
      → Each (λ c. Satisfied t net own carried (step_reads net f x carried c.greater) c) net.constraints → Each (λ c. Satisfied t net own lesser (step_reads net f x lesser c.greater) c) net.constraints
  still_satisfied own own_fit same = each_weaker _ _ net.constraints (λ c m. satisfied_rises t net c (each_got (ConstraintIsTyped t net) net.constraints c typed m) (reads_port c.lower) own own carried lesser
      (step_reads net f x carried c.greater) (step_reads net f x lesser c.greater)
      (λ k e. subst (λ (o : Option Value). ValuesLeq t k (greater_value own carried c.greater) o) (sym (same_greater c.greater))
      (greater_rises t net own own carried c.greater own_fit own_fit ((row_laws t net.requires_).reflexive own own_fit) fit k e))
      (reads_fall c m) (λ i j q. q))
    where
      same_greater : (g : Greater) → greater_value own lesser g ≡ greater_value own carried g
      same_greater (greater.Own j) = refl
      same_greater (greater.Inner i j) = ap (λ (rows : List Row). port_at rows i j) same

  pub still_covered : (signals : List Signal) (values : Row) → ((s : Signal) → IsMember s signals → IsInPlace net.required s) → IsTrue (row_fits t (map (λ s. s.kind) signals) values)
      → Pointwise (IsCovered t carried) signals values → Pointwise (IsCovered t lesser) signals values
  still_covered [] [] place values_fit h = tt
  still_covered [] (v ∷ values) place values_fit h = absurd h
  still_covered (s ∷ signals) [] place values_fit h = absurd h
  still_covered (s ∷ signals) (v ∷ values) place values_fit h =
      let at = ports_leq t net.required (required_rows lesser) (required_rows carried) s.part s.port s.kind lesser_fit.required fit.required less (place s (inl refl)) in
      let below : IsTrue (leq t s.kind at.high v) = subst (λ (o : Option Value). IsSomeAnd o (λ z. IsTrue (leq t s.kind z v))) at.high_is h.0 in
      let low : IsTrue (leq t s.kind at.low v) = (kind_laws t s.kind).transitive at.low at.high v at.low_fits at.high_fits (first _ _ values_fit) at.ordered below in (
        subst (λ (o : Option Value). IsSomeAnd o (λ z. IsTrue (leq t s.kind z v))) (sym at.low_is) low,
        still_covered signals values (λ z m. place z (inr m)) (second (fits t s.kind v) _ values_fit) h.1,
      )
