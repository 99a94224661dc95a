-- Steps are monotone.
use Rattle.std.specs.Prelude.{◌≡◌, ℕ, Bool, true, false, cond, IsTrue, IsSomeAnd, List, [], ◌∷◌, map, Option, Some, None}
use Rattle.std.proofs.Common.{refl, sym, subst, inl, inr}
use Rattle.order_core.specs.Chains.{IsMonotone}
use Rattle.order_core.specs.Members.{IsMember}
use Rattle.order_core.specs.MemberLaws.{first, second}
use Rattle.order_core.specs.Order.{IsOrder}
use Rattle.order_core.specs.Pointwise.{Each, Pointwise}
use Rattle.order_core.specs.PointwiseLaws.{each_got, each_weaker}
use Rattle.value_type.specs.declared.kind.Kind.{Kind}
use Rattle.value_type.specs.declared.poset.Types.{Types}
use Rattle.value_type.specs.declared.value.Value.{Value}
use Rattle.value_type.specs.Fits.{fits, row_fits}
use Rattle.value_type.specs.KindOrderLaws.{kind_laws, row_laws}
use Rattle.value_type.specs.Leq.{leq, row_leq}
use Rattle.design_model.specs.declared.expr.Constraint.{Constraint}
use Rattle.design_model.specs.Cuts.{Signal, cut_signals, is_cut_read}
use Rattle.design_model.specs.Reading.{reads_port}
use Rattle.design_model.specs.Rows.{Row}
use Rattle.design_model.specs.Step.{signal_kinds, state_kinds, is_state, state_leq, cut_values, own_values, signal_value, step_reads, IsCovered}
use Rattle.design_model.specs.StepLaws.{Steps}
use Rattle.design_model.specs.Typed.{ConstraintIsTyped}
use Rattle.design_model.specs.ValueOf.{port_at}
use Rattle.design_model.specs.Wiring.{Wiring, Carried, required_rows, readable}
use Rattle.design_model.specs.ValuesInOrder.{ReadsLeq, ValuesLeq, FitsAt}
use Rattle.design_model.specs.ValuesInOrderLaws.{itself, rows_at, part_row_at}
use Rattle.model_laws.specs.SatisfiedLaws.{CarriedFits, greater_rises, satisfied_rises}
use Rattle.model_laws.specs.SignalLaws.{cut_in_place, is_cut_signal, signals_at}
use Rattle.model_laws.specs.StateLaws.{split_fits, split_leq}

module _ (t : Types) (net : Wiring) where
  pub cut_fits : (s : Row) → IsTrue (is_state t net s) → IsTrue (row_fits t (signal_kinds net) (cut_values net s))
  cut_fits s h = (split_fits t (cut_signals net) net.requires_ s h).0

  pub own_fits : (s : Row) → IsTrue (is_state t net s) → IsTrue (row_fits t net.requires_ (own_values net s))
  own_fits s h = (split_fits t (cut_signals net) net.requires_ s h).1

  pub cut_leq : (x y : Row) → IsTrue (state_leq t net x y) → IsTrue (row_leq t (signal_kinds net) (cut_values net x) (cut_values net y))
  cut_leq x y h = (split_leq t (cut_signals net) net.requires_ x y h).0

  pub own_leq : (x y : Row) → IsTrue (state_leq t net x y) → IsTrue (row_leq t net.requires_ (own_values net x) (own_values net y))
  own_leq x y h = (split_leq t (cut_signals net) net.requires_ x y h).1

  pub states_in_order : IsOrder (is_state t net) (state_leq t net)
  states_in_order = row_laws t (state_kinds net)

  -- From a lesser state, and with lesser own provided values, a constraint reads less in a step.
  pub step_reads_fall : (f g x y : Row) (carried : List Carried) (c : Constraint) → IsMember c net.constraints → IsTrue (row_fits t net.provides f) → IsTrue (row_fits t net.provides g) → IsTrue (row_leq t net.provides g f)
      → IsTrue (is_state t net x) → IsTrue (is_state t net y) → IsTrue (state_leq t net x y) → CarriedFits t net carried
      → ReadsLeq t (readable net) (reads_port c.lower) (step_reads net g x carried c.greater) (step_reads net f y carried c.greater)
  step_reads_fall f g x y carried c m f_fits g_fits less x_is y_is l fit = record {
    own = λ j k e. rows_at t net.provides g f j k g_fits f_fits less e;
    inner = λ i j k p e. go i j k p e (is_cut_read net c.greater i) refl;
  }
    where
      go : (i j : ℕ) (k : Kind) → IsTrue (reads_port c.lower i j) → (readable net).inner i j ≡ Some k → (b : Bool) → is_cut_read net c.greater i ≡ b
          → ValuesLeq t k (cond b (signal_value (cut_signals net) (cut_values net x) i j) (port_at (required_rows carried) i j))
          (cond b (signal_value (cut_signals net) (cut_values net y) i j) (port_at (required_rows carried) i j))
      go i j k p e true q = signals_at t net.required (cut_signals net) (cut_values net x) (cut_values net y) (cut_in_place net) (cut_fits x x_is) (cut_fits y y_is) (cut_leq x y l) i j k e
          (is_cut_signal net c m i j k e q p)
      go i j k p e false q = itself t k _ (part_row_at t net.required (required_rows carried) i j k fit.required e)

-- What covers a signal's port still does where it is greater.
covered_rises : (t : Types) (net : Wiring) (carried : List Carried) (signals : List Signal) (xs ys : Row) → CarriedFits t net carried
    → ((s : Signal) → IsMember s signals → FitsAt t s.kind (port_at (required_rows carried) s.part s.port))
    → IsTrue (row_fits t (map (λ s. s.kind) signals) xs) → IsTrue (row_fits t (map (λ s. s.kind) signals) ys) → IsTrue (row_leq t (map (λ s. s.kind) signals) xs ys)
    → Pointwise (IsCovered t carried) signals xs → Pointwise (IsCovered t carried) signals ys
covered_rises t net carried [] [] [] fit there p q l h = tt
covered_rises t net carried [] [] (y ∷ ys) fit there p q l h = absurd (cc)
covered_rises t net carried [] (x ∷ xs) ys fit there p q l h = absurd (cc)
covered_rises t net carried (s ∷ signals) [] ys fit there p q l h = absurd (cc)
covered_rises t net carried (s ∷ signals) (x ∷ xs) [] fit there p q l h = absurd (cc)
covered_rises t net carried (s ∷ signals) (x ∷ xs) (y ∷ ys) fit there p q l h = (
  go (port_at (required_rows carried) s.part s.port) (there s (inl refl)) h.0,
  covered_rises t net carried signals xs ys fit (λ z m. there z (inr m)) (second (fits t s.kind x) _ p) (second (fits t s.kind y) _ q) (second (leq t s.kind x y) _ l) h.1,
)
  where
    go : (o : Option Value) → FitsAt t s.kind o → IsSomeAnd o (λ v. IsTrue (leq t s.kind v x)) → IsSomeAnd o (λ v. IsTrue (leq t s.kind v y))
    go None at k = absurd k
    go (Some v) at k =
        let same : v ≡ at.value = let e : Some v ≡ Some at.value = at.is in cc in
        (kind_laws t s.kind).transitive v x y (subst (λ (z : Value). IsTrue (fits t s.kind z)) (sym same) at.fits_kind) (first _ _ p) (first _ _ q) k (first _ _ l)

module _ (t : Types) (net : Wiring) (MayCarry : List Carried → Type 0) (typed : Each (ConstraintIsTyped t net) net.constraints) (may_fit : (carried : List Carried) → MayCarry carried → CarriedFits t net carried) where
  signal_fits : (carried : List Carried) → CarriedFits t net carried → (s : Signal) → IsMember s (cut_signals net) → FitsAt t s.kind (port_at (required_rows carried) s.part s.port)
  signal_fits carried fit s m = part_row_at t net.required (required_rows carried) s.part s.port s.kind fit.required (cut_in_place net s m)

  -- A lesser state steps wherever a greater one does, also with lesser own provided values.
  pub steps_fall : (f g x y z : Row) → IsTrue (row_fits t net.provides f) → IsTrue (row_fits t net.provides g) → IsTrue (row_leq t net.provides g f)
      → IsTrue (is_state t net x) → IsTrue (state_leq t net x y) → Steps t net MayCarry f y z → Steps t net MayCarry g x z
  steps_fall f g x y z f_fits g_fits less x_is l step =
      let carried = step.0 in
      let by = step.1 in
      let fit = may_fit carried by.may_carry in (
        carried,
        record {
          before_is = x_is;
          after_is = by.after_is;
          may_carry = by.may_carry;
          constraints = each_weaker _ _ net.constraints (λ c m. satisfied_rises t net c (each_got (ConstraintIsTyped t net) net.constraints c typed m) (reads_port c.lower) (own_values net z) (own_values net z) carried carried
              (step_reads net f y carried c.greater) (step_reads net g x carried c.greater)
              (λ k q. greater_rises t net (own_values net z) (own_values net z) carried c.greater (own_fits t net z by.after_is) (own_fits t net z by.after_is)
              ((row_laws t net.requires_).reflexive (own_values net z) (own_fits t net z by.after_is)) fit k q)
              (step_reads_fall t net f g x y carried c m f_fits g_fits less x_is by.before_is l fit) (λ i j q. q)) by.constraints;
          covered = by.covered;
        },
      )

  -- A step leads to all that is above what it leads to.
  pub steps_rise : (f x y z : Row) → IsTrue (row_fits t net.provides f) → IsTrue (is_state t net z) → IsTrue (state_leq t net y z) → Steps t net MayCarry f x y → Steps t net MayCarry f x z
  steps_rise f x y z f_fits z_is l step =
      let carried = step.0 in
      let by = step.1 in
      let fit = may_fit carried by.may_carry in (
        carried,
        record {
          before_is = by.before_is;
          after_is = z_is;
          may_carry = by.may_carry;
          constraints = each_weaker _ _ net.constraints (λ c m. satisfied_rises t net c (each_got (ConstraintIsTyped t net) net.constraints c typed m) (reads_port c.lower) (own_values net y) (own_values net z) carried carried
              (step_reads net f x carried c.greater) (step_reads net f x carried c.greater)
              (λ k q. greater_rises t net (own_values net y) (own_values net z) carried c.greater (own_fits t net y by.after_is) (own_fits t net z z_is) (own_leq t net y z l) fit k q)
              (step_reads_fall t net f f x x carried c m f_fits f_fits ((row_laws t net.provides).reflexive f f_fits) by.before_is by.before_is ((states_in_order t net).reflexive x by.before_is) fit)
              (λ i j q. q)) by.constraints;
          covered = covered_rises t net carried (cut_signals net) (cut_values net y) (cut_values net z) fit (signal_fits carried fit) (cut_fits t net y by.after_is) (cut_fits t net z z_is) (cut_leq t net y z l) by.covered;
        },
      )

  pub steps_monotone : (f : Row) → IsTrue (row_fits t net.provides f) → IsMonotone (is_state t net) (state_leq t net) (Steps t net MayCarry f)
  steps_monotone f f_fits = record {
    states = λ x y x_is step. step.1.after_is;
    falling = λ x y z x_is y_is l step. steps_fall f f x y z f_fits f_fits ((row_laws t net.provides).reflexive f f_fits) x_is l step;
    upward = λ x y z x_is z_is l step. steps_rise f x y z f_fits z_is l step;
  }
