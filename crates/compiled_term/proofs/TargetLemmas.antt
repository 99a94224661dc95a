-- What the targets of a stage ask for is typed, and they ask for the values of the expressions that they came from.
use Rattle.std.proofs.Common.{refl, sym, ap, subst, ◌∙◌, arith}
use Rattle.std.specs.Prelude.{◌≡◌, ◌+◌, ◌++◌, ℕ, IsTrue, IsSomeAnd, List, [], ◌∷◌, length, Option, Some, None, slice_get}
use Rattle.order_core.specs.MemberLaws.{first, second, both}
use Rattle.order_core.specs.PartnerLaws.{are_values_length}
use Rattle.order_core.specs.Pointwise.{Each, Pointwise}
use Rattle.value_type.specs.Fits.{fits, row_fits}
use Rattle.value_type.specs.KindOrderLaws.{kind_laws}
use Rattle.value_type.specs.Leq.{leq, row_leq}
use Rattle.value_type.specs.SameFormLaws.{same_form_itself}
use Rattle.value_type.specs.declared.kind.Kind.{Kind}
use Rattle.value_type.specs.declared.poset.Types.{Types}
use Rattle.value_type.specs.declared.value.Value.{Value}
use Rattle.design_model.specs.Evaluation.{numbers_from}
use Rattle.design_model.specs.ExprKinds.{has_form, is_of_kind}
use Rattle.design_model.specs.ExprLaws as laws
use Rattle.design_model.specs.Rows.{Row}
use Rattle.design_model.specs.ValueOf.{Reads, reads_of, value_of, with_first}
use Rattle.design_model.specs.declared.expr.Expr.{Expr}
use Rattle.design_term.specs.Outcomes.{Keeps, Meets, values_at}
use Rattle.design_term.specs.TermTypes.{TargetIsTyped, places_of}
use Rattle.expr_residual.specs.AppendLaws.{got_next, many_more, one_by_one}
use Rattle.expr_residual.specs.Moved.{no_wire}
use Rattle.expr_residual.specs.MovedLaws.{moved_same}
use Rattle.expr_residual.specs.Plain.{plain}
use Rattle.compiled_term.specs.Stages.{new_wires, passed_on, targets_from}
use Rattle.compiled_term.specs.declared.wire.Wire.{Wire}
use Rattle.compiled_term.specs.declared.wire.WireValue.{WireValue}
use Rattle.compiled_term.specs.Wires.{place_of, placed, wire_kinds}
use Rattle.compiled_term.proofs.CarriedLemmas.{AreValues, wires_of}
use Rattle.compiled_term.proofs.WireLemmas.{Fit, place_kind, place_value, wire_kind, wire_value}

none_some : (k : Kind) → None ≡ Some k → ⊥
none_some k e = absurd (cc)

-- the values of a row at all places
pub values_all : (front x : Row) → values_at (numbers_from (length front) (length x)) (front ++ x) ≡ Some x
values_all front [] = refl
values_all front (v ∷ x) =
    (λ i. with_first (got_next front x v i) (values_at (numbers_from (length front + 1) (length x)) (front ++ v ∷ x)))
    ∙ ap (with_first (Some v)) (
    subst (λ (m : ℕ). values_at (numbers_from m (length x)) (front ++ v ∷ x) ≡ Some x) (many_more front v)
    (subst (λ (z : Row). values_at (numbers_from (length (front ++ v ∷ [])) (length x)) z ≡ Some x) (one_by_one front v x) (values_all (front ++ v ∷ []) x)))

-- Each place of a row has its type.
pub every_place : (front kinds : List Kind) → Pointwise (λ place kind. slice_get (front ++ kinds) place ≡ Some kind) (numbers_from (length front) (length kinds)) kinds
every_place front [] = tt
every_place front (k ∷ kinds) = (
  got_next front kinds k,
  subst (λ (m : ℕ). Pointwise (λ place kind. slice_get (front ++ k ∷ kinds) place ≡ Some kind) (numbers_from m (length kinds)) kinds) (many_more front k)
      (subst (λ (ks : List Kind). Pointwise (λ place kind. slice_get ks place ≡ Some kind) (numbers_from (length (front ++ k ∷ [])) (length kinds)) kinds) (one_by_one front k kinds) (every_place (front ++ k ∷ []) kinds)),
)

module _ (t : Types) where
  -- Over the places of the wires, an expression that reads wires alone is of the type that it was, and worth the same.
  module _ (wires : List Wire) (inner : ℕ → ℕ → Option Kind) (alone : (i j : ℕ) → inner i j ≡ None) (e : Expr) (k : Kind) (typed : IsTrue (is_of_kind t (record { own = wire_kind wires; inner = inner }) e k)) where
    placed_over : (x : Row) (low : ℕ → ℕ → Option Value) → Fit t wires x
        → IsTrue (is_of_kind t (places_of (wire_kinds wires)) (placed wires e) k) × (value_of e (record { own = wire_value wires x; inner = low }) ≡ value_of (placed wires e) (reads_of x []))
    placed_over x low fit =
        moved_same t (place_of wires) no_wire (record { own = wire_kind wires; inner = inner }) (places_of (wire_kinds wires)) (record { own = wire_value wires x; inner = low }) (reads_of x []) e
        (λ j reads kind is. (place_kind wires j kind is, sym (place_value t wires x j fit)))
        (λ i j reads kind is. absurd (none_some kind (sym (alone i j) ∙ is))) k typed

    pub placed_typed : IsTrue (is_of_kind t (places_of (wire_kinds wires)) (placed wires e) k)
    placed_typed =
        let nothing : Reads = record { own = λ j. None; inner = λ i j. None } in
        (moved_same t (place_of wires) no_wire (record { own = wire_kind wires; inner = inner }) (places_of (wire_kinds wires)) nothing nothing e
        (λ j reads kind is. (place_kind wires j kind is, refl)) (λ i j reads kind is. absurd (none_some kind (sym (alone i j) ∙ is))) k typed).0

    pub placed_worth : (x : Row) (low : ℕ → ℕ → Option Value) → Fit t wires x → value_of (placed wires e) (reads_of x []) ≡ value_of e (record { own = wire_value wires x; inner = low })
    placed_worth x low fit = sym (placed_over x low fit).1

  -- What is carried on is typed over the places of what is known.
  abbrev pub IsCarried : List Kind → WireValue → Type 0
  IsCarried ins c = IsTrue (is_of_kind t (places_of ins) c.lower c.wire.kind)

  pub passed_typed : (front : List Kind) (wires : List Wire) → Each (IsCarried (front ++ wire_kinds wires)) (passed_on (length front) wires)
  passed_typed front [] = tt
  passed_typed front (w ∷ wires) = (
    laws.kind-Own t (places_of (front ++ w.kind ∷ wire_kinds wires)) (length front) w.kind
        ∙ subst (λ (o : Option Kind). IsTrue (has_form o w.kind)) (sym (got_next front (wire_kinds wires) w.kind)) (same_form_itself w.kind),
    subst (λ (m : ℕ). Each (IsCarried (front ++ w.kind ∷ wire_kinds wires)) (passed_on m wires)) (many_more front w.kind)
        (subst (λ (ks : List Kind). Each (IsCarried ks) (passed_on (length (front ++ w.kind ∷ [])) wires)) (one_by_one front w.kind (wire_kinds wires)) (passed_typed (front ++ w.kind ∷ []) wires)),
  )

  pub new_typed : (wires : List Wire) (number : ℕ) (made : List Expr) → Each (λ e. IsTrue (is_of_kind t (record { own = wire_kind wires; inner = λ i j. None }) e plain)) made
      → Each (IsCarried (wire_kinds wires)) (new_wires wires number made)
  new_typed wires number [] typed = tt
  new_typed wires number (e ∷ made) typed = (placed_typed wires (λ i j. None) (λ i j. refl) e plain typed.0, new_typed wires (number + 1) made typed.1)

  pub targets_typed : (ins front : List Kind) (carried : List WireValue) → Each (IsCarried ins) carried → Each (TargetIsTyped t ins (front ++ wire_kinds (wires_of carried))) (targets_from (length front) carried)
  targets_typed ins front [] each = tt
  targets_typed ins front (c ∷ carried) each = (
    record { kind = c.wire.kind; place = got_next front (wire_kinds (wires_of carried)) c.wire.kind; lower = each.0 },
    subst (λ (m : ℕ). Each (TargetIsTyped t ins (front ++ c.wire.kind ∷ wire_kinds (wires_of carried))) (targets_from m carried)) (many_more front c.wire.kind)
        (subst (λ (ks : List Kind). Each (TargetIsTyped t ins ks) (targets_from (length (front ++ c.wire.kind ∷ [])) carried)) (one_by_one front c.wire.kind (wire_kinds (wires_of carried)))
        (targets_typed ins (front ++ c.wire.kind ∷ []) carried each.1)),
  )

  -- The values that are carried on are the least row that meets their targets.
  pub values_meet : (z front x : Row) (kinds : List Kind) (carried : List WireValue) → length kinds ≡ length front → Fit t (wires_of carried) x → AreValues carried (reads_of z []) x
      → Each (Meets t (kinds ++ wire_kinds (wires_of carried)) z (front ++ x)) (targets_from (length front) carried)
  values_meet z front [] kinds [] long fit are = tt
  values_meet z front (v ∷ x) kinds [] long fit are = absurd are
  values_meet z front [] kinds (c ∷ carried) long fit are = absurd are
  values_meet z front (v ∷ x) kinds (c ∷ carried) long fit are = (
    record {
      kind = c.wire.kind;
      above = v;
      below = v;
      port_is = ap (slice_get (kinds ++ c.wire.kind ∷ wire_kinds (wires_of carried))) (sym long) ∙ got_next kinds (wire_kinds (wires_of carried)) c.wire.kind;
      upper_is = got_next front x v;
      lower_is = are.0;
      at_least = (kind_laws t c.wire.kind).reflexive v (first _ _ fit);
    },
    subst (λ (m : ℕ). Each (Meets t (kinds ++ c.wire.kind ∷ wire_kinds (wires_of carried)) z (front ++ v ∷ x)) (targets_from m carried)) (many_more front v)
        (subst (λ (y : Row). Each (Meets t (kinds ++ c.wire.kind ∷ wire_kinds (wires_of carried)) z y) (targets_from (length (front ++ v ∷ [])) carried)) (one_by_one front v x)
        (subst (λ (ks : List Kind). Each (Meets t ks z ((front ++ v ∷ []) ++ x)) (targets_from (length (front ++ v ∷ [])) carried)) (one_by_one kinds c.wire.kind (wire_kinds (wires_of carried)))
        (values_meet z (front ++ v ∷ []) x (kinds ++ c.wire.kind ∷ []) carried (let a = many_more kinds c.wire.kind in let b = many_more front v in omega (arith, a, b, long)) (second (fits t c.wire.kind v) _ fit) are.1))),
  )

  pub values_least : (z front x y : Row) (kinds : List Kind) (carried : List WireValue) → length kinds ≡ length front → Fit t (wires_of carried) x → Fit t (wires_of carried) y → AreValues carried (reads_of z []) x
      → Each (Meets t (kinds ++ wire_kinds (wires_of carried)) z (front ++ y)) (targets_from (length front) carried) → IsTrue (row_leq t (wire_kinds (wires_of carried)) x y)
  values_least z front [] [] kinds [] long fit fits_y are meets = refl
  values_least z front [] (u ∷ y) kinds [] long fit fits_y are meets = absurd (cc)
  values_least z front (v ∷ x) y kinds [] long fit fits_y are meets = absurd are
  values_least z front [] y kinds (c ∷ carried) long fit fits_y are meets = absurd are
  values_least z front (v ∷ x) [] kinds (c ∷ carried) long fit fits_y are meets = absurd (cc)
  values_least z front (v ∷ x) (u ∷ y) kinds (c ∷ carried) long fit fits_y are meets =
      let met = meets.0 in
      let kind_is : met.kind ≡ c.wire.kind = let e : Some met.kind ≡ Some c.wire.kind = sym met.port_is ∙ (ap (slice_get (kinds ++ c.wire.kind ∷ wire_kinds (wires_of carried))) (sym long) ∙ got_next kinds (wire_kinds (wires_of carried)) c.wire.kind) in cc in
      let upper : met.above ≡ u = let e : Some met.above ≡ Some u = sym met.upper_is ∙ got_next front y u in cc in
      let lower : met.below ≡ v = let e : Some met.below ≡ Some v = sym met.lower_is ∙ are.0 in cc in
      let least : IsTrue (leq t c.wire.kind v u) = rw (kind_is, upper, lower) at met.at_least in
      both _ _ least
      (values_least z (front ++ u ∷ []) x y (kinds ++ c.wire.kind ∷ []) carried (let a = many_more kinds c.wire.kind in let b = many_more front u in omega (arith, a, b, long)) (second (fits t c.wire.kind v) _ fit) (second (fits t c.wire.kind u) _ fits_y) are.1
      (subst (λ (ks : List Kind). Each (Meets t ks z ((front ++ u ∷ []) ++ y)) (targets_from (length (front ++ u ∷ [])) carried)) (sym (one_by_one kinds c.wire.kind (wire_kinds (wires_of carried))))
      (subst (λ (r : Row). Each (Meets t (kinds ++ c.wire.kind ∷ wire_kinds (wires_of carried)) z r) (targets_from (length (front ++ u ∷ [])) carried)) (sym (one_by_one front u y))
      (subst (λ (m : ℕ). Each (Meets t (kinds ++ c.wire.kind ∷ wire_kinds (wires_of carried)) z (front ++ u ∷ y)) (targets_from m carried)) (sym (many_more front u)) meets.1))))

  -- A row keeps what it is at least.
  pub kept_all : (kinds : List Kind) (x y : Row) → IsTrue (row_fits t kinds x) → IsTrue (row_fits t kinds y) → IsTrue (row_leq t kinds x y) → Keeps t kinds (numbers_from 0 (length kinds)) x y
  kept_all kinds x y fit fits_y least = record {
    fits = fits_y;
    at_least = subst (λ (o : Option Row). IsSomeAnd o (λ kept. IsTrue (row_leq t kinds kept y))) (sym (ap (λ m. values_at (numbers_from 0 m) x) (are_values_length (fits t) kinds x fit) ∙ values_all [] x)) least;
  }

  pub all_kept : (kinds : List Kind) (x y : Row) → IsTrue (row_fits t kinds x) → Keeps t kinds (numbers_from 0 (length kinds)) x y → IsTrue (row_leq t kinds x y)
  all_kept kinds x y fit keeps =
      subst (λ (o : Option Row). IsSomeAnd o (λ kept. IsTrue (row_leq t kinds kept y))) (ap (λ m. values_at (numbers_from 0 m) x) (are_values_length (fits t) kinds x fit) ∙ values_all [] x) keeps.at_least
