-- An expression over other ports is of the same type and worth the same, where what it reads is.
use Rattle.std.proofs.Common.{refl, sym, ap, subst, ◌∙◌, arith}
use Rattle.std.proofs.lemmas.Bool.Decides.{nat_tests}
use Rattle.std.proofs.lemmas.Bool.{or_left, or_right}
use Rattle.std.specs.List.{list_any}
use Rattle.std.specs.Prelude.{◌≡◌, ℕ, Bool, false, ◌||◌, ◌&&◌, ◌==◌, IsTrue, List, [], ◌∷◌, map, Option, Some, None}
use Rattle.order_core.specs.MemberLaws.{first, second, both}
use Rattle.order_core.specs.Tuple.{are_values}
use Rattle.unit_core.specs.Ratio.{ratio}
use Rattle.unit_core.specs.declared.fraction.Fraction.{Fraction}
use Rattle.value_type.specs.Fits.{fits}
use Rattle.value_type.specs.Scale.{scaled}
use Rattle.value_type.specs.declared.kind.Kind.TheOpen.{Kind-F}
use Rattle.value_type.specs.declared.kind.Kind.{Kind, out-Kind}
use Rattle.value_type.specs.declared.poset.Types.{Types}
use Rattle.value_type.specs.declared.value.Value.{Value}
use Rattle.design_model.specs.ExprKinds.{PortTypes, is_of_kind, has_form, is_number_kind, parts_are}
use Rattle.design_model.specs.ExprLaws as laws
use Rattle.design_model.specs.ExprRisesLaws.{equal_self}
use Rattle.design_model.specs.Reading.{reads_port}
use Rattle.design_model.specs.ValueOf.{Reads, value_of, number_in, of_one, of_two, together, tuple_of, with_first}
use Rattle.design_model.specs.declared.expr.Expr.TheFolds.{ind-Expr, fold_out-Expr}
use Rattle.design_model.specs.declared.expr.Expr.TheOpen.{Expr-F}
use Rattle.design_model.specs.declared.expr.Expr.TheVariants as expr
use Rattle.design_model.specs.declared.expr.Expr.{Expr, roll-Expr, map-Expr}
use Rattle.expr_residual.specs.Moved.{inner_or_own, moved, no_wire, reads_own, reads_wire}

pub owns-Own : (test : ℕ → Bool) (j : ℕ) → reads_own test (expr.Own j) ≡ test j
owns-Own test j = rw (fold_out-Expr, expr.outs-Own) refl

pub owns-Inner : (test : ℕ → Bool) (i j : ℕ) → reads_own test (expr.Inner i j) ≡ false
owns-Inner test i j = rw (fold_out-Expr, expr.outs-Inner) refl

pub owns-Constant : (test : ℕ → Bool) (v : Value) → reads_own test (expr.Constant v) ≡ false
owns-Constant test v = rw (fold_out-Expr, expr.outs-Constant) refl

pub owns-Scale : (test : ℕ → Bool) (by : Fraction) (a : Expr) → reads_own test (expr.Scale by a) ≡ reads_own test a
owns-Scale test by a = rw (fold_out-Expr, expr.outs-Scale) refl

pub owns-Sum : (test : ℕ → Bool) (a b : Expr) → reads_own test (expr.Sum a b) ≡ (reads_own test a || reads_own test b)
owns-Sum test a b = rw (fold_out-Expr, expr.outs-Sum) refl

pub owns-Product : (test : ℕ → Bool) (a b : Expr) → reads_own test (expr.Product a b) ≡ (reads_own test a || reads_own test b)
owns-Product test a b = rw (fold_out-Expr, expr.outs-Product) refl

pub owns-Greatest : (test : ℕ → Bool) (a b : Expr) → reads_own test (expr.Greatest a b) ≡ (reads_own test a || reads_own test b)
owns-Greatest test a b = rw (fold_out-Expr, expr.outs-Greatest) refl

pub owns-Lesser : (test : ℕ → Bool) (a b : Expr) → reads_own test (expr.Lesser a b) ≡ (reads_own test a || reads_own test b)
owns-Lesser test a b = rw (fold_out-Expr, expr.outs-Lesser) refl

any_map : (test : ℕ → Bool) (parts : List Expr) → list_any (λ part. part) (map (reads_own test) parts) ≡ list_any (reads_own test) parts
any_map test [] = refl
any_map test (part ∷ parts) = ap (λ b. reads_own test part || b) (any_map test parts)

pub owns-Tuple : (test : ℕ → Bool) (parts : List Expr) → reads_own test (expr.Tuple parts) ≡ list_any (reads_own test) parts
owns-Tuple test parts = rw (fold_out-Expr, expr.outs-Tuple) (any_map test parts)

pub moved-Own : (to : ℕ → ℕ) (wire : ℕ → ℕ → Option ℕ) (j : ℕ) → moved to wire (expr.Own j) ≡ expr.Own (to j)
moved-Own to wire j = rw (fold_out-Expr, expr.outs-Own) refl

pub moved-Inner : (to : ℕ → ℕ) (wire : ℕ → ℕ → Option ℕ) (i j : ℕ) → moved to wire (expr.Inner i j) ≡ inner_or_own i j (wire i j)
moved-Inner to wire i j = rw (fold_out-Expr, expr.outs-Inner) refl

pub moved-Constant : (to : ℕ → ℕ) (wire : ℕ → ℕ → Option ℕ) (v : Value) → moved to wire (expr.Constant v) ≡ expr.Constant v
moved-Constant to wire v = rw (fold_out-Expr, expr.outs-Constant) refl

pub moved-Scale : (to : ℕ → ℕ) (wire : ℕ → ℕ → Option ℕ) (by : Fraction) (a : Expr) → moved to wire (expr.Scale by a) ≡ expr.Scale by (moved to wire a)
moved-Scale to wire by a = rw (fold_out-Expr, expr.outs-Scale) refl

pub moved-Sum : (to : ℕ → ℕ) (wire : ℕ → ℕ → Option ℕ) (a b : Expr) → moved to wire (expr.Sum a b) ≡ expr.Sum (moved to wire a) (moved to wire b)
moved-Sum to wire a b = rw (fold_out-Expr, expr.outs-Sum) refl

pub moved-Product : (to : ℕ → ℕ) (wire : ℕ → ℕ → Option ℕ) (a b : Expr) → moved to wire (expr.Product a b) ≡ expr.Product (moved to wire a) (moved to wire b)
moved-Product to wire a b = rw (fold_out-Expr, expr.outs-Product) refl

pub moved-Greatest : (to : ℕ → ℕ) (wire : ℕ → ℕ → Option ℕ) (a b : Expr) → moved to wire (expr.Greatest a b) ≡ expr.Greatest (moved to wire a) (moved to wire b)
moved-Greatest to wire a b = rw (fold_out-Expr, expr.outs-Greatest) refl

pub moved-Lesser : (to : ℕ → ℕ) (wire : ℕ → ℕ → Option ℕ) (a b : Expr) → moved to wire (expr.Lesser a b) ≡ expr.Lesser (moved to wire a) (moved to wire b)
moved-Lesser to wire a b = rw (fold_out-Expr, expr.outs-Lesser) refl

pub moved-Tuple : (to : ℕ → ℕ) (wire : ℕ → ℕ → Option ℕ) (parts : List Expr) → moved to wire (expr.Tuple parts) ≡ expr.Tuple (map (moved to wire) parts)
moved-Tuple to wire parts = rw (fold_out-Expr, expr.outs-Tuple) refl

module _ (t : Types) (to : ℕ → ℕ) (wire : ℕ → ℕ → Option ℕ) (from onto : PortTypes) (low high : Reads) where
  abbrev pub kind_by : Option ℕ → Option Kind → Option Kind
  kind_by (Some own) k = onto.own own
  kind_by None k = k

  abbrev pub value_by : Option ℕ → Option Value → Option Value
  value_by (Some own) v = high.own own
  value_by None v = v

  -- The own port, if its type is known, leads to one of the same type that carries the same.
  abbrev pub OwnAgrees : ℕ → Type 0
  OwnAgrees j = (k : Kind) → from.own j ≡ Some k → (onto.own (to j) ≡ Some k) × (low.own j ≡ high.own (to j))

  -- The part's port, if its type is known, or what stands for it, is of the same type in both and carries the same.
  abbrev pub InnerAgrees : ℕ → ℕ → Type 0
  InnerAgrees i j = (k : Kind) → from.inner i j ≡ Some k → (kind_by (wire i j) (onto.inner i j) ≡ Some k) × (low.inner i j ≡ value_by (wire i j) (high.inner i j))

  -- What the expression is, it is over the other ports too.
  abbrev Claim : Expr → Type 0
  Claim e = ((j : ℕ) → IsTrue (reads_wire e j) → OwnAgrees j) → ((i j : ℕ) → IsTrue (reads_port e i j) → InnerAgrees i j)
      → (k : Kind) → IsTrue (is_of_kind t from e k) → IsTrue (is_of_kind t onto (moved to wire e) k) × (value_of e low ≡ value_of (moved to wire e) high)

  abbrev Claimed : Type 0
  Claimed = (e : Expr) × Claim e

  form_moved : (a : Option Kind) (b : Option Kind) (k : Kind) → ((kind : Kind) → a ≡ Some kind → b ≡ Some kind) → IsTrue (has_form a k) → IsTrue (has_form b k)
  form_moved (Some kind) b k same h = subst (λ (o : Option Kind). IsTrue (has_form o k)) (sym (same kind refl)) h
  form_moved None b k same h = absurd (cc)

  value_moved : (a : Option Kind) (x y : Option Value) (k : Kind) → ((kind : Kind) → a ≡ Some kind → x ≡ y) → IsTrue (has_form a k) → x ≡ y
  value_moved (Some kind) x y k same h = same kind refl
  value_moved None x y k same h = absurd (cc)

  own_case : (j : ℕ) → Claim (expr.Own j)
  own_case j own inner k h =
      let agrees = own j (rw owns-Own (equal_self j)) in
      let g = rw laws.kind-Own at h in (
        rw (moved-Own to wire j, laws.kind-Own) (form_moved (from.own j) (onto.own (to j)) k (λ kind e. (agrees kind e).0) g),
        rw (moved-Own to wire j, laws.value-Own j low, laws.value-Own (to j) high) (value_moved (from.own j) (low.own j) (high.own (to j)) k (λ kind e. (agrees kind e).1) g),
      )

  inner_case : (i j : ℕ) → Claim (expr.Inner i j)
  inner_case i j own inner k h = rw (moved-Inner to wire i j, laws.value-Inner i j low) (go (wire i j) (inner i j (rw laws.reads-Inner (both _ _ (equal_self i) (equal_self j)))) (rw laws.kind-Inner at h))
    where
      go : (o : Option ℕ) → ((k : Kind) → from.inner i j ≡ Some k → (kind_by o (onto.inner i j) ≡ Some k) × (low.inner i j ≡ value_by o (high.inner i j))) → IsTrue (has_form (from.inner i j) k)
          → IsTrue (is_of_kind t onto (inner_or_own i j o) k) × (low.inner i j ≡ value_of (inner_or_own i j o) high)
      go (Some own) agrees g = (
        rw laws.kind-Own (form_moved (from.inner i j) (onto.own own) k (λ kind e. (agrees kind e).0) g),
        rw (laws.value-Own own high) (value_moved (from.inner i j) (low.inner i j) (high.own own) k (λ kind e. (agrees kind e).1) g),
      )
      go None agrees g = (
        rw laws.kind-Inner (form_moved (from.inner i j) (onto.inner i j) k (λ kind e. (agrees kind e).0) g),
        rw (laws.value-Inner i j high) (value_moved (from.inner i j) (low.inner i j) (high.inner i j) k (λ kind e. (agrees kind e).1) g),
      )

  constant_case : (v : Value) → Claim (expr.Constant v)
  constant_case v own inner k h = (
    rw (moved-Constant to wire v, laws.kind-Constant) (rw laws.kind-Constant at h),
    rw (moved-Constant to wire v, laws.value-Constant v low, laws.value-Constant v high) refl,
  )

  scale_case : (by : Fraction) (a : Claimed) → Claim (expr.Scale by a.0)
  scale_case by a own inner k h =
      let g = rw laws.kind-Scale at h in
      let x = a.1 (λ j r. own j (rw owns-Scale r)) (λ i j r. inner i j (rw laws.reads-Scale r)) k (second (is_number_kind k) _ g) in (
        rw (moved-Scale to wire by a.0, laws.kind-Scale) (both _ _ (first _ _ g) x.0),
        rw (moved-Scale to wire by a.0, laws.value-Scale by a.0 low, laws.value-Scale by (moved to wire a.0) high) (ap (λ v. of_one (scaled (ratio by)) (number_in v)) x.1),
      )

  -- Both operands, each over the other ports.
  two_case : (a b : Claimed) → ((j : ℕ) → IsTrue (reads_wire a.0 j || reads_wire b.0 j) → OwnAgrees j) → ((i j : ℕ) → IsTrue (reads_port a.0 i j || reads_port b.0 i j) → InnerAgrees i j)
      → (k : Kind) → IsTrue (is_number_kind k && (is_of_kind t from a.0 k && is_of_kind t from b.0 k))
      → IsTrue (is_number_kind k && (is_of_kind t onto (moved to wire a.0) k && is_of_kind t onto (moved to wire b.0) k))
      × (value_of a.0 low ≡ value_of (moved to wire a.0) high) × (value_of b.0 low ≡ value_of (moved to wire b.0) high)
  two_case a b own inner k g =
      let typed = second (is_number_kind k) _ g in
      let x = a.1 (λ j r. own j (or_left _ _ r)) (λ i j r. inner i j (or_left _ _ r)) k (first _ _ typed) in
      let y = b.1 (λ j r. own j (or_right (reads_wire a.0 j) _ r)) (λ i j r. inner i j (or_right (reads_port a.0 i j) _ r)) k (second (is_of_kind t from a.0 k) _ typed) in
      (both _ _ (first _ _ g) (both _ _ x.0 y.0), x.1, y.1)

  sum_case : (a b : Claimed) → Claim (expr.Sum a.0 b.0)
  sum_case a b own inner k h =
      let r = two_case a b (λ j g. own j (rw owns-Sum g)) (λ i j g. inner i j (rw laws.reads-Sum g)) k (rw laws.kind-Sum at h) in (
        rw (moved-Sum to wire a.0 b.0, laws.kind-Sum) r.0,
        rw (moved-Sum to wire a.0 b.0, laws.value-Sum a.0 b.0 low, laws.value-Sum (moved to wire a.0) (moved to wire b.0) high, r.1, r.2) refl,
      )

  product_case : (a b : Claimed) → Claim (expr.Product a.0 b.0)
  product_case a b own inner k h =
      let r = two_case a b (λ j g. own j (rw owns-Product g)) (λ i j g. inner i j (rw laws.reads-Product g)) k (rw laws.kind-Product at h) in (
        rw (moved-Product to wire a.0 b.0, laws.kind-Product) r.0,
        rw (moved-Product to wire a.0 b.0, laws.value-Product a.0 b.0 low, laws.value-Product (moved to wire a.0) (moved to wire b.0) high, r.1, r.2) refl,
      )

  greatest_case : (a b : Claimed) → Claim (expr.Greatest a.0 b.0)
  greatest_case a b own inner k h =
      let r = two_case a b (λ j g. own j (rw owns-Greatest g)) (λ i j g. inner i j (rw laws.reads-Greatest g)) k (rw laws.kind-Greatest at h) in (
        rw (moved-Greatest to wire a.0 b.0, laws.kind-Greatest) r.0,
        rw (moved-Greatest to wire a.0 b.0, laws.value-Greatest a.0 b.0 low, laws.value-Greatest (moved to wire a.0) (moved to wire b.0) high, r.1, r.2) refl,
      )

  lesser_case : (a b : Claimed) → Claim (expr.Lesser a.0 b.0)
  lesser_case a b own inner k h =
      let r = two_case a b (λ j g. own j (rw owns-Lesser g)) (λ i j g. inner i j (rw laws.reads-Lesser g)) k (rw laws.kind-Lesser at h) in (
        rw (moved-Lesser to wire a.0 b.0, laws.kind-Lesser) r.0,
        rw (moved-Lesser to wire a.0 b.0, laws.value-Lesser a.0 b.0 low, laws.value-Lesser (moved to wire a.0) (moved to wire b.0) high, r.1, r.2) refl,
      )

  parts_case : (es : List Claimed) → ((j : ℕ) → IsTrue (list_any (λ e. reads_wire e j) (map (λ e. e.0) es)) → OwnAgrees j) → ((i j : ℕ) → IsTrue (list_any (λ e. reads_port e i j) (map (λ e. e.0) es)) → InnerAgrees i j)
      → (kinds : List Kind) → IsTrue (are_values (map (is_of_kind t from) (map (λ e. e.0) es)) kinds)
      → IsTrue (are_values (map (is_of_kind t onto) (map (moved to wire) (map (λ e. e.0) es))) kinds)
      × (together (map value_of (map (λ e. e.0) es)) low ≡ together (map value_of (map (moved to wire) (map (λ e. e.0) es))) high)
  parts_case [] own inner [] h = (refl, refl)
  parts_case [] own inner (k ∷ kinds) h = absurd (cc)
  parts_case (e ∷ es) own inner [] h = absurd (cc)
  parts_case (e ∷ es) own inner (k ∷ kinds) h =
      let x = e.1 (λ j r. own j (or_left _ _ r)) (λ i j r. inner i j (or_left _ _ r)) k (first _ _ h) in
      let y = parts_case es (λ j r. own j (or_right (reads_wire e.0 j) _ r)) (λ i j r. inner i j (or_right (reads_port e.0 i j) _ r)) kinds (second (is_of_kind t from e.0 k) _ h) in
      (both _ _ x.0 y.0, (λ i. with_first (x.1 i) (y.1 i)))

  tuple_case : (es : List Claimed) → Claim (expr.Tuple (map (λ e. e.0) es))
  tuple_case es own inner k h =
      let parts = map (λ (e : Claimed). e.0) es in
      let r = go (out-Kind k) (rw laws.kind-Tuple at h) in (
        rw (moved-Tuple to wire (map (λ e. e.0) es), laws.kind-Tuple) r.0,
        rw (moved-Tuple to wire (map (λ e. e.0) es), laws.value-Tuple (map (λ e. e.0) es) low, laws.value-Tuple (map (moved to wire) (map (λ e. e.0) es)) high) (ap tuple_of r.1),
      )
    where
      go : (x : Kind-F Kind) → IsTrue (parts_are (map (is_of_kind t from) (map (λ e. e.0) es)) x)
          → IsTrue (parts_are (map (is_of_kind t onto) (map (moved to wire) (map (λ e. e.0) es))) x)
          × (together (map value_of (map (λ e. e.0) es)) low ≡ together (map value_of (map (moved to wire) (map (λ e. e.0) es))) high)
      go (Kind-F.Prod kinds) g = parts_case es (λ j r. own j (rw owns-Tuple r)) (λ i j r. inner i j (rw laws.reads-Tuple r)) kinds g
      go _ g = absurd (cc)

  at : (y : Expr-F Claimed) → Claim (roll-Expr (map-Expr Claimed Expr (λ e. e.0) y))
  at (Expr-F.Own j) = subst Claim (sym (expr.rolls-Own j)) (own_case j)
  at (Expr-F.Inner i j) = subst Claim (sym (expr.rolls-Inner i j)) (inner_case i j)
  at (Expr-F.Constant v) = subst Claim (sym (expr.rolls-Constant v)) (constant_case v)
  at (Expr-F.Scale by a) = subst Claim (sym (expr.rolls-Scale by a.0)) (scale_case by a)
  at (Expr-F.Sum a b) = subst Claim (sym (expr.rolls-Sum a.0 b.0)) (sum_case a b)
  at (Expr-F.Product a b) = subst Claim (sym (expr.rolls-Product a.0 b.0)) (product_case a b)
  at (Expr-F.Greatest a b) = subst Claim (sym (expr.rolls-Greatest a.0 b.0)) (greatest_case a b)
  at (Expr-F.Lesser a b) = subst Claim (sym (expr.rolls-Lesser a.0 b.0)) (lesser_case a b)
  at (Expr-F.Tuple es) = subst Claim (sym (expr.rolls-Tuple (map (λ e. e.0) es))) (tuple_case es)

  -- The expression over the other ports is of the same type, and worth the same.
  pub moved_same : (e : Expr) → ((j : ℕ) → IsTrue (reads_wire e j) → OwnAgrees j) → ((i j : ℕ) → IsTrue (reads_port e i j) → InnerAgrees i j)
      → (k : Kind) → IsTrue (is_of_kind t from e k) → IsTrue (is_of_kind t onto (moved to wire e) k) × (value_of e low ≡ value_of (moved to wire e) high)
  moved_same = ind-Expr Claim (λ x y is. subst (λ z. Claim (roll-Expr z)) is (at y))

abbrev pub IsItself : Expr → Type 0
IsItself e = moved (λ j. j) no_wire e ≡ e

abbrev Itself : Type 0
Itself = (e : Expr) × IsItself e

-- Over the same ports it's the same expression.
pub moved_itself : (e : Expr) → IsItself e
moved_itself = ind-Expr IsItself (λ x y is. subst (λ z. IsItself (roll-Expr z)) is (at y))
  where
    parts : (es : List Itself) → map (moved (λ j. j) no_wire) (map (λ e. e.0) es) ≡ map (λ e. e.0) es
    parts [] = refl
    parts (e ∷ es) = λ i. e.1 i ∷ parts es i

    at : (y : Expr-F Itself) → IsItself (roll-Expr (map-Expr Itself Expr (λ e. e.0) y))
    at (Expr-F.Own j) = subst IsItself (sym (expr.rolls-Own j)) (moved-Own (λ j. j) no_wire j)
    at (Expr-F.Inner i j) = subst IsItself (sym (expr.rolls-Inner i j)) (moved-Inner (λ j. j) no_wire i j)
    at (Expr-F.Constant v) = subst IsItself (sym (expr.rolls-Constant v)) (moved-Constant (λ j. j) no_wire v)
    at (Expr-F.Scale by a) = subst IsItself (sym (expr.rolls-Scale by a.0)) (moved-Scale (λ j. j) no_wire by a.0 ∙ ap (expr.Scale by) a.1)
    at (Expr-F.Sum a b) = subst IsItself (sym (expr.rolls-Sum a.0 b.0)) (moved-Sum (λ j. j) no_wire a.0 b.0 ∙ (λ i. expr.Sum (a.1 i) (b.1 i)))
    at (Expr-F.Product a b) = subst IsItself (sym (expr.rolls-Product a.0 b.0)) (moved-Product (λ j. j) no_wire a.0 b.0 ∙ (λ i. expr.Product (a.1 i) (b.1 i)))
    at (Expr-F.Greatest a b) = subst IsItself (sym (expr.rolls-Greatest a.0 b.0)) (moved-Greatest (λ j. j) no_wire a.0 b.0 ∙ (λ i. expr.Greatest (a.1 i) (b.1 i)))
    at (Expr-F.Lesser a b) = subst IsItself (sym (expr.rolls-Lesser a.0 b.0)) (moved-Lesser (λ j. j) no_wire a.0 b.0 ∙ (λ i. expr.Lesser (a.1 i) (b.1 i)))
    at (Expr-F.Tuple es) = subst IsItself (sym (expr.rolls-Tuple (map (λ e. e.0) es))) (moved-Tuple (λ j. j) no_wire (map (λ e. e.0) es) ∙ ap expr.Tuple (parts es))

-- An expression is of the same type, and worth the same, wherever what it reads is.
pub read_same : (t : Types) (from onto : PortTypes) (low high : Reads) (e : Expr)
    → ((j : ℕ) → IsTrue (reads_wire e j) → OwnAgrees t (λ j. j) no_wire from onto low high j) → ((i j : ℕ) → IsTrue (reads_port e i j) → InnerAgrees t (λ j. j) no_wire from onto low high i j)
    → (k : Kind) → IsTrue (is_of_kind t from e k) → IsTrue (is_of_kind t onto e k) × (value_of e low ≡ value_of e high)
read_same t from onto low high e own inner k h =
    let r = moved_same t (λ j. j) no_wire from onto low high e own inner k h in (
      subst (λ (z : Expr). IsTrue (is_of_kind t onto z k)) (moved_itself e) r.0,
      r.1 ∙ ap (λ z. value_of z high) (moved_itself e),
    )

-- It is of the same type where more ports are known.
pub typed_more : (t : Types) (from onto : PortTypes) → ((j : ℕ) (k : Kind) → from.own j ≡ Some k → onto.own j ≡ Some k) → ((i j : ℕ) (k : Kind) → from.inner i j ≡ Some k → onto.inner i j ≡ Some k)
    → (e : Expr) (k : Kind) → IsTrue (is_of_kind t from e k) → IsTrue (is_of_kind t onto e k)
typed_more t from onto own inner e k h =
    let nothing : Reads = record { own = λ j. None; inner = λ i j. None } in
    (read_same t from onto nothing nothing e (λ j r kind is. (own j kind is, refl)) (λ i j r kind is. (inner i j kind is, refl)) k h).0
