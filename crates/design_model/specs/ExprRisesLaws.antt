-- An expression of a type is worth something that the type has, and no less where what it reads is no less, by every family of orders that keeps numbers and tuples.
use Rattle.std.specs.Prelude.{◌≡◌, ℕ, Bool, true, false, ◌||◌, ◌&&◌, ◌==◌, IsTrue, List, [], ◌∷◌, map, slice_get, Option, Some, None}
use Rattle.std.specs.List.{list_any}
use Rattle.std.proofs.Common.{refl, sym, ap, subst, ◌∙◌, arith}
use Rattle.std.proofs.lemmas.Bool.Decides.{nat_tests}
use Rattle.order_core.specs.declared.num.Num.{Num as Number}
use Rattle.order_core.specs.MemberLaws.{first, second, both}
use Rattle.order_core.specs.Num as numbers
use Rattle.order_core.specs.NumLaws.{sum_number, sum_monotone, product_number, product_monotone, greater_number, greater_monotone, lesser_number, lesser_monotone}
use Rattle.order_core.specs.Tuple.{are_values, tuple_leq}
use Rattle.unit_core.specs.declared.dim.Dim.{Dim}
use Rattle.unit_core.specs.declared.fraction.Fraction.{Fraction}
use Rattle.unit_core.specs.Ratio.{ratio}
use Rattle.value_type.specs.declared.kind.Kind.{Kind, out-Kind, roll-Kind, roll-out-Kind}
use Rattle.value_type.specs.declared.kind.Kind.TheOpen.{Kind-F}
use Rattle.value_type.specs.declared.kind.Kind.TheVariants as kind
use Rattle.value_type.specs.declared.poset.Types.{Types}
use Rattle.value_type.specs.declared.value.Value.{Value}
use Rattle.value_type.specs.declared.value.Value.TheVariants.{Tup}
use Rattle.value_type.specs.Fits.{fits}
use Rattle.value_type.specs.Forms.{number_value}
use Rattle.value_type.specs.Leq.{leq}
use Rattle.value_type.specs.Scale.{scaled}
use Rattle.value_type.specs.ScaleLaws.{scaled_number, scaled_monotone}
use Rattle.design_model.specs.declared.expr.Expr.{Expr, roll-Expr, map-Expr}
use Rattle.design_model.specs.declared.expr.Expr.TheFolds.{ind-Expr}
use Rattle.design_model.specs.declared.expr.Expr.TheOpen.{Expr-F}
use Rattle.design_model.specs.declared.expr.Expr.TheVariants as expr
use Rattle.design_model.specs.ExprKinds.{PortTypes, is_of_kind, has_form, is_number_kind, is_number_at, parts_are}
use Rattle.design_model.specs.ExprLaws as laws
use Rattle.design_model.specs.NumberLaws.{number_back}
use Rattle.design_model.specs.Reading.{reads_port}
use Rattle.design_model.specs.Rows.{Row}
use Rattle.design_model.specs.Typed.{IsTypedFor}
use Rattle.design_model.specs.Wiring.{kind_at}
use Rattle.design_model.specs.ValueOf.{Reads, reads_of, value_of, number_in, of_one, of_two, together, tuple_of}
use Rattle.design_model.specs.ValuesInOrder.{AreInOrder, ReadsInOrder, ReadsLeq, ValuesLeq, FitsAt}
use Rattle.design_model.specs.ValuesInOrderLaws.{itself, row_at, part_row_at}
use Rattle.value_type.specs.KindOrders.{AreKindOrders}
use Rattle.value_type.specs.KindOrdersLaws.{values_are_ordered}
use Rattle.value_type.specs.SameForm.{same_form}
use Rattle.std.proofs.lemmas.Bool.{or_left, or_right}

-- numbers that are there, in order
record NumbersInOrder (a b : Option Number) : Type 0 where
  low : Number
  high : Number
  low_is : a ≡ Some low
  high_is : b ≡ Some high
  low_number : IsTrue (numbers.is_number low)
  high_number : IsTrue (numbers.is_number high)
  ordered : IsTrue (numbers.number_leq low high)

-- rows that are there, in order
record RowsInOrder (has : Kind → Value → Bool) (order : Kind → Value → Value → Bool) (kinds : List Kind) (a b : Option (List Value)) : Type 0 where
  low : List Value
  high : List Value
  low_is : a ≡ Some low
  high_is : b ≡ Some high
  low_fits : IsTrue (are_values (map has kinds) low)
  high_fits : IsTrue (are_values (map has kinds) high)
  ordered : IsTrue (tuple_leq (map order kinds) low high)

-- What an operation on two numbers makes is a number, and no less where they are no less.
record IsMonotoneOp (op : Number → Number → Number) : Type 0 where
  number : (x y : Number) → IsTrue (numbers.is_number x) → IsTrue (numbers.is_number y) → IsTrue (numbers.is_number (op x y))
  monotone : (x y z w : Number) → IsTrue (numbers.number_leq x z) → IsTrue (numbers.number_leq y w) → IsTrue (numbers.number_leq (op x y) (op z w))

pub equal_self : (n : ℕ) → IsTrue (n == n)
equal_self n = grind (arith, nat_tests)

module _ (t : Types) (has : Kind → Value → Bool) (order : Kind → Value → Value → Bool) (orders : AreKindOrders t has order) where
  number_kind_is : (k : Kind) → IsTrue (is_number_kind k) → (dim : Dim) × (k ≡ kind.Num dim)
  number_kind_is k h = go (out-Kind k) refl h
    where
      go : (x : Kind-F Kind) → out-Kind k ≡ x → IsTrue (is_number_at x) → (dim : Dim) × (k ≡ kind.Num dim)
      go (Kind-F.Num dim) e g = (dim, sym (roll-out-Kind k) ∙ (ap roll-Kind e ∙ kind.rolls-Num dim))
      go _ e g = absurd (cc)

  number_is : (v : Value) (o : Option Value) (n : Number) → o ≡ Some v → v ≡ number_value n → number_in o ≡ Some n
  number_is v o n e f = ap number_in e ∙ (ap (λ (x : Value). number_in (Some x)) f ∙ number_back n)

  numbers_of : (dim : Dim) (a b : Option Value) → AreInOrder has order (kind.Num dim) a b → NumbersInOrder (number_in a) (number_in b)
  numbers_of dim a b h =
      let embeds = orders.numbers dim in
      let low = embeds.onto h.low h.low_fits in
      let high = embeds.onto h.high h.high_fits in
      record {
        low = low.0;
        high = high.0;
        low_is = number_is h.low a low.0 h.low_is low.1;
        high_is = number_is h.high b high.0 h.high_is high.1;
        low_number = sym (embeds.value low.0) ∙ (ap (has (kind.Num dim)) (sym low.1) ∙ h.low_fits);
        high_number = sym (embeds.value high.0) ∙ (ap (has (kind.Num dim)) (sym high.1) ∙ h.high_fits);
        ordered = sym (embeds.order low.0 high.0)
            ∙ (ap (λ (x : Value). order (kind.Num dim) x (number_value high.0)) (sym low.1) ∙ (ap (λ (x : Value). order (kind.Num dim) h.low x) (sym high.1) ∙ h.ordered));
      }

  made_number : (dim : Dim) (m n : Number) (a b : Option Value) → a ≡ Some (number_value m) → b ≡ Some (number_value n)
      → IsTrue (numbers.is_number m) → IsTrue (numbers.is_number n) → IsTrue (numbers.number_leq m n) → AreInOrder has order (kind.Num dim) a b
  made_number dim m n a b e f p q l =
      let embeds = orders.numbers dim in
      record {
        low = number_value m;
        high = number_value n;
        low_is = e;
        high_is = f;
        low_fits = embeds.value m ∙ p;
        high_fits = embeds.value n ∙ q;
        ordered = embeds.order m n ∙ l;
      }

  two_monotone : (op : Number → Number → Number) → IsMonotoneOp op → (dim : Dim) (a b c d : Option Value)
      → AreInOrder has order (kind.Num dim) a c → AreInOrder has order (kind.Num dim) b d → AreInOrder has order (kind.Num dim) (of_two op (number_in a) (number_in b)) (of_two op (number_in c) (number_in d))
  two_monotone op is dim a b c d h g =
      let x = numbers_of dim a c h in
      let y = numbers_of dim b d g in
      made_number dim (op x.low y.low) (op x.high y.high) (of_two op (number_in a) (number_in b)) (of_two op (number_in c) (number_in d))
      (rw (x.low_is, y.low_is) refl) (rw (x.high_is, y.high_is) refl)
      (is.number x.low y.low x.low_number y.low_number) (is.number x.high y.high x.high_number y.high_number)
      (is.monotone x.low y.low x.high y.high x.ordered y.ordered)

  one_monotone : (by : Fraction) (dim : Dim) (a c : Option Value)
      → AreInOrder has order (kind.Num dim) a c → AreInOrder has order (kind.Num dim) (of_one (scaled (ratio by)) (number_in a)) (of_one (scaled (ratio by)) (number_in c))
  one_monotone by dim a c h =
      let x = numbers_of dim a c h in
      made_number dim (scaled (ratio by) x.low) (scaled (ratio by) x.high) (of_one (scaled (ratio by)) (number_in a)) (of_one (scaled (ratio by)) (number_in c))
      (rw x.low_is refl) (rw x.high_is refl) (scaled_number (ratio by) x.low) (scaled_number (ratio by) x.high)
      (scaled_monotone (ratio by) x.low x.high by.whole x.ordered)

sum_op : IsMonotoneOp numbers.number_sum
sum_op = record { number = λ x y p q. sum_number x y; monotone = sum_monotone }

product_op : IsMonotoneOp numbers.number_product
product_op = record { number = λ x y p q. product_number x y; monotone = product_monotone }

greater_op : IsMonotoneOp numbers.greater_of
greater_op = record { number = greater_number; monotone = greater_monotone }

lesser_op : IsMonotoneOp numbers.lesser_of
lesser_op = record { number = lesser_number; monotone = lesser_monotone }

module _ (t : Types) (has : Kind → Value → Bool) (order : Kind → Value → Value → Bool) (orders : AreKindOrders t has order)
    (ports : PortTypes) (promised : ℕ → ℕ → Bool) (low high : Reads) (reads : ReadsInOrder has order ports promised low high) where
  -- Each required port of a part that the expression reads passes the test.
  abbrev pub IsPromised : Expr → Type 0
  IsPromised e = (i j : ℕ) → IsTrue (reads_port e i j) → IsTrue (promised i j)

  abbrev Claim : Expr → Type 0
  Claim e = IsPromised e → (k : Kind) → IsTrue (is_of_kind t ports e k) → AreInOrder has order k (value_of e low) (value_of e high)

  abbrev Claimed : Type 0
  Claimed = (e : Expr) × Claim e

  -- Types of one form have the same in the same order.
  moved : (a b : Kind) (x y : Option Value) → IsTrue (same_form a b) → AreInOrder has order a x y → AreInOrder has order b x y
  moved a b x y f h = record {
    low = h.low;
    high = h.high;
    low_is = h.low_is;
    high_is = h.high_is;
    low_fits = subst (λ (test : Value → Bool). IsTrue (test h.low)) (orders.by_form a b f) h.low_fits;
    high_fits = subst (λ (test : Value → Bool). IsTrue (test h.high)) (orders.by_form a b f) h.high_fits;
    ordered = subst (λ (test : Value → Value → Bool). IsTrue (test h.low h.high)) (orders.order_by_form a b f) h.ordered;
  }

  constant : (k : Kind) (v : Value) → IsTrue (fits t k v) → AreInOrder has order k (Some v) (Some v)
  constant k v h =
      let had = orders.values k v h in
      record { low = v; high = v; low_is = refl; high_is = refl; low_fits = had; high_fits = had; ordered = (orders.laws k).reflexive v had }

  own_case : (j : ℕ) → Claim (expr.Own j)
  own_case j promise k h = rw (laws.value-Own j low, laws.value-Own j high) (go (ports.own j) refl (rw laws.kind-Own at h))
    where
      go : (o : Option Kind) → ports.own j ≡ o → IsTrue (has_form o k) → AreInOrder has order k (low.own j) (high.own j)
      go (Some a) e g = moved a k (low.own j) (high.own j) g (reads.own j a e)
      go None e g = absurd (cc)

  inner_case : (i j : ℕ) → Claim (expr.Inner i j)
  inner_case i j promise k h = rw (laws.value-Inner i j low, laws.value-Inner i j high) (go (ports.inner i j) refl (rw laws.kind-Inner at h))
    where
      read : IsTrue (reads_port (expr.Inner i j) i j)
      read = rw laws.reads-Inner (both _ _ (equal_self i) (equal_self j))

      go : (o : Option Kind) → ports.inner i j ≡ o → IsTrue (has_form o k) → AreInOrder has order k (low.inner i j) (high.inner i j)
      go (Some a) e g = moved a k (low.inner i j) (high.inner i j) g (reads.inner i j a (promise i j read) e)
      go None e g = absurd (cc)

  constant_case : (v : Value) → Claim (expr.Constant v)
  constant_case v promise k h = rw (laws.value-Constant v low, laws.value-Constant v high) (constant k v (rw laws.kind-Constant at h))

  scale_case : (by : Fraction) (a : Claimed) → Claim (expr.Scale by a.0)
  scale_case by a promise k h =
      let g = rw laws.kind-Scale at h in
      let n = number_kind_is t has order orders k (first _ _ g) in
      let x = a.1 (λ i j r. promise i j (rw laws.reads-Scale r)) k (second (is_number_kind k) _ g) in
      rw (laws.value-Scale by a.0 low, laws.value-Scale by a.0 high)
      (subst (λ (z : Kind). AreInOrder has order z (of_one (scaled (ratio by)) (number_in (value_of a.0 low))) (of_one (scaled (ratio by)) (number_in (value_of a.0 high)))) (sym n.1)
      (one_monotone t has order orders by n.0 (value_of a.0 low) (value_of a.0 high) (subst (λ (z : Kind). AreInOrder has order z (value_of a.0 low) (value_of a.0 high)) n.1 x)))

  -- An operation on two expressions, of which each is read.
  two_case : (op : Number → Number → Number) → IsMonotoneOp op → (a b : Claimed) → IsPromised a.0 → IsPromised b.0 → (k : Kind)
      → IsTrue (is_number_kind k && (is_of_kind t ports a.0 k && is_of_kind t ports b.0 k))
      → AreInOrder has order k (of_two op (number_in (value_of a.0 low)) (number_in (value_of b.0 low))) (of_two op (number_in (value_of a.0 high)) (number_in (value_of b.0 high)))
  two_case op is a b p q k g =
      let n = number_kind_is t has order orders k (first _ _ g) in
      let typed = second (is_number_kind k) _ g in
      let x = a.1 p k (first _ _ typed) in
      let y = b.1 q k (second (is_of_kind t ports a.0 k) _ typed) in
      subst (λ (z : Kind). AreInOrder has order z (of_two op (number_in (value_of a.0 low)) (number_in (value_of b.0 low))) (of_two op (number_in (value_of a.0 high)) (number_in (value_of b.0 high)))) (sym n.1)
      (two_monotone t has order orders op is n.0 (value_of a.0 low) (value_of b.0 low) (value_of a.0 high) (value_of b.0 high)
      (subst (λ (z : Kind). AreInOrder has order z (value_of a.0 low) (value_of a.0 high)) n.1 x) (subst (λ (z : Kind). AreInOrder has order z (value_of b.0 low) (value_of b.0 high)) n.1 y))

  parts_case : (es : List Claimed) (kinds : List Kind) → ((i j : ℕ) → IsTrue (list_any (λ e. reads_port e i j) (map (λ e. e.0) es)) → IsTrue (promised i j))
      → IsTrue (are_values (map (is_of_kind t ports) (map (λ e. e.0) es)) kinds) → RowsInOrder has order kinds (together (map value_of (map (λ e. e.0) es)) low) (together (map value_of (map (λ e. e.0) es)) high)
  parts_case [] [] promise h = record { low = []; high = []; low_is = refl; high_is = refl; low_fits = refl; high_fits = refl; ordered = refl }
  parts_case [] (k ∷ kinds) promise h = absurd (cc)
  parts_case (e ∷ es) [] promise h = absurd (cc)
  parts_case (e ∷ es) (k ∷ kinds) promise h =
      let head = e.1 (λ i j r. promise i j (or_left _ _ r)) k (first _ _ h) in
      let tail = parts_case es kinds (λ i j r. promise i j (or_right (reads_port e.0 i j) _ r)) (second (is_of_kind t ports e.0 k) _ h) in
      record {
        low = head.low ∷ tail.low;
        high = head.high ∷ tail.high;
        low_is = rw (head.low_is, tail.low_is) refl;
        high_is = rw (head.high_is, tail.high_is) refl;
        low_fits = both _ _ head.low_fits tail.low_fits;
        high_fits = both _ _ head.high_fits tail.high_fits;
        ordered = both _ _ head.ordered tail.ordered;
      }

  tuple_case : (es : List Claimed) → Claim (expr.Tuple (map (λ e. e.0) es))
  tuple_case es promise k h = rw (laws.value-Tuple (map (λ e. e.0) es) low, laws.value-Tuple (map (λ e. e.0) es) high) (go (out-Kind k) refl (rw laws.kind-Tuple at h))
    where
      go : (x : Kind-F Kind) → out-Kind k ≡ x → IsTrue (parts_are (map (is_of_kind t ports) (map (λ e. e.0) es)) x)
          → AreInOrder has order k (tuple_of (together (map value_of (map (λ e. e.0) es)) low)) (tuple_of (together (map value_of (map (λ e. e.0) es)) high))
      go (Kind-F.Prod kinds) e g =
          let rows = parts_case es kinds (λ i j r. promise i j (rw laws.reads-Tuple r)) g in
          let embeds = orders.tuples kinds in
          let is : k ≡ kind.Prod kinds = sym (roll-out-Kind k) ∙ (ap roll-Kind e ∙ kind.rolls-Prod kinds) in
          subst (λ (z : Kind). AreInOrder has order z (tuple_of (together (map value_of (map (λ e. e.0) es)) low)) (tuple_of (together (map value_of (map (λ e. e.0) es)) high))) (sym is)
          (record {
            low = Tup rows.low;
            high = Tup rows.high;
            low_is = ap tuple_of rows.low_is;
            high_is = ap tuple_of rows.high_is;
            low_fits = embeds.value rows.low ∙ rows.low_fits;
            high_fits = embeds.value rows.high ∙ rows.high_fits;
            ordered = embeds.order rows.low rows.high ∙ rows.ordered;
          })
      go _ e g = absurd (cc)

  at : (y : Expr-F Claimed) → Claim (roll-Expr (map-Expr Claimed Expr (λ e. e.0) y))
  at (Expr-F.Own j) = subst Claim (sym (expr.rolls-Own j)) (own_case j)
  at (Expr-F.Inner i j) = subst Claim (sym (expr.rolls-Inner i j)) (inner_case i j)
  at (Expr-F.Constant v) = subst Claim (sym (expr.rolls-Constant v)) (constant_case v)
  at (Expr-F.Scale by a) = subst Claim (sym (expr.rolls-Scale by a.0)) (scale_case by a)
  at (Expr-F.Sum a b) = subst Claim (sym (expr.rolls-Sum a.0 b.0)) (λ promise k h. rw (laws.value-Sum a.0 b.0 low, laws.value-Sum a.0 b.0 high)
      (two_case numbers.number_sum sum_op a b (λ i j r. promise i j (rw laws.reads-Sum (or_left _ _ r))) (λ i j r. promise i j (rw laws.reads-Sum (or_right (reads_port a.0 i j) _ r))) k (rw laws.kind-Sum at h)))
  at (Expr-F.Product a b) = subst Claim (sym (expr.rolls-Product a.0 b.0)) (λ promise k h. rw (laws.value-Product a.0 b.0 low, laws.value-Product a.0 b.0 high)
      (two_case numbers.number_product product_op a b (λ i j r. promise i j (rw laws.reads-Product (or_left _ _ r))) (λ i j r. promise i j (rw laws.reads-Product (or_right (reads_port a.0 i j) _ r))) k (rw laws.kind-Product at h)))
  at (Expr-F.Greatest a b) = subst Claim (sym (expr.rolls-Greatest a.0 b.0)) (λ promise k h. rw (laws.value-Greatest a.0 b.0 low, laws.value-Greatest a.0 b.0 high)
      (two_case numbers.greater_of greater_op a b (λ i j r. promise i j (rw laws.reads-Greatest (or_left _ _ r))) (λ i j r. promise i j (rw laws.reads-Greatest (or_right (reads_port a.0 i j) _ r))) k (rw laws.kind-Greatest at h)))
  at (Expr-F.Lesser a b) = subst Claim (sym (expr.rolls-Lesser a.0 b.0)) (λ promise k h. rw (laws.value-Lesser a.0 b.0 low, laws.value-Lesser a.0 b.0 high)
      (two_case numbers.lesser_of lesser_op a b (λ i j r. promise i j (rw laws.reads-Lesser (or_left _ _ r))) (λ i j r. promise i j (rw laws.reads-Lesser (or_right (reads_port a.0 i j) _ r))) k (rw laws.kind-Lesser at h)))
  at (Expr-F.Tuple es) = subst Claim (sym (expr.rolls-Tuple (map (λ e. e.0) es))) (tuple_case es)

  -- The value is there in both readings, and in the first it is at most what it is in the second.
  pub expression_rises : (e : Expr) → IsPromised e → (k : Kind) → IsTrue (is_of_kind t ports e k) → AreInOrder has order k (value_of e low) (value_of e high)
  expression_rises = ind-Expr Claim (λ x y is. subst (λ z. Claim (roll-Expr z)) is (at y))

-- The same of values, in their own order.
module _ (t : Types) (ports : PortTypes) (promised : ℕ → ℕ → Bool) (low high : Reads) (reads : ReadsLeq t ports promised low high) where
  pub value_rises : (e : Expr) → ((i j : ℕ) → IsTrue (reads_port e i j) → IsTrue (promised i j)) → (k : Kind) → IsTrue (is_of_kind t ports e k) → ValuesLeq t k (value_of e low) (value_of e high)
  value_rises = expression_rises t (fits t) (leq t) (values_are_ordered t) ports promised low high reads

-- An expression that is typed for rows has a value of its type there.
pub typed_value : (t : Types) (own : Row) (inner : List Row) (e : Expr) (k : Kind) → IsTypedFor t own inner e k → FitsAt t k (value_of e (reads_of own inner))
typed_value t own inner e k h =
    let v = value_rises t (record { own = slice_get h.own_kinds; inner = kind_at h.inner_kinds }) (λ i j. true) (reads_of own inner) (reads_of own inner) (record {
      own = λ j a q. itself t a _ (row_at t h.own_kinds own j a h.own_fits q);
      inner = λ i j a p q. itself t a _ (part_row_at t h.inner_kinds inner i j a h.inner_fit q);
    }) e (λ i j q. refl) k h.typed in
    record { value = v.low; is = v.low_is; fits_kind = v.low_fits }
