-- What is left of a typed expression is typed, and so is what the new wires carry.
use Rattle.std.proofs.Common.{refl, sym, ap, subst, ◌∙◌, arith}
use Rattle.std.specs.Prelude.{◌≡◌, ◌+◌, ◌<◌, ◌++◌, ℕ, Bool, true, false, ◌&&◌, cond, IsTrue, List, [], ◌∷◌, map, length, Option, Some, None}
use Rattle.std.proofs.lemmas.List.{length-append}
use Rattle.order_core.specs.MemberLaws.{first, second, both}
use Rattle.order_core.specs.Pointwise.{Each}
use Rattle.order_core.specs.PointwiseLaws.{each_push}
use Rattle.order_core.specs.Tuple.{are_values}
use Rattle.unit_core.specs.declared.dim.Dim.{Dim}
use Rattle.unit_core.specs.declared.fraction.Fraction.{Fraction}
use Rattle.value_type.specs.Fits.{fits}
use Rattle.value_type.specs.SameFormLaws.{same_form_itself}
use Rattle.value_type.specs.declared.kind.Kind.TheOpen.{Kind-F}
use Rattle.value_type.specs.declared.kind.Kind.TheVariants as kind
use Rattle.value_type.specs.declared.kind.Kind.{Kind, out-Kind, roll-Kind, roll-out-Kind}
use Rattle.value_type.specs.declared.poset.Types.{Types}
use Rattle.value_type.specs.declared.value.Value.{Value}
use Rattle.design_model.specs.ExprKinds.{PortTypes, has_form, is_number_at, is_number_kind, is_of_kind, parts_are}
use Rattle.design_model.specs.ExprLaws as laws
use Rattle.design_model.specs.declared.expr.Expr.TheFolds.{ind-Expr}
use Rattle.design_model.specs.declared.expr.Expr.TheOpen.{Expr-F}
use Rattle.design_model.specs.declared.expr.Expr.TheVariants as expr
use Rattle.design_model.specs.declared.expr.Expr.{Expr, out-Expr, roll-Expr, map-Expr, roll-out-Expr}
use Rattle.expr_residual.specs.MovedLaws.{typed_more}
use Rattle.expr_residual.specs.NumberKindLaws.{form_alike, number_alike, number_kind}
use Rattle.expr_residual.specs.Moved.{reads_own}
use Rattle.expr_residual.specs.Plain.{no_dim, plain}
use Rattle.expr_residual.specs.Residual.{wire_of, Taken, Left, AllLeft, gets_wire, is_operation, operation_at, joined_by, same_operation, put, closed, put_together, operand, with_known, with_waiting, joined, gathered, gathered_after, paired, paired_after, both_left, single, single_of, left_of, all_left, tuple_left, known_or_waiting, taken, residual}
use Rattle.expr_residual.specs.ResidualGrowthLaws.{all_back, closed_back, gathered_back, operand_back, paired_back, single_back, taken_back}
use Rattle.expr_residual.specs.ResidualLaws as forms
use Rattle.expr_residual.specs.declared.split.Associative.TheVariants as by
use Rattle.expr_residual.specs.declared.split.Associative.{Associative}
use Rattle.expr_residual.specs.declared.frame.Frame.{Frame}
use Rattle.expr_residual.specs.declared.split.Split.TheVariants as split
use Rattle.expr_residual.specs.declared.split.Split.{Split}

kind-joined : (t : Types) (ports : PortTypes) (op : Associative) (a b : Expr) (k : Kind) → is_of_kind t ports (joined_by op a b) k ≡ (is_number_kind k && (is_of_kind t ports a k && is_of_kind t ports b k))
kind-joined t ports by.Sum a b k = laws.kind-Sum t ports a b k
kind-joined t ports by.Greatest a b k = laws.kind-Greatest t ports a b k

-- An operation that is typed is of a type of numbers.
operation_number : (t : Types) (ports : PortTypes) (e : Expr) (k : Kind) → IsTrue (is_operation e) → IsTrue (is_of_kind t ports e k) → IsTrue (is_number_kind k)
operation_number t ports e k is h = go (out-Expr e) (sym (roll-out-Expr e)) is
  where
    go : (x : Expr-F Expr) → e ≡ roll-Expr x → IsTrue (operation_at x) → IsTrue (is_number_kind k)
    go (Expr-F.Scale by a) same g = first _ _ (sym (laws.kind-Scale t ports by a k) ∙ (ap (λ z. is_of_kind t ports z k) (sym (expr.rolls-Scale by a)) ∙ (ap (λ z. is_of_kind t ports z k) (sym same) ∙ h)))
    go (Expr-F.Sum a b) same g = first _ _ (sym (laws.kind-Sum t ports a b k) ∙ (ap (λ z. is_of_kind t ports z k) (sym (expr.rolls-Sum a b)) ∙ (ap (λ z. is_of_kind t ports z k) (sym same) ∙ h)))
    go (Expr-F.Product a b) same g = first _ _ (sym (laws.kind-Product t ports a b k) ∙ (ap (λ z. is_of_kind t ports z k) (sym (expr.rolls-Product a b)) ∙ (ap (λ z. is_of_kind t ports z k) (sym same) ∙ h)))
    go (Expr-F.Greatest a b) same g = first _ _ (sym (laws.kind-Greatest t ports a b k) ∙ (ap (λ z. is_of_kind t ports z k) (sym (expr.rolls-Greatest a b)) ∙ (ap (λ z. is_of_kind t ports z k) (sym same) ∙ h)))
    go (Expr-F.Lesser a b) same g = first _ _ (sym (laws.kind-Lesser t ports a b k) ∙ (ap (λ z. is_of_kind t ports z k) (sym (expr.rolls-Lesser a b)) ∙ (ap (λ z. is_of_kind t ports z k) (sym same) ∙ h)))
    go (Expr-F.Own j) same g = absurd (cc)
    go (Expr-F.Inner i j) same g = absurd (cc)
    go (Expr-F.Constant v) same g = absurd (cc)
    go (Expr-F.Tuple parts) same g = absurd (cc)

number_kind_is : (k : Kind) → IsTrue (is_number_kind k) → (dim : Dim) × (k ≡ kind.Num dim)
number_kind_is k h = go (out-Kind k) refl h
  where
    go : (x : Kind-F Kind) → out-Kind k ≡ x → IsTrue (is_number_at x) → (dim : Dim) × (k ≡ kind.Num dim)
    go (Kind-F.Num dim) e g = (dim, sym (roll-out-Kind k) ∙ (ap roll-Kind e ∙ kind.rolls-Num dim))
    go _ e g = absurd (cc)

-- A typed operation is of the type of plain numbers too.
plain_typed : (t : Types) (ports : PortTypes) (e : Expr) (k : Kind) → IsTrue (is_number_kind k) → IsTrue (is_of_kind t ports e k) → IsTrue (is_of_kind t ports e plain)
plain_typed t ports e k is h = let n = number_kind_is k is in number_alike t ports e n.0 no_dim (subst (λ (z : Kind). IsTrue (is_of_kind t ports e z)) n.1 h)

none_some : (k : Kind) → None ≡ Some k → ⊥
none_some k e = absurd (cc)

plain_form : (k : Kind) → IsTrue (is_number_kind k) → IsTrue (has_form (Some plain) k)
plain_form k is =
    let n = number_kind_is k is in
    subst (λ (z : Kind). IsTrue (has_form (Some plain) z)) (sym n.1) (form_alike plain n.0 no_dim ∙ same_form_itself plain)

module _ (t : Types) (frame : Frame) (known after : PortTypes)
    (within : (j : ℕ) (k : Kind) → known.own j ≡ Some k → after.own j ≡ Some k) (alone : (i j : ℕ) → known.inner i j ≡ None) where
  abbrev pub kind_by : Option ℕ → Option Kind → Option Kind
  kind_by (Some wire) k = known.own wire
  kind_by None k = k

  -- the types of what the expression reads: a required port that a wire carries is of the wire's type
  abbrev pub before : PortTypes
  before = record { own = known.own; inner = λ i j. kind_by (wire_of frame i j) (after.inner i j) }

  -- The new wires are there, and carry plain numbers.
  abbrev pub HasWires : List Expr → Type 0
  HasWires made = (i : ℕ) → i < length made → after.own (frame.next + i) ≡ Some plain

  -- Each is an expression of plain numbers that reads known wires alone.
  abbrev pub AreNumbers : List Expr → Type 0
  AreNumbers made = Each (λ e. IsTrue (is_of_kind t known e plain)) made

  abbrev Known : Expr → Kind → Type 0
  Known e k = IsTrue (is_of_kind t known e k)

  abbrev After : Expr → Kind → Type 0
  After e k = IsTrue (is_of_kind t after e k)

  abbrev SplitTyped : Split → Kind → Type 0
  SplitTyped (split.Known e) k = Known e k
  SplitTyped (split.Partly op a waiting) k = IsTrue (is_number_kind k) × Known a k × After waiting k
  SplitTyped (split.Waiting e) k = After e k

  record LeftTyped (k : Kind) (made : List Expr) (left : Left) : Type 0 where
    typed : After left.expr k
    numbers : AreNumbers made → AreNumbers left.made

  record TakenTyped (k : Kind) (made : List Expr) (result : Taken) : Type 0 where
    typed : SplitTyped result.split k
    numbers : AreNumbers made → AreNumbers result.made

  -- what is known is so afterwards
  known_after : (e : Expr) (k : Kind) → Known e k → After e k
  known_after = typed_more t known after within (λ i j k e. absurd (none_some k (sym (alone i j) ∙ e)))

  pub fewer : (made : List Expr) (e : Expr) → HasWires (made ++ e ∷ []) → HasWires made
  fewer made e wires i l = wires i (let longer : length (made ++ e ∷ []) ≡ length made + length (e ∷ []) = length-append made (e ∷ []) in omega (arith, l, longer))

  put_typed : (e : Expr) (made : List Expr) (k : Kind) → Known e k → HasWires (put frame e made).made → LeftTyped k made (put frame e made)
  put_typed e made k h = go (gets_wire frame.start e) refl
    where
      go : (b : Bool) → gets_wire frame.start e ≡ b → HasWires (cond {A = Left} b (record { expr = expr.Own (frame.next + length made); made = made ++ e ∷ [] }) (record { expr = e; made = made })).made → LeftTyped k made (cond {A = Left} b (record { expr = expr.Own (frame.next + length made); made = made ++ e ∷ [] }) (record { expr = e; made = made }))
      go true is wires =
          let number = operation_number t known e k (first (is_operation e) _ is) h in
          let last = wires (length made) (let longer : length (made ++ e ∷ []) ≡ length made + length (e ∷ []) = length-append made (e ∷ []) in let one : length (e ∷ []) ≡ 1 = refl in omega (arith, longer, one)) in
          record {
            typed = laws.kind-Own t after (frame.next + length made) k ∙ subst (λ (o : Option Kind). IsTrue (has_form o k)) (sym last) (plain_form k number);
            numbers = λ numbers. each_push (λ e. IsTrue (is_of_kind t known e plain)) made e numbers (plain_typed t known e k number h);
          }
      go false is wires = record { typed = known_after e k h; numbers = λ numbers. numbers }

  closed_typed : (s : Split) (made : List Expr) (k : Kind) → SplitTyped s k → HasWires (closed frame s made).made → LeftTyped k made (closed frame s made)
  closed_typed (split.Known e) made k h wires = put_typed e made k h wires
  closed_typed (split.Partly op a waiting) made k h wires =
      let r = put_typed a made k h.1 wires in
      record { typed = kind-joined t after op (put frame a made).expr waiting k ∙ both _ _ h.0 (both _ _ r.typed h.2); numbers = r.numbers }
  closed_typed (split.Waiting e) made k h wires = record { typed = h; numbers = λ numbers. numbers }

  operand_typed : (op : Associative) (s : Split) (made : List Expr) (k : Kind) → SplitTyped s k → HasWires (operand frame op s made).made → TakenTyped k made (operand frame op s made)
  operand_typed op (split.Known e) made k h wires = record { typed = h; numbers = λ numbers. numbers }
  operand_typed op (split.Partly other a waiting) made k h wires = go (same_operation op other) wires
    where
      go : (b : Bool) → HasWires (cond {A = Taken} b (record { split = split.Partly op a waiting; made = made }) (put_together frame (split.Partly other a waiting) made)).made → TakenTyped k made (cond {A = Taken} b (record { split = split.Partly op a waiting; made = made }) (put_together frame (split.Partly other a waiting) made))
      go true wires = record { typed = h; numbers = λ numbers. numbers }
      go false wires = let r = closed_typed (split.Partly other a waiting) made k h wires in record { typed = r.typed; numbers = r.numbers }
  operand_typed op (split.Waiting e) made k h wires = record { typed = h; numbers = λ numbers. numbers }

  with_known_typed : (op : Associative) (a : Expr) (s : Split) (k : Kind) → IsTrue (is_number_kind k) → Known a k → SplitTyped s k → SplitTyped (with_known op a s) k
  with_known_typed op a (split.Known b) k number h g = kind-joined t known op a b k ∙ both _ _ number (both _ _ h g)
  with_known_typed op a (split.Partly other b waiting) k number h g = (number, kind-joined t known op a b k ∙ both _ _ number (both _ _ h g.1), g.2)
  with_known_typed op a (split.Waiting waiting) k number h g = (number, h, g)

  with_waiting_typed : (op : Associative) (a : Expr) (s : Split) (k : Kind) → IsTrue (is_number_kind k) → After a k → SplitTyped s k → SplitTyped (with_waiting op a s) k
  with_waiting_typed op a (split.Known b) k number h g = (number, g, h)
  with_waiting_typed op a (split.Partly other b waiting) k number h g = (number, g.1, kind-joined t after op a waiting k ∙ both _ _ number (both _ _ h g.2))
  with_waiting_typed op a (split.Waiting waiting) k number h g = kind-joined t after op a waiting k ∙ both _ _ number (both _ _ h g)

  joined_typed : (op : Associative) (s u : Split) (k : Kind) → IsTrue (is_number_kind k) → SplitTyped s k → SplitTyped u k → SplitTyped (joined op s u) k
  joined_typed op (split.Known a) u k number h g = with_known_typed op a u k number h g
  joined_typed op (split.Partly other a waiting) u k number h g = with_known_typed op a (with_waiting op waiting u) k number h.1 (with_waiting_typed op waiting u k number h.2 g)
  joined_typed op (split.Waiting a) u k number h g = with_waiting_typed op a u k number h g

  gathered_typed : (op : Associative) (s : Split) (b : Taken) (k : Kind) → IsTrue (is_number_kind k) → SplitTyped s k → SplitTyped b.split k → HasWires (gathered frame op s b).made → TakenTyped k b.made (gathered frame op s b)
  gathered_typed op s b k number h g wires =
      let latter = operand_typed op b.split (operand frame op s b.made).made k g wires in
      let former = operand_typed op s b.made k h (operand_back frame HasWires fewer op b.split (operand frame op s b.made).made wires) in
      record {
        typed = joined_typed op (operand frame op s b.made).split (operand frame op b.split (operand frame op s b.made).made).split k number former.typed latter.typed;
        numbers = λ numbers. latter.numbers (former.numbers numbers);
      }

  abbrev IsForm : (Expr → Expr → Expr) → Type 0
  IsForm form = (ports : PortTypes) (a b : Expr) (k : Kind) → is_of_kind t ports (form a b) k ≡ (is_number_kind k && (is_of_kind t ports a k && is_of_kind t ports b k))

  both_typed : (form : Expr → Expr → Expr) → IsForm form → (s u : Split) (made : List Expr) (k : Kind) → IsTrue (is_number_kind k) → SplitTyped s k → SplitTyped u k
      → HasWires (both_left frame form u (closed frame s made)).made → TakenTyped k made (both_left frame form u (closed frame s made))
  both_typed form is s u made k number h g wires =
      let latter = closed_typed u (closed frame s made).made k g wires in
      let former = closed_typed s made k h (closed_back frame HasWires fewer u (closed frame s made).made wires) in
      record {
        typed = is after (closed frame s made).expr (closed frame u (closed frame s made).made).expr k ∙ both _ _ number (both _ _ former.typed latter.typed);
        numbers = λ numbers. latter.numbers (former.numbers numbers);
      }

  paired_typed : (form : Expr → Expr → Expr) → IsForm form → (s u : Split) (made : List Expr) (k : Kind) → IsTrue (is_number_kind k) → SplitTyped s k → SplitTyped u k
      → HasWires (paired frame form s u made).made → TakenTyped k made (paired frame form s u made)
  paired_typed form is (split.Known a) (split.Known b) made k number h g wires = record { typed = is known a b k ∙ both _ _ number (both _ _ h g); numbers = λ numbers. numbers }
  paired_typed form is (split.Known a) (split.Partly other b waiting) made k number h g wires = both_typed form is (split.Known a) (split.Partly other b waiting) made k number h g wires
  paired_typed form is (split.Known a) (split.Waiting e) made k number h g wires = both_typed form is (split.Known a) (split.Waiting e) made k number h g wires
  paired_typed form is (split.Partly other a waiting) u made k number h g wires = both_typed form is (split.Partly other a waiting) u made k number h g wires
  paired_typed form is (split.Waiting e) u made k number h g wires = both_typed form is (split.Waiting e) u made k number h g wires

  single_typed : (form : Expr → Expr) → ((ports : PortTypes) (a : Expr) (k : Kind) → is_of_kind t ports (form a) k ≡ (is_number_kind k && is_of_kind t ports a k)) → (s : Split) (made : List Expr) (k : Kind)
      → IsTrue (is_number_kind k) → SplitTyped s k → HasWires (single frame form s made).made → TakenTyped k made (single frame form s made)
  single_typed form is (split.Known a) made k number h wires = record { typed = is known a k ∙ both _ _ number h; numbers = λ numbers. numbers }
  single_typed form is (split.Partly other a waiting) made k number h wires =
      let r = closed_typed (split.Partly other a waiting) made k h wires in
      record { typed = is after (closed frame (split.Partly other a waiting) made).expr k ∙ both _ _ number r.typed; numbers = r.numbers }
  single_typed form is (split.Waiting e) made k number h wires = record { typed = is after e k ∙ both _ _ number h; numbers = λ numbers. numbers }

  abbrev Claim : Expr → Type 0
  Claim e = (made : List Expr) (k : Kind) → IsTrue (is_of_kind t before e k) → HasWires (taken frame e made).made → TakenTyped k made (taken frame e made)

  abbrev Claimed : Type 0
  Claimed = (e : Expr) × Claim e

  own_case : (j : ℕ) → Claim (expr.Own j)
  own_case j made k h = rw (forms.taken-Own frame j made) (λ wires. record { typed = laws.kind-Own t known j k ∙ (sym (laws.kind-Own t before j k) ∙ h); numbers = λ numbers. numbers })

  inner_case : (i j : ℕ) → Claim (expr.Inner i j)
  inner_case i j made k h = rw (forms.taken-Inner frame i j made) (λ wires. record { typed = go (wire_of frame i j) (sym (laws.kind-Inner t before i j k) ∙ h); numbers = λ numbers. numbers })
    where
      go : (o : Option ℕ) → IsTrue (has_form (kind_by o (after.inner i j)) k) → SplitTyped (known_or_waiting frame i j o) k
      go (Some wire) g = laws.kind-Own t known wire k ∙ g
      go None g = laws.kind-Inner t after i j k ∙ g

  constant_case : (v : Value) → Claim (expr.Constant v)
  constant_case v made k h = rw (forms.taken-Constant frame v made) (λ wires. record { typed = laws.kind-Constant t known v k ∙ (sym (laws.kind-Constant t before v k) ∙ h); numbers = λ numbers. numbers })

  scale_case : (f : Fraction) (a : Claimed) → Claim (expr.Scale f a.0)
  scale_case f a made k h = rw (forms.taken-Scale frame f a.0 made) (go (sym (laws.kind-Scale t before f a.0 k) ∙ h))
    where
      go : IsTrue (is_number_kind k && is_of_kind t before a.0 k) → HasWires (single_of frame (expr.Scale f) (taken frame a.0 made)).made → TakenTyped k made (single_of frame (expr.Scale f) (taken frame a.0 made))
      go g wires =
          let inner = a.1 made k (second (is_number_kind k) _ g) (single_back frame HasWires fewer (expr.Scale f) (taken frame a.0 made).split (taken frame a.0 made).made wires) in
          let outer = single_typed (expr.Scale f) (λ ports b kind. laws.kind-Scale t ports f b kind) (taken frame a.0 made).split (taken frame a.0 made).made k (first _ _ g) inner.typed wires in
          record { typed = outer.typed; numbers = λ numbers. outer.numbers (inner.numbers numbers) }

  -- Operands that may be taken in any order, the second one taken apart after the first.
  gathered_case : (op : Associative) (a b : Claimed) (made : List Expr) (k : Kind) → IsTrue (is_number_kind k && (is_of_kind t before a.0 k && is_of_kind t before b.0 k))
      → HasWires (gathered_after frame op (taken frame b.0) (taken frame a.0 made)).made → TakenTyped k made (gathered_after frame op (taken frame b.0) (taken frame a.0 made))
  gathered_case op a b made k g wires =
      let typed = second (is_number_kind k) _ g in
      let there = gathered_back frame HasWires fewer op (taken frame a.0 made).split (taken frame b.0 (taken frame a.0 made).made) wires in
      let latter = b.1 (taken frame a.0 made).made k (second (is_of_kind t before a.0 k) _ typed) there in
      let former = a.1 made k (first _ _ typed) (taken_back frame HasWires fewer b.0 (taken frame a.0 made).made there) in
      let outer = gathered_typed op (taken frame a.0 made).split (taken frame b.0 (taken frame a.0 made).made) k (first _ _ g) former.typed latter.typed wires in
      record { typed = outer.typed; numbers = λ numbers. outer.numbers (latter.numbers (former.numbers numbers)) }

  paired_case : (form : Expr → Expr → Expr) → IsForm form → (a b : Claimed) (made : List Expr) (k : Kind) → IsTrue (is_number_kind k && (is_of_kind t before a.0 k && is_of_kind t before b.0 k))
      → HasWires (paired_after frame form (taken frame b.0) (taken frame a.0 made)).made → TakenTyped k made (paired_after frame form (taken frame b.0) (taken frame a.0 made))
  paired_case form is a b made k g wires =
      let typed = second (is_number_kind k) _ g in
      let there = paired_back frame HasWires fewer form (taken frame a.0 made).split (taken frame b.0 (taken frame a.0 made).made).split (taken frame b.0 (taken frame a.0 made).made).made wires in
      let latter = b.1 (taken frame a.0 made).made k (second (is_of_kind t before a.0 k) _ typed) there in
      let former = a.1 made k (first _ _ typed) (taken_back frame HasWires fewer b.0 (taken frame a.0 made).made there) in
      let outer = paired_typed form is (taken frame a.0 made).split (taken frame b.0 (taken frame a.0 made).made).split (taken frame b.0 (taken frame a.0 made).made).made k (first _ _ g) former.typed latter.typed wires in
      record { typed = outer.typed; numbers = λ numbers. outer.numbers (latter.numbers (former.numbers numbers)) }

  record PartsTyped (kinds : List Kind) (made : List Expr) (all : AllLeft) : Type 0 where
    typed : IsTrue (are_values (map (is_of_kind t after) all.exprs) kinds)
    numbers : AreNumbers made → AreNumbers all.made

  parts_case : (es : List Claimed) (kinds : List Kind) (made : List Expr) → IsTrue (are_values (map (is_of_kind t before) (map (λ e. e.0) es)) kinds)
      → HasWires (all_left frame (map (taken frame) (map (λ e. e.0) es)) made).made → PartsTyped kinds made (all_left frame (map (taken frame) (map (λ e. e.0) es)) made)
  parts_case [] [] made h wires = record { typed = refl; numbers = λ numbers. numbers }
  parts_case [] (k ∷ kinds) made h wires = absurd (cc)
  parts_case (e ∷ es) [] made h wires = absurd (cc)
  parts_case (e ∷ es) (k ∷ kinds) made h wires =
      let rest = parts_case es kinds (left_of frame (taken frame e.0 made)).made (second (is_of_kind t before e.0 k) _ h) wires in
      let there = all_back frame HasWires fewer (map (λ e. e.0) es) (left_of frame (taken frame e.0 made)).made wires in
      let inner = e.1 made k (first _ _ h) (closed_back frame HasWires fewer (taken frame e.0 made).split (taken frame e.0 made).made there) in
      let closing = closed_typed (taken frame e.0 made).split (taken frame e.0 made).made k inner.typed there in
      record { typed = both _ _ closing.typed rest.typed; numbers = λ numbers. rest.numbers (closing.numbers (inner.numbers numbers)) }

  tuple_case : (es : List Claimed) → Claim (expr.Tuple (map (λ e. e.0) es))
  tuple_case es made k h = rw (forms.taken-Tuple frame (map (λ e. e.0) es) made) (go (out-Kind k) refl (sym (laws.kind-Tuple t before (map (λ e. e.0) es) k) ∙ h))
    where
      go : (x : Kind-F Kind) → out-Kind k ≡ x → IsTrue (parts_are (map (is_of_kind t before) (map (λ e. e.0) es)) x)
          → HasWires (all_left frame (map (taken frame) (map (λ e. e.0) es)) made).made → TakenTyped k made (tuple_left frame (all_left frame (map (taken frame) (map (λ e. e.0) es)) made))
      go (Kind-F.Prod kinds) is g wires =
          let parts = parts_case es kinds made g wires in
          record {
            typed = laws.kind-Tuple t after (all_left frame (map (taken frame) (map (λ e. e.0) es)) made).exprs k
                ∙ (ap (parts_are (map (is_of_kind t after) (all_left frame (map (taken frame) (map (λ e. e.0) es)) made).exprs)) is ∙ parts.typed);
            numbers = parts.numbers;
          }
      go _ is g wires = absurd (cc)

  at : (y : Expr-F Claimed) → Claim (roll-Expr (map-Expr Claimed Expr (λ e. e.0) y))
  at (Expr-F.Own j) = subst Claim (sym (expr.rolls-Own j)) (own_case j)
  at (Expr-F.Inner i j) = subst Claim (sym (expr.rolls-Inner i j)) (inner_case i j)
  at (Expr-F.Constant v) = subst Claim (sym (expr.rolls-Constant v)) (constant_case v)
  at (Expr-F.Scale f a) = subst Claim (sym (expr.rolls-Scale f a.0)) (scale_case f a)
  at (Expr-F.Sum a b) = subst Claim (sym (expr.rolls-Sum a.0 b.0)) (λ made k h. rw (forms.taken-Sum frame a.0 b.0 made) (gathered_case by.Sum a b made k (sym (laws.kind-Sum t before a.0 b.0 k) ∙ h)))
  at (Expr-F.Product a b) =
      subst Claim (sym (expr.rolls-Product a.0 b.0)) (λ made k h. rw (forms.taken-Product frame a.0 b.0 made)
      (paired_case expr.Product (λ ports c d kind. laws.kind-Product t ports c d kind) a b made k (sym (laws.kind-Product t before a.0 b.0 k) ∙ h)))
  at (Expr-F.Greatest a b) = subst Claim (sym (expr.rolls-Greatest a.0 b.0)) (λ made k h. rw (forms.taken-Greatest frame a.0 b.0 made) (gathered_case by.Greatest a b made k (sym (laws.kind-Greatest t before a.0 b.0 k) ∙ h)))
  at (Expr-F.Lesser a b) =
      subst Claim (sym (expr.rolls-Lesser a.0 b.0)) (λ made k h. rw (forms.taken-Lesser frame a.0 b.0 made)
      (paired_case expr.Lesser (λ ports c d kind. laws.kind-Lesser t ports c d kind) a b made k (sym (laws.kind-Lesser t before a.0 b.0 k) ∙ h)))
  at (Expr-F.Tuple es) = subst Claim (sym (expr.rolls-Tuple (map (λ e. e.0) es))) (tuple_case es)

  taken_typed : (e : Expr) → Claim e
  taken_typed = ind-Expr Claim (λ x y is. subst (λ z. Claim (roll-Expr z)) is (at y))

  -- What is left is of the expression's type.
  pub residual_typed : (e : Expr) (made : List Expr) (k : Kind) → IsTrue (is_of_kind t before e k) → HasWires (residual frame e made).made → IsTrue (is_of_kind t after (residual frame e made).expr k)
  residual_typed e made k h wires =
      (closed_typed (taken frame e made).split (taken frame e made).made k (taken_typed e made k h (closed_back frame HasWires fewer (taken frame e made).split (taken frame e made).made wires)).typed wires).typed

  -- What its new wires carry are plain numbers, made of known wires alone.
  pub residual_numbers : (e : Expr) (made : List Expr) (k : Kind) → IsTrue (is_of_kind t before e k) → HasWires (residual frame e made).made → AreNumbers made → AreNumbers (residual frame e made).made
  residual_numbers e made k h wires numbers =
      let inner = taken_typed e made k h (closed_back frame HasWires fewer (taken frame e made).split (taken frame e made).made wires) in
      (closed_typed (taken frame e made).split (taken frame e made).made k inner.typed wires).numbers (inner.numbers numbers)
