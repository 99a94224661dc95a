-- What is left of an expression is worth what the expression is worth.
use Rattle.std.proofs.Common.{refl, sym, ap, subst, ◌∙◌}
use Rattle.std.specs.Prelude.{◌≡◌, ◌+◌, ◌++◌, ℕ, Bool, true, false, cond, List, [], ◌∷◌, map, length, Option, Some, None, slice_get}
use Rattle.order_core.specs.Num.{number_product, lesser_of}
use Rattle.unit_core.specs.Ratio.{ratio}
use Rattle.unit_core.specs.declared.fraction.Fraction.{Fraction}
use Rattle.value_type.specs.Scale.{scaled}
use Rattle.value_type.specs.declared.value.Value.{Value}
use Rattle.design_model.specs.ExprLaws as laws
use Rattle.design_model.specs.ValueOf.{Reads, value_of, number_in, of_one, of_two, together, tuple_of, with_first}
use Rattle.design_model.specs.declared.expr.Expr.TheFolds.{ind-Expr}
use Rattle.design_model.specs.declared.expr.Expr.TheOpen.{Expr-F}
use Rattle.design_model.specs.declared.expr.Expr.TheVariants as expr
use Rattle.design_model.specs.declared.expr.Expr.{Expr, roll-Expr, map-Expr}
use Rattle.expr_residual.specs.AppendLaws.{got_left, got_next}
use Rattle.expr_residual.specs.AssociativeLaws.{on_values, value-joined, values_commute, values_associate}
use Rattle.expr_residual.specs.Residual.{wire_of, Taken, Left, AllLeft, gets_wire, joined_by, same_operation, put, closed, put_together, operand, with_known, with_waiting, joined, gathered, gathered_after, paired, paired_after, both_left, single, single_of, left_of, all_left, tuple_left, known_or_waiting, taken, residual}
use Rattle.expr_residual.specs.ResidualGrowthLaws.{all_back, closed_back, gathered_back, operand_back, paired_back, single_back, taken_back}
use Rattle.expr_residual.specs.ResidualLaws as forms
use Rattle.expr_residual.specs.declared.split.Associative.TheVariants as by
use Rattle.expr_residual.specs.declared.split.Associative.{Associative}
use Rattle.expr_residual.specs.declared.frame.Frame.{Frame}
use Rattle.expr_residual.specs.declared.split.Split.TheVariants as split
use Rattle.expr_residual.specs.declared.split.Split.{Split}

same_is : (a b : Associative) → same_operation a b ≡ true → a ≡ b
same_is by.Sum by.Sum e = refl
same_is by.Sum by.Greatest e = absurd (cc)
same_is by.Greatest by.Sum e = absurd (cc)
same_is by.Greatest by.Greatest e = refl

-- Partly known operands are joined by this operation.
abbrev JoinedBy : Associative → Split → Type 0
JoinedBy op (split.Known e) = Unit {0}
JoinedBy op (split.Partly other known waiting) = other ≡ op
JoinedBy op (split.Waiting e) = Unit {0}

module _ (frame : Frame) (after : Reads) where
  abbrev pub read_by : Option ℕ → Option Value → Option Value
  read_by (Some wire) v = after.own wire
  read_by None v = v

  -- what the expression reads: a required port that a wire carries is worth what the wire carries
  abbrev pub before : Reads
  before = record { own = after.own; inner = λ i j. read_by (wire_of frame i j) (after.inner i j) }

  -- The new wires carry the values of these expressions.
  abbrev pub Carry : List Expr → Type 0
  Carry made = (i : ℕ) (e : Expr) → slice_get made i ≡ Some e → after.own (frame.next + i) ≡ value_of e after

  abbrev worth : Split → Option Value
  worth (split.Known e) = value_of e after
  worth (split.Partly op known waiting) = on_values op (value_of known after) (value_of waiting after)
  worth (split.Waiting e) = value_of e after

  pub fewer : (made : List Expr) (e : Expr) → Carry (made ++ e ∷ []) → Carry made
  fewer made e carry i x at = carry i x (got_left made (e ∷ []) i x at)

  -- Where the new wires carry their values, what is left is worth this.
  abbrev LeftWorth : Option Value → Left → Type 0
  LeftWorth value left = Carry left.made → value_of left.expr after ≡ value

  abbrev TakenWorth : Option Value → Taken → Type 0
  TakenWorth value taken = Carry taken.made → worth taken.split ≡ value

  put_worth : (e : Expr) (made : List Expr) → LeftWorth (value_of e after) (put frame e made)
  put_worth e made = go (gets_wire frame.start e)
    where
      go : (b : Bool) → LeftWorth (value_of e after) (cond {A = Left} b (record { expr = expr.Own (frame.next + length made); made = made ++ e ∷ [] }) (record { expr = e; made = made }))
      go true carry = laws.value-Own (frame.next + length made) after ∙ carry (length made) e (got_next made [] e)
      go false carry = refl

  closed_worth : (s : Split) (made : List Expr) → LeftWorth (worth s) (closed frame s made)
  closed_worth (split.Known e) made carry = put_worth e made carry
  closed_worth (split.Partly op known waiting) made carry =
      value-joined op (put frame known made).expr waiting after ∙ ap (λ v. on_values op v (value_of waiting after)) (put_worth known made carry)
  closed_worth (split.Waiting e) made carry = refl

  -- An operand is worth the same, and joined by the operation.
  operand_worth : (op : Associative) (s : Split) (made : List Expr) → Carry (operand frame op s made).made → (worth (operand frame op s made).split ≡ worth s) × JoinedBy op (operand frame op s made).split
  operand_worth op (split.Known e) made carry = (refl, tt)
  operand_worth op (split.Partly other known waiting) made carry = go (same_operation op other) refl carry
    where
      go : (b : Bool) → same_operation op other ≡ b → Carry (cond {A = Taken} b (record { split = split.Partly op known waiting; made = made }) (put_together frame (split.Partly other known waiting) made)).made → (worth (cond {A = Taken} b (record { split = split.Partly op known waiting; made = made }) (put_together frame (split.Partly other known waiting) made)).split ≡ worth (split.Partly other known waiting)) × JoinedBy op (cond {A = Taken} b (record { split = split.Partly op known waiting; made = made }) (put_together frame (split.Partly other known waiting) made)).split
      go true e carry = (ap (λ o. on_values o (value_of known after) (value_of waiting after)) (same_is op other e), refl)
      go false e carry = (closed_worth (split.Partly other known waiting) made carry, tt)
  operand_worth op (split.Waiting e) made carry = (refl, tt)

  -- Operands change places within a longer operation.
  swapped : (op : Associative) (x y z : Option Value) → on_values op x (on_values op y z) ≡ on_values op y (on_values op x z)
  swapped op x y z = sym (values_associate op x y z) ∙ (ap (λ v. on_values op v z) (values_commute op x y) ∙ values_associate op y x z)

  with_known_worth : (op : Associative) (a : Expr) (s : Split) → JoinedBy op s → worth (with_known op a s) ≡ on_values op (value_of a after) (worth s)
  with_known_worth op a (split.Known b) is = value-joined op a b after
  with_known_worth op a (split.Partly other known waiting) is =
      ap (λ v. on_values op v (value_of waiting after)) (value-joined op a known after)
      ∙ (values_associate op (value_of a after) (value_of known after) (value_of waiting after)
      ∙ ap (λ o. on_values op (value_of a after) (on_values o (value_of known after) (value_of waiting after))) (sym is))
  with_known_worth op a (split.Waiting waiting) is = refl

  with_waiting_worth : (op : Associative) (a : Expr) (s : Split) → JoinedBy op s → (worth (with_waiting op a s) ≡ on_values op (value_of a after) (worth s)) × JoinedBy op (with_waiting op a s)
  with_waiting_worth op a (split.Known b) is = (values_commute op (value_of b after) (value_of a after), refl)
  with_waiting_worth op a (split.Partly other known waiting) is = (
    ap (λ v. on_values op (value_of known after) v) (value-joined op a waiting after)
        ∙ (swapped op (value_of known after) (value_of a after) (value_of waiting after)
        ∙ ap (λ o. on_values op (value_of a after) (on_values o (value_of known after) (value_of waiting after))) (sym is)),
    refl,
  )
  with_waiting_worth op a (split.Waiting waiting) is = (value-joined op a waiting after, tt)

  joined_worth : (op : Associative) (s u : Split) → JoinedBy op s → JoinedBy op u → worth (joined op s u) ≡ on_values op (worth s) (worth u)
  joined_worth op (split.Known a) u is as_is = with_known_worth op a u as_is
  joined_worth op (split.Partly other known waiting) u is as_is =
      let r = with_waiting_worth op waiting u as_is in
      with_known_worth op known (with_waiting op waiting u) r.1
      ∙ (ap (on_values op (value_of known after)) r.0
      ∙ (sym (values_associate op (value_of known after) (value_of waiting after) (worth u))
      ∙ ap (λ o. on_values op (on_values o (value_of known after) (value_of waiting after)) (worth u)) (sym is)))
  joined_worth op (split.Waiting a) u is as_is = (with_waiting_worth op a u as_is).0

  gathered_worth : (op : Associative) (s : Split) (b : Taken) → TakenWorth (on_values op (worth s) (worth b.split)) (gathered frame op s b)
  gathered_worth op s b carry =
      let latter = operand_worth op b.split (operand frame op s b.made).made carry in
      let former = operand_worth op s b.made (operand_back frame Carry fewer op b.split (operand frame op s b.made).made carry) in
      joined_worth op (operand frame op s b.made).split (operand frame op b.split (operand frame op s b.made).made).split former.1 latter.1
      ∙ (λ i. on_values op (former.0 i) (latter.0 i))

  -- The form of an operation, and what it makes of the values of its operands.
  abbrev IsForm : (Expr → Expr → Expr) → (Option Value → Option Value → Option Value) → Type 0
  IsForm form op = (a b : Expr) → value_of (form a b) after ≡ op (value_of a after) (value_of b after)

  both_worth : (form : Expr → Expr → Expr) (op : Option Value → Option Value → Option Value) → IsForm form op → (s u : Split) (made : List Expr)
      → TakenWorth (op (worth s) (worth u)) (both_left frame form u (closed frame s made))
  both_worth form op is s u made carry =
      let latter = closed_worth u (closed frame s made).made carry in
      let former = closed_worth s made (closed_back frame Carry fewer u (closed frame s made).made carry) in
      is (closed frame s made).expr (closed frame u (closed frame s made).made).expr ∙ (λ i. op (former i) (latter i))

  paired_worth : (form : Expr → Expr → Expr) (op : Option Value → Option Value → Option Value) → IsForm form op → (s u : Split) (made : List Expr)
      → TakenWorth (op (worth s) (worth u)) (paired frame form s u made)
  paired_worth form op is (split.Known a) (split.Known b) made carry = is a b
  paired_worth form op is (split.Known a) (split.Partly other known waiting) made carry = both_worth form op is (split.Known a) (split.Partly other known waiting) made carry
  paired_worth form op is (split.Known a) (split.Waiting e) made carry = both_worth form op is (split.Known a) (split.Waiting e) made carry
  paired_worth form op is (split.Partly other known waiting) u made carry = both_worth form op is (split.Partly other known waiting) u made carry
  paired_worth form op is (split.Waiting e) u made carry = both_worth form op is (split.Waiting e) u made carry

  single_worth : (form : Expr → Expr) (op : Option Value → Option Value) → ((a : Expr) → value_of (form a) after ≡ op (value_of a after)) → (s : Split) (made : List Expr) → TakenWorth (op (worth s)) (single frame form s made)
  single_worth form op is (split.Known a) made carry = is a
  single_worth form op is (split.Partly other known waiting) made carry =
      is (closed frame (split.Partly other known waiting) made).expr ∙ ap op (closed_worth (split.Partly other known waiting) made carry)
  single_worth form op is (split.Waiting e) made carry = is e

  abbrev Claim : Expr → Type 0
  Claim e = (made : List Expr) → TakenWorth (value_of e before) (taken frame e made)

  abbrev Claimed : Type 0
  Claimed = (e : Expr) × Claim e

  own_case : (j : ℕ) → Claim (expr.Own j)
  own_case j made = rw (forms.taken-Own frame j made) (λ carry. laws.value-Own j after ∙ sym (laws.value-Own j before))

  inner_case : (i j : ℕ) → Claim (expr.Inner i j)
  inner_case i j made = rw (forms.taken-Inner frame i j made, laws.value-Inner i j before) (λ carry. go (wire_of frame i j))
    where
      go : (o : Option ℕ) → worth (known_or_waiting frame i j o) ≡ read_by o (after.inner i j)
      go (Some wire) = laws.value-Own wire after
      go None = laws.value-Inner i j after

  constant_case : (v : Value) → Claim (expr.Constant v)
  constant_case v made = rw (forms.taken-Constant frame v made) (λ carry. laws.value-Constant v after ∙ sym (laws.value-Constant v before))

  scale_case : (f : Fraction) (a : Claimed) → Claim (expr.Scale f a.0)
  scale_case f a made = rw (forms.taken-Scale frame f a.0 made, laws.value-Scale f a.0 before) (λ carry.
      single_worth (expr.Scale f) (λ v. of_one (scaled (ratio f)) (number_in v)) (λ e. laws.value-Scale f e after) (taken frame a.0 made).split (taken frame a.0 made).made carry
      ∙ ap (λ v. of_one (scaled (ratio f)) (number_in v)) (a.1 made (single_back frame Carry fewer (expr.Scale f) (taken frame a.0 made).split (taken frame a.0 made).made carry)))

  -- Operands that may be taken in any order, the second one taken apart after the first.
  gathered_case : (op : Associative) (a b : Claimed) (made : List Expr) → TakenWorth (on_values op (value_of a.0 before) (value_of b.0 before)) (gathered_after frame op (taken frame b.0) (taken frame a.0 made))
  gathered_case op a b made carry =
      let outer = gathered_worth op (taken frame a.0 made).split (taken frame b.0 (taken frame a.0 made).made) carry in
      let there = gathered_back frame Carry fewer op (taken frame a.0 made).split (taken frame b.0 (taken frame a.0 made).made) carry in
      let latter = b.1 (taken frame a.0 made).made there in
      let former = a.1 made (taken_back frame Carry fewer b.0 (taken frame a.0 made).made there) in
      outer ∙ (λ i. on_values op (former i) (latter i))

  paired_case : (form : Expr → Expr → Expr) (op : Option Value → Option Value → Option Value) → IsForm form op → (a b : Claimed) (made : List Expr)
      → TakenWorth (op (value_of a.0 before) (value_of b.0 before)) (paired_after frame form (taken frame b.0) (taken frame a.0 made))
  paired_case form op is a b made carry =
      let outer = paired_worth form op is (taken frame a.0 made).split (taken frame b.0 (taken frame a.0 made).made).split (taken frame b.0 (taken frame a.0 made).made).made carry in
      let there = paired_back frame Carry fewer form (taken frame a.0 made).split (taken frame b.0 (taken frame a.0 made).made).split (taken frame b.0 (taken frame a.0 made).made).made carry in
      let latter = b.1 (taken frame a.0 made).made there in
      let former = a.1 made (taken_back frame Carry fewer b.0 (taken frame a.0 made).made there) in
      outer ∙ (λ i. op (former i) (latter i))

  parts_case : (es : List Claimed) (made : List Expr) → Carry (all_left frame (map (taken frame) (map (λ e. e.0) es)) made).made
      → together (map value_of (all_left frame (map (taken frame) (map (λ e. e.0) es)) made).exprs) after ≡ together (map value_of (map (λ e. e.0) es)) before
  parts_case [] made carry = refl
  parts_case (e ∷ es) made carry =
      let rest = parts_case es (left_of frame (taken frame e.0 made)).made carry in
      let there = all_back frame Carry fewer (map (λ e. e.0) es) (left_of frame (taken frame e.0 made)).made carry in
      let closing = closed_worth (taken frame e.0 made).split (taken frame e.0 made).made there in
      let inner = e.1 made (closed_back frame Carry fewer (taken frame e.0 made).split (taken frame e.0 made).made there) in
      (λ i. with_first ((closing ∙ inner) i) (rest i))

  tuple_case : (es : List Claimed) → Claim (expr.Tuple (map (λ e. e.0) es))
  tuple_case es made = rw (forms.taken-Tuple frame (map (λ e. e.0) es) made, laws.value-Tuple (map (λ e. e.0) es) before) (λ carry.
      laws.value-Tuple (all_left frame (map (taken frame) (map (λ e. e.0) es)) made).exprs after ∙ ap tuple_of (parts_case es made carry))

  at : (y : Expr-F Claimed) → Claim (roll-Expr (map-Expr Claimed Expr (λ e. e.0) y))
  at (Expr-F.Own j) = subst Claim (sym (expr.rolls-Own j)) (own_case j)
  at (Expr-F.Inner i j) = subst Claim (sym (expr.rolls-Inner i j)) (inner_case i j)
  at (Expr-F.Constant v) = subst Claim (sym (expr.rolls-Constant v)) (constant_case v)
  at (Expr-F.Scale f a) = subst Claim (sym (expr.rolls-Scale f a.0)) (scale_case f a)
  at (Expr-F.Sum a b) = subst Claim (sym (expr.rolls-Sum a.0 b.0)) (λ made. rw (forms.taken-Sum frame a.0 b.0 made, laws.value-Sum a.0 b.0 before) (gathered_case by.Sum a b made))
  at (Expr-F.Product a b) = subst Claim (sym (expr.rolls-Product a.0 b.0)) (λ made. rw (forms.taken-Product frame a.0 b.0 made, laws.value-Product a.0 b.0 before)
      (paired_case expr.Product (λ v w. of_two number_product (number_in v) (number_in w)) (λ c d. laws.value-Product c d after) a b made))
  at (Expr-F.Greatest a b) = subst Claim (sym (expr.rolls-Greatest a.0 b.0)) (λ made. rw (forms.taken-Greatest frame a.0 b.0 made, laws.value-Greatest a.0 b.0 before) (gathered_case by.Greatest a b made))
  at (Expr-F.Lesser a b) = subst Claim (sym (expr.rolls-Lesser a.0 b.0)) (λ made. rw (forms.taken-Lesser frame a.0 b.0 made, laws.value-Lesser a.0 b.0 before)
      (paired_case expr.Lesser (λ v w. of_two lesser_of (number_in v) (number_in w)) (λ c d. laws.value-Lesser c d after) a b made))
  at (Expr-F.Tuple es) = subst Claim (sym (expr.rolls-Tuple (map (λ e. e.0) es))) (tuple_case es)

  taken_worth : (e : Expr) → Claim e
  taken_worth = ind-Expr Claim (λ x y is. subst (λ z. Claim (roll-Expr z)) is (at y))

  -- Where the new wires carry their values, what is left is worth what the expression is worth.
  pub residual_worth : (e : Expr) (made : List Expr) → Carry (residual frame e made).made → value_of (residual frame e made).expr after ≡ value_of e before
  residual_worth e made carry =
      closed_worth (taken frame e made).split (taken frame e made).made carry ∙ taken_worth e made (closed_back frame Carry fewer (taken frame e made).split (taken frame e made).made carry)
