-- While expressions are taken apart, the list of those with new wires only grows.
use Rattle.std.proofs.Common.{sym, subst}
use Rattle.std.specs.Prelude.{◌+◌, ◌++◌, ℕ, Bool, true, false, cond, List, [], ◌∷◌, map, length, Option, Some, None}
use Rattle.unit_core.specs.declared.fraction.Fraction.{Fraction}
use Rattle.value_type.specs.declared.value.Value.{Value}
use Rattle.design_model.specs.declared.expr.Expr.TheFolds.{ind-Expr}
use Rattle.design_model.specs.declared.expr.Expr.TheOpen.{Expr-F}
use Rattle.design_model.specs.declared.expr.Expr.TheVariants as expr
use Rattle.design_model.specs.declared.expr.Expr.{Expr, roll-Expr, map-Expr}
use Rattle.expr_residual.specs.Residual.{Taken, Left, gets_wire, same_operation, put, closed, put_together, operand, gathered, gathered_after, paired, paired_after, both_left, single, single_of, left_of, all_left, taken, residual}
use Rattle.expr_residual.specs.ResidualLaws as forms
use Rattle.expr_residual.specs.declared.split.Associative.TheVariants as by
use Rattle.expr_residual.specs.declared.split.Associative.{Associative}
use Rattle.expr_residual.specs.declared.frame.Frame.{Frame}
use Rattle.expr_residual.specs.declared.split.Split.TheVariants as split
use Rattle.expr_residual.specs.declared.split.Split.{Split}

-- What holds of a list of such expressions and holds of each list with one fewer, holds of the list before.
module _ (frame : Frame) (Holds : List Expr → Type 0) (fewer : (made : List Expr) (e : Expr) → Holds (made ++ e ∷ []) → Holds made) where
  pub put_back : (e : Expr) (made : List Expr) → Holds (put frame e made).made → Holds made
  put_back e made = go (gets_wire frame.start e)
    where
      go : (b : Bool) → Holds (cond {A = Left} b (record { expr = expr.Own (frame.next + length made); made = made ++ e ∷ [] }) (record { expr = e; made = made })).made → Holds made
      go true h = fewer made e h
      go false h = h

  pub closed_back : (s : Split) (made : List Expr) → Holds (closed frame s made).made → Holds made
  closed_back (split.Known e) made h = put_back e made h
  closed_back (split.Partly op known waiting) made h = put_back known made h
  closed_back (split.Waiting e) made h = h

  pub operand_back : (op : Associative) (s : Split) (made : List Expr) → Holds (operand frame op s made).made → Holds made
  operand_back op (split.Known e) made h = h
  operand_back op (split.Partly other known waiting) made h = go (same_operation op other) h
    where
      go : (b : Bool) → Holds (cond {A = Taken} b (record { split = split.Partly op known waiting; made = made }) (put_together frame (split.Partly other known waiting) made)).made → Holds made
      go true h = h
      go false h = closed_back (split.Partly other known waiting) made h
  operand_back op (split.Waiting e) made h = h

  pub gathered_back : (op : Associative) (s : Split) (b : Taken) → Holds (gathered frame op s b).made → Holds b.made
  gathered_back op s b h = operand_back op s b.made (operand_back op b.split (operand frame op s b.made).made h)

  pub both_back : (form : Expr → Expr → Expr) (s u : Split) (made : List Expr) → Holds (both_left frame form u (closed frame s made)).made → Holds made
  both_back form s u made h = closed_back s made (closed_back u (closed frame s made).made h)

  pub paired_back : (form : Expr → Expr → Expr) (s u : Split) (made : List Expr) → Holds (paired frame form s u made).made → Holds made
  paired_back form (split.Known a) (split.Known b) made h = h
  paired_back form (split.Known a) (split.Partly op known waiting) made h = both_back form (split.Known a) (split.Partly op known waiting) made h
  paired_back form (split.Known a) (split.Waiting e) made h = both_back form (split.Known a) (split.Waiting e) made h
  paired_back form (split.Partly op known waiting) u made h = both_back form (split.Partly op known waiting) u made h
  paired_back form (split.Waiting e) u made h = both_back form (split.Waiting e) u made h

  pub single_back : (form : Expr → Expr) (s : Split) (made : List Expr) → Holds (single frame form s made).made → Holds made
  single_back form (split.Known a) made h = h
  single_back form (split.Partly op known waiting) made h = closed_back (split.Partly op known waiting) made h
  single_back form (split.Waiting e) made h = h

  abbrev Claim : Expr → Type 0
  Claim e = (made : List Expr) → Holds (taken frame e made).made → Holds made

  abbrev Claimed : Type 0
  Claimed = (e : Expr) × Claim e

  gathered_case : (op : Associative) (a b : Claimed) (made : List Expr) → Holds (gathered_after frame op (taken frame b.0) (taken frame a.0 made)).made → Holds made
  gathered_case op a b made h =
      a.1 made (b.1 (taken frame a.0 made).made (gathered_back op (taken frame a.0 made).split (taken frame b.0 (taken frame a.0 made).made) h))

  paired_case : (form : Expr → Expr → Expr) (a b : Claimed) (made : List Expr) → Holds (paired_after frame form (taken frame b.0) (taken frame a.0 made)).made → Holds made
  paired_case form a b made h =
      a.1 made (b.1 (taken frame a.0 made).made
      (paired_back form (taken frame a.0 made).split (taken frame b.0 (taken frame a.0 made).made).split (taken frame b.0 (taken frame a.0 made).made).made h))

  scale_case : (f : Fraction) (a : Claimed) (made : List Expr) → Holds (single_of frame (expr.Scale f) (taken frame a.0 made)).made → Holds made
  scale_case f a made h = a.1 made (single_back (expr.Scale f) (taken frame a.0 made).split (taken frame a.0 made).made h)

  parts_back : (es : List Claimed) (made : List Expr) → Holds (all_left frame (map (taken frame) (map (λ e. e.0) es)) made).made → Holds made
  parts_back [] made h = h
  parts_back (e ∷ es) made h =
      e.1 made (closed_back (taken frame e.0 made).split (taken frame e.0 made).made (parts_back es (left_of frame (taken frame e.0 made)).made h))

  at : (y : Expr-F Claimed) → Claim (roll-Expr (map-Expr Claimed Expr (λ e. e.0) y))
  at (Expr-F.Own j) = subst Claim (sym (expr.rolls-Own j)) (λ made. rw (forms.taken-Own frame j made) (λ h. h))
  at (Expr-F.Inner i j) = subst Claim (sym (expr.rolls-Inner i j)) (λ made. rw (forms.taken-Inner frame i j made) (λ h. h))
  at (Expr-F.Constant v) = subst Claim (sym (expr.rolls-Constant v)) (λ made. rw (forms.taken-Constant frame v made) (λ h. h))
  at (Expr-F.Scale f a) = subst Claim (sym (expr.rolls-Scale f a.0)) (λ made. rw (forms.taken-Scale frame f a.0 made) (scale_case f a made))
  at (Expr-F.Sum a b) = subst Claim (sym (expr.rolls-Sum a.0 b.0)) (λ made. rw (forms.taken-Sum frame a.0 b.0 made) (gathered_case by.Sum a b made))
  at (Expr-F.Product a b) = subst Claim (sym (expr.rolls-Product a.0 b.0)) (λ made. rw (forms.taken-Product frame a.0 b.0 made) (paired_case expr.Product a b made))
  at (Expr-F.Greatest a b) = subst Claim (sym (expr.rolls-Greatest a.0 b.0)) (λ made. rw (forms.taken-Greatest frame a.0 b.0 made) (gathered_case by.Greatest a b made))
  at (Expr-F.Lesser a b) = subst Claim (sym (expr.rolls-Lesser a.0 b.0)) (λ made. rw (forms.taken-Lesser frame a.0 b.0 made) (paired_case expr.Lesser a b made))
  at (Expr-F.Tuple es) = subst Claim (sym (expr.rolls-Tuple (map (λ e. e.0) es))) (λ made. rw (forms.taken-Tuple frame (map (λ e. e.0) es) made) (parts_back es made))

  pub taken_back : (e : Expr) (made : List Expr) → Holds (taken frame e made).made → Holds made
  taken_back = ind-Expr Claim (λ x y is. subst (λ z. Claim (roll-Expr z)) is (at y))

  pub residual_back : (e : Expr) (made : List Expr) → Holds (residual frame e made).made → Holds made
  residual_back e made h = taken_back e made (closed_back (taken frame e made).split (taken frame e made).made h)

  pub all_back : (es : List Expr) (made : List Expr) → Holds (all_left frame (map (taken frame) es) made).made → Holds made
  all_back [] made h = h
  all_back (e ∷ es) made h = residual_back e made (all_back es (left_of frame (taken frame e made)).made h)
