-- What taking apart an expression of each form comes to.
use Rattle.std.proofs.Common.{refl, ap}
use Rattle.std.specs.Prelude.{◌≡◌, ℕ, Bool, false, true, List, map}
use Rattle.unit_core.specs.declared.fraction.Fraction.{Fraction}
use Rattle.value_type.specs.declared.value.Value.{Value}
use Rattle.design_model.specs.declared.expr.Expr.TheFolds.{fold_out-Expr}
use Rattle.design_model.specs.declared.expr.Expr.TheVariants as expr
use Rattle.design_model.specs.declared.expr.Expr.{Expr}
use Rattle.expr_residual.specs.Residual.{wire_of, Taken, taken, gathered_after, known_or_waiting, paired_after, single_of, tuple_left, all_left}
use Rattle.expr_residual.specs.declared.split.Associative.TheVariants as by
use Rattle.expr_residual.specs.declared.frame.Frame.{Frame}
use Rattle.expr_residual.specs.declared.split.Split.TheVariants as split

module _ (frame : Frame) where
  pub taken-Own : (j : ℕ) (made : List Expr) → taken frame (expr.Own j) made ≡ record { split = split.Known (expr.Own j); made = made }
  taken-Own j made = rw (fold_out-Expr, expr.outs-Own) refl

  pub taken-Inner : (i j : ℕ) (made : List Expr) → taken frame (expr.Inner i j) made ≡ record { split = known_or_waiting frame i j (wire_of frame i j); made = made }
  taken-Inner i j made = rw (fold_out-Expr, expr.outs-Inner) refl

  pub taken-Constant : (v : Value) (made : List Expr) → taken frame (expr.Constant v) made ≡ record { split = split.Known (expr.Constant v); made = made }
  taken-Constant v made = rw (fold_out-Expr, expr.outs-Constant) refl

  pub taken-Scale : (f : Fraction) (a : Expr) (made : List Expr) → taken frame (expr.Scale f a) made ≡ single_of frame (expr.Scale f) (taken frame a made)
  taken-Scale f a made = rw (fold_out-Expr, expr.outs-Scale) refl

  pub taken-Sum : (a b : Expr) (made : List Expr) → taken frame (expr.Sum a b) made ≡ gathered_after frame by.Sum (taken frame b) (taken frame a made)
  taken-Sum a b made = rw (fold_out-Expr, expr.outs-Sum) refl

  pub taken-Product : (a b : Expr) (made : List Expr) → taken frame (expr.Product a b) made ≡ paired_after frame expr.Product (taken frame b) (taken frame a made)
  taken-Product a b made = rw (fold_out-Expr, expr.outs-Product) refl

  pub taken-Greatest : (a b : Expr) (made : List Expr) → taken frame (expr.Greatest a b) made ≡ gathered_after frame by.Greatest (taken frame b) (taken frame a made)
  taken-Greatest a b made = rw (fold_out-Expr, expr.outs-Greatest) refl

  pub taken-Lesser : (a b : Expr) (made : List Expr) → taken frame (expr.Lesser a b) made ≡ paired_after frame expr.Lesser (taken frame b) (taken frame a made)
  taken-Lesser a b made = rw (fold_out-Expr, expr.outs-Lesser) refl

  pub taken-Tuple : (parts : List Expr) (made : List Expr) → taken frame (expr.Tuple parts) made ≡ tuple_left frame (all_left frame (map (taken frame) parts) made)
  taken-Tuple parts made = rw (fold_out-Expr, expr.outs-Tuple) refl
