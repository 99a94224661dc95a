-- What is marked after several expressions.
use Rattle.std.proofs.Common.{refl, inl, inr}
use Rattle.std.specs.Prelude.{◌≡◌, ℕ, Bool, true, false, ◌||◌, ◌⊎◌}
use Rattle.design_model.specs.declared.expr.Expr.TheVariants as expr
use Rattle.design_model.specs.declared.expr.Expr.{Expr}
use Rattle.expr_residual.specs.Moved.{reads_wire}
use Rattle.expr_residual.specs.MovedLaws.{owns-Sum, owns-Product, owns-Greatest, owns-Lesser}

pub marked_twice : (before between after p q : Bool) → between ≡ (before || p) → after ≡ (between || q) → after ≡ (before || (p || q))
marked_twice true between after p q e f = rw e at f
marked_twice false between after p q e f = rw e at f

pub reads_both : (e a b : Expr) (k : ℕ) → (e ≡ expr.Sum a b) ⊎ ((e ≡ expr.Product a b) ⊎ ((e ≡ expr.Greatest a b) ⊎ (e ≡ expr.Lesser a b))) → reads_wire e k ≡ (reads_wire a k || reads_wire b k)
reads_both e a b k (inl is) = rw (is, owns-Sum) refl
reads_both e a b k (inr (inl is)) = rw (is, owns-Product) refl
reads_both e a b k (inr (inr (inl is))) = rw (is, owns-Greatest) refl
reads_both e a b k (inr (inr (inr is))) = rw (is, owns-Lesser) refl
