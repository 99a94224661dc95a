-- Which ports an expression reads.
use Rattle.std.specs.Prelude.{ℕ, Bool, false, ◌||◌, ◌&&◌, ◌==◌}
use Rattle.std.specs.List.{list_any}
use Rattle.design_model.specs.declared.expr.Expr.{Expr, fold-Expr}
use Rattle.design_model.specs.declared.expr.Expr.TheOpen.{Expr-F}

-- one level of an expression, with the answers of its parts in their place
abbrev pub reads_step : (ℕ → ℕ → Bool) → Expr-F Bool → Bool
reads_step test (Expr-F.Own j) = false
reads_step test (Expr-F.Inner i j) = test i j
reads_step test (Expr-F.Constant v) = false
reads_step test (Expr-F.Scale by a) = a
reads_step test (Expr-F.Sum a b) = a || b
reads_step test (Expr-F.Product a b) = a || b
reads_step test (Expr-F.Greatest a b) = a || b
reads_step test (Expr-F.Lesser a b) = a || b
reads_step test (Expr-F.Tuple parts) = list_any (λ part. part) parts

-- The expression reads a required port of a part that passes the test, given the part's number and the port's.
abbrev pub reads_some : (ℕ → ℕ → Bool) → Expr → Bool
reads_some test = fold-Expr Bool (reads_step test)

-- It reads this required port of this part.
abbrev pub reads_port : Expr → ℕ → ℕ → Bool
reads_port expr part port = reads_some (λ i j. (i == part) && (j == port)) expr

-- It reads some required port of this part.
abbrev pub reads_part : Expr → ℕ → Bool
reads_part expr part = reads_some (λ i j. i == part) expr
