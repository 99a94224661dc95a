-- The own ports that an expression reads, and the expression over other ones.
use Rattle.std.specs.Prelude.{ℕ, Bool, false, ◌||◌, ◌==◌, List, Option, Some, None}
use Rattle.std.specs.List.{list_any}
use Rattle.design_model.specs.declared.expr.Expr.{Expr, fold-Expr}
use Rattle.design_model.specs.declared.expr.Expr.TheOpen.{Expr-F}
use Rattle.design_model.specs.declared.expr.Expr.TheVariants as expr

-- one level of an expression, with the answers of its parts in their place
abbrev pub own_step : (ℕ → Bool) → Expr-F Bool → Bool
own_step test (Expr-F.Own j) = test j
own_step test (Expr-F.Inner i j) = false
own_step test (Expr-F.Constant v) = false
own_step test (Expr-F.Scale by a) = a
own_step test (Expr-F.Sum a b) = a || b
own_step test (Expr-F.Product a b) = a || b
own_step test (Expr-F.Greatest a b) = a || b
own_step test (Expr-F.Lesser a b) = a || b
own_step test (Expr-F.Tuple parts) = list_any (λ part. part) parts

-- The expression reads an own port whose number passes the test.
abbrev pub reads_own : (ℕ → Bool) → Expr → Bool
reads_own test = fold-Expr Bool (own_step test)

-- It reads the own port of this number.
abbrev pub reads_wire : Expr → ℕ → Bool
reads_wire expr wire = reads_own (λ j. j == wire) expr

-- a required port of a part, or the own port that stands for it
abbrev pub inner_or_own : ℕ → ℕ → Option ℕ → Expr
inner_or_own i j (Some wire) = expr.Own wire
inner_or_own i j None = expr.Inner i j

-- one level of an expression, with its parts over other ports in their place
abbrev pub move_step : (ℕ → ℕ) → (ℕ → ℕ → Option ℕ) → Expr-F Expr → Expr
move_step to wire (Expr-F.Own j) = expr.Own (to j)
move_step to wire (Expr-F.Inner i j) = inner_or_own i j (wire i j)
move_step to wire (Expr-F.Constant v) = expr.Constant v
move_step to wire (Expr-F.Scale by a) = expr.Scale by a
move_step to wire (Expr-F.Sum a b) = expr.Sum a b
move_step to wire (Expr-F.Product a b) = expr.Product a b
move_step to wire (Expr-F.Greatest a b) = expr.Greatest a b
move_step to wire (Expr-F.Lesser a b) = expr.Lesser a b
move_step to wire (Expr-F.Tuple parts) = expr.Tuple parts

-- The expression over other ports: an own port gives way to the own port of the number to which its number leads, and a part's required port to the own port that stands for it, if there is one.
abbrev pub moved : (ℕ → ℕ) → (ℕ → ℕ → Option ℕ) → Expr → Expr
moved to wire = fold-Expr Expr (move_step to wire)

-- No own port stands for a part's.
abbrev pub no_wire : ℕ → ℕ → Option ℕ
no_wire i j = None
