-- What expressions and constraints read, as lists.
use Rattle.std.specs.Prelude.{ℕ, ◌+◌, Bool, cond, List, [], ◌∷◌, ◌++◌, zero, suc}
use Rattle.std.specs.List.{flat_map}
use Rattle.cut_plan.specs.declared.reads.Signal.{Signal}
use Rattle.design_model.specs.declared.expr.Constraint.{Constraint}
use Rattle.design_model.specs.declared.expr.Expr.{Expr, fold-Expr}
use Rattle.design_model.specs.declared.expr.Expr.TheOpen.{Expr-F}
use Rattle.design_model.specs.Evaluation.{is_into}

-- one level of an expression, with what its parts read in their place
abbrev pub read_step : Expr-F (List Signal) → List Signal
read_step (Expr-F.Own j) = []
read_step (Expr-F.Inner i j) = record { part = i; port = j } ∷ []
read_step (Expr-F.Constant v) = []
read_step (Expr-F.Scale by a) = a
read_step (Expr-F.Sum a b) = a ++ b
read_step (Expr-F.Product a b) = a ++ b
read_step (Expr-F.Greatest a b) = a ++ b
read_step (Expr-F.Lesser a b) = a ++ b
read_step (Expr-F.Tuple parts) = flat_map (λ part. part) parts

-- the required ports that the expression reads, in order of appearance
abbrev pub read_by : Expr → List Signal
read_by = fold-Expr (List Signal) read_step

abbrev pub read_if : Bool → Expr → List Signal
read_if b expr = cond b (read_by expr) []

-- the required ports that constraints into this part read
abbrev pub reads_into : List Constraint → ℕ → List Signal
reads_into [] part = []
reads_into (c ∷ constraints) part = read_if (is_into part c.greater) c.lower ++ reads_into constraints part

-- these, for n parts from this one on
abbrev pub table_from : List Constraint → ℕ → ℕ → List (List Signal)
table_from constraints start zero = []
table_from constraints start (suc n) = reads_into constraints start ∷ table_from constraints (start + 1) n
