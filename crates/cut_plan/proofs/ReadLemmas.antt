-- That the lists of what is read decide the tests.
use Rattle.std.proofs.Common.{refl, sym, ap, subst, ◌∙◌, arith}
use Rattle.std.specs.List.{list_any, flat_map}
use Rattle.std.specs.Prelude.{◌≡◌, ℕ, suc, ◌+◌, ◌-◌, ◌<◌, Bool, true, false, ◌||◌, ◌&&◌, List, [], ◌∷◌, ◌++◌, map}
use Rattle.cut_plan.specs.ReadLaws.{any_of}
use Rattle.cut_plan.specs.Reads.{read_by, read_if, reads_into, table_from}
use Rattle.cut_plan.specs.declared.reads.Signal.{Signal}
use Rattle.design_model.specs.Evaluation.{is_into}
use Rattle.design_model.specs.ExprLaws.{reads-Own, reads-Inner, reads-Constant, reads-Scale, reads-Sum, reads-Product, reads-Greatest, reads-Lesser, reads-Tuple}
use Rattle.design_model.specs.Reading.{reads_some}
use Rattle.design_model.specs.declared.expr.Constraint.{Constraint}
use Rattle.design_model.specs.declared.expr.Expr.TheFolds.{ind-Expr}
use Rattle.design_model.specs.declared.expr.Expr.TheOpen.{Expr-F}
use Rattle.design_model.specs.declared.expr.Expr.TheVariants as expr
use Rattle.design_model.specs.declared.expr.Expr.{Expr, fold_out-Expr, roll-Expr, map-Expr}
use Rattle.std.proofs.Math.Bool.{or-false}

flat_is : (parts : List Expr) → flat_map (λ part. part) (map read_by parts) ≡ flat_map read_by parts
flat_is [] = refl
flat_is (part ∷ parts) = ap (λ xs. read_by part ++ xs) (flat_is parts)

pub by-Own : (j : ℕ) → read_by (expr.Own j) ≡ []
by-Own j = rw (fold_out-Expr, expr.outs-Own) refl

pub by-Inner : (i j : ℕ) → read_by (expr.Inner i j) ≡ record { part = i; port = j } ∷ []
by-Inner i j = rw (fold_out-Expr, expr.outs-Inner) refl

pub by-Constant : (v : _) → read_by (expr.Constant v) ≡ []
by-Constant v = rw (fold_out-Expr, expr.outs-Constant) refl

pub by-Scale : (by : _) (a : Expr) → read_by (expr.Scale by a) ≡ read_by a
by-Scale by a = rw (fold_out-Expr, expr.outs-Scale) refl

pub by-Sum : (a b : Expr) → read_by (expr.Sum a b) ≡ read_by a ++ read_by b
by-Sum a b = rw (fold_out-Expr, expr.outs-Sum) refl

pub by-Product : (a b : Expr) → read_by (expr.Product a b) ≡ read_by a ++ read_by b
by-Product a b = rw (fold_out-Expr, expr.outs-Product) refl

pub by-Greatest : (a b : Expr) → read_by (expr.Greatest a b) ≡ read_by a ++ read_by b
by-Greatest a b = rw (fold_out-Expr, expr.outs-Greatest) refl

pub by-Lesser : (a b : Expr) → read_by (expr.Lesser a b) ≡ read_by a ++ read_by b
by-Lesser a b = rw (fold_out-Expr, expr.outs-Lesser) refl

pub by-Tuple : (parts : List Expr) → read_by (expr.Tuple parts) ≡ flat_map read_by parts
by-Tuple parts = rw (fold_out-Expr, expr.outs-Tuple) (flat_is parts)

or_assoc : (a b c : Bool) → (a || b) || c ≡ a || (b || c)
or_assoc true b c = refl
or_assoc false b c = refl

pub any_append : {A : Type 0} (p : A → Bool) (xs ys : List A) → list_any p (xs ++ ys) ≡ (list_any p xs || list_any p ys)
any_append p [] ys = refl
any_append p (x ∷ xs) ys = ap (λ b. p x || b) (any_append p xs ys) ∙ sym (or_assoc (p x) (list_any p xs) (list_any p ys))

module _ (test : ℕ → ℕ → Bool) where
  abbrev Said : Expr → Type 0
  Said e = reads_some test e ≡ any_of test (read_by e)

  abbrev Claimed : Type 0
  Claimed = (e : Expr) × Said e

  two : (a b : Claimed) → (reads_some test a.0 || reads_some test b.0) ≡ any_of test (read_by a.0 ++ read_by b.0)
  two a b = rw (a.1, b.1) (sym (any_append (λ s. test s.part s.port) (read_by a.0) (read_by b.0)))

  many : (es : List Claimed) → list_any (reads_some test) (map (λ e. e.0) es) ≡ any_of test (flat_map read_by (map (λ e. e.0) es))
  many [] = refl
  many (e ∷ es) = rw (e.1, many es) (sym (any_append (λ s. test s.part s.port) (read_by e.0) (flat_map read_by (map (λ e. e.0) es))))

  at : (y : Expr-F Claimed) → Said (roll-Expr (map-Expr Claimed Expr (λ e. e.0) y))
  at (Expr-F.Own j) = subst Said (sym (expr.rolls-Own j)) (rw (reads-Own, by-Own) refl)
  at (Expr-F.Inner i j) = subst Said (sym (expr.rolls-Inner i j)) (rw (reads-Inner, by-Inner) (sym (or-false (test i j))))
  at (Expr-F.Constant v) = subst Said (sym (expr.rolls-Constant v)) (rw (reads-Constant, by-Constant) refl)
  at (Expr-F.Scale by a) = subst Said (sym (expr.rolls-Scale by a.0)) (rw (reads-Scale, by-Scale) a.1)
  at (Expr-F.Sum a b) = subst Said (sym (expr.rolls-Sum a.0 b.0)) (rw (reads-Sum, by-Sum) (two a b))
  at (Expr-F.Product a b) = subst Said (sym (expr.rolls-Product a.0 b.0)) (rw (reads-Product, by-Product) (two a b))
  at (Expr-F.Greatest a b) = subst Said (sym (expr.rolls-Greatest a.0 b.0)) (rw (reads-Greatest, by-Greatest) (two a b))
  at (Expr-F.Lesser a b) = subst Said (sym (expr.rolls-Lesser a.0 b.0)) (rw (reads-Lesser, by-Lesser) (two a b))
  at (Expr-F.Tuple es) = subst Said (sym (expr.rolls-Tuple (map (λ e. e.0) es))) (rw (reads-Tuple, by-Tuple) (many es))

  pub expr_reads : (e : Expr) → reads_some test e ≡ any_of test (read_by e)
  expr_reads = ind-Expr Said (λ x y is. subst (λ z. Said (roll-Expr z)) is (at y))

  pub reads_are : (constraints : List Constraint) (part : ℕ)
      → list_any (λ c. is_into part c.greater && reads_some test c.lower) constraints ≡ any_of test (reads_into constraints part)
  reads_are [] part = refl
  reads_are (c ∷ cs) part = rw (reads_are cs part, any_append (λ (s : Signal). test s.part s.port) (read_if (is_into part c.greater) c.lower) (reads_into cs part)) (ap (λ b. b || any_of test (reads_into cs part)) (one (is_into part c.greater)))
    where
      one : (b : Bool) → (b && reads_some test c.lower) ≡ any_of test (read_if b c.lower)
      one true = expr_reads c.lower
      one false = refl

pub table_step : (constraints : List Constraint) (p n : ℕ) → p < n → table_from constraints p (n - p) ≡ reads_into constraints p ∷ table_from constraints (p + 1) (n - (p + 1))
table_step constraints p n h = let e : n - p ≡ suc (n - (p + 1)) = omega arith in rw e refl
