-- What an expression reads under one test it reads under a weaker one.
use Rattle.std.proofs.Common.{refl, sym, subst}
use Rattle.std.specs.List.{list_any}
use Rattle.std.specs.Prelude.{ℕ, Bool, true, false, ◌||◌, IsTrue, List, [], ◌∷◌, map}
use Rattle.design_model.specs.ExprLaws as laws
use Rattle.design_model.specs.Reading.{reads_some}
use Rattle.design_model.specs.declared.expr.Expr.TheFolds.{ind-Expr}
use Rattle.design_model.specs.declared.expr.Expr.TheOpen.{Expr-F}
use Rattle.design_model.specs.declared.expr.Expr.TheVariants as expr
use Rattle.design_model.specs.declared.expr.Expr.{Expr, roll-Expr, map-Expr}

either : (a b c d : Bool) → (IsTrue a → IsTrue c) → (IsTrue b → IsTrue d) → IsTrue (a || b) → IsTrue (c || d)
either true b true d f g h = refl
either true b false d f g h = absurd (let no_c = f refl in cc)
either false b true d f g h = refl
either false b false d f g h = g h

module _ (test weaker : ℕ → ℕ → Bool) (weakens : (i j : ℕ) → IsTrue (test i j) → IsTrue (weaker i j)) where
  abbrev Claim : Expr → Type 0
  Claim e = IsTrue (reads_some test e) → IsTrue (reads_some weaker e)

  abbrev Claimed : Type 0
  Claimed = (e : Expr) × Claim e

  parts_case : (es : List Claimed) → IsTrue (list_any (reads_some test) (map (λ e. e.0) es)) → IsTrue (list_any (reads_some weaker) (map (λ e. e.0) es))
  parts_case [] h = absurd (cc)
  parts_case (e ∷ es) h = either (reads_some test e.0) _ (reads_some weaker e.0) _ e.1 (parts_case es) h

  at : (y : Expr-F Claimed) → Claim (roll-Expr (map-Expr Claimed Expr (λ e. e.0) y))
  at (Expr-F.Own j) = subst Claim (sym (expr.rolls-Own j)) (λ h. absurd (let none = laws.reads-Own test j in cc))
  at (Expr-F.Inner i j) = subst Claim (sym (expr.rolls-Inner i j)) (λ h. rw laws.reads-Inner (weakens i j (rw laws.reads-Inner at h)))
  at (Expr-F.Constant v) = subst Claim (sym (expr.rolls-Constant v)) (λ h. absurd (let none = laws.reads-Constant test v in cc))
  at (Expr-F.Scale by a) = subst Claim (sym (expr.rolls-Scale by a.0)) (λ h. rw laws.reads-Scale (a.1 (rw laws.reads-Scale at h)))
  at (Expr-F.Sum a b) = subst Claim (sym (expr.rolls-Sum a.0 b.0)) (λ h. rw laws.reads-Sum (either _ _ (reads_some weaker a.0) (reads_some weaker b.0) a.1 b.1 (rw laws.reads-Sum at h)))
  at (Expr-F.Product a b) = subst Claim (sym (expr.rolls-Product a.0 b.0)) (λ h. rw laws.reads-Product (either _ _ (reads_some weaker a.0) (reads_some weaker b.0) a.1 b.1 (rw laws.reads-Product at h)))
  at (Expr-F.Greatest a b) = subst Claim (sym (expr.rolls-Greatest a.0 b.0)) (λ h. rw laws.reads-Greatest (either _ _ (reads_some weaker a.0) (reads_some weaker b.0) a.1 b.1 (rw laws.reads-Greatest at h)))
  at (Expr-F.Lesser a b) = subst Claim (sym (expr.rolls-Lesser a.0 b.0)) (λ h. rw laws.reads-Lesser (either _ _ (reads_some weaker a.0) (reads_some weaker b.0) a.1 b.1 (rw laws.reads-Lesser at h)))
  at (Expr-F.Tuple es) = subst Claim (sym (expr.rolls-Tuple (map (λ e. e.0) es))) (λ h. rw laws.reads-Tuple (parts_case es (rw laws.reads-Tuple at h)))

  pub reads_weaker : (e : Expr) → IsTrue (reads_some test e) → IsTrue (reads_some weaker e)
  reads_weaker = ind-Expr Claim (λ x y is. subst (λ z. Claim (roll-Expr z)) is (at y))
