-- All types of numbers have the same expressions.
use Rattle.std.proofs.Common.{sym, ap, subst, ◌∙◌, refl}
use Rattle.std.specs.Prelude.{◌≡◌, Bool, true, false, ◌&&◌, IsTrue, List, map, Option, Some, None}
use Rattle.order_core.specs.MemberLaws.{first, second, both}
use Rattle.unit_core.specs.declared.dim.Dim.{Dim}
use Rattle.unit_core.specs.declared.fraction.Fraction.{Fraction}
use Rattle.value_type.specs.KindLaws.{fits-Num}
use Rattle.value_type.specs.SameForm.{form_step, same_form}
use Rattle.value_type.specs.declared.kind.Kind.TheFolds.{fold_out-Kind}
use Rattle.value_type.specs.declared.kind.Kind.TheOpen.{Kind-F}
use Rattle.value_type.specs.declared.kind.Kind.TheVariants as kind
use Rattle.value_type.specs.declared.kind.Kind.{Kind, map-Kind, out-Kind}
use Rattle.value_type.specs.declared.poset.Types.{Types}
use Rattle.design_model.specs.ExprKinds.{PortTypes, has_form, is_number_at, is_number_kind, is_of_kind, parts_are}
use Rattle.design_model.specs.ExprLaws as laws
use Rattle.design_model.specs.declared.expr.Expr.TheFolds.{ind-Expr}
use Rattle.design_model.specs.declared.expr.Expr.TheOpen.{Expr-F}
use Rattle.design_model.specs.declared.expr.Expr.TheVariants as expr
use Rattle.design_model.specs.declared.expr.Expr.{Expr, map-Expr, roll-Expr}

-- To a type of numbers, all types of numbers are one.
pub form_alike : (k : Kind) (a b : Dim) → same_form k (kind.Num a) ≡ same_form k (kind.Num b)
form_alike k a b = one_level a ∙ (alike (map-Kind Kind (Kind → Bool) same_form (out-Kind k)) ∙ sym (one_level b))
  where
    one_level : (dim : Dim) → same_form k (kind.Num dim) ≡ form_step (λ x y. true) (map-Kind Kind (Kind → Bool) same_form (out-Kind k)) (Kind-F.Num dim)
    one_level dim = rw (fold_out-Kind, kind.outs-Num) refl

    alike : (x : Kind-F (Kind → Bool)) → form_step (λ x y. true) x (Kind-F.Num a) ≡ form_step (λ x y. true) x (Kind-F.Num b)
    alike (Kind-F.Num dim) = refl
    alike (Kind-F.Fin n) = refl
    alike (Kind-F.Prod tests) = refl
    alike (Kind-F.Up n) = refl

pub number_kind : (a : Dim) → IsTrue (is_number_kind (kind.Num a))
number_kind a = ap is_number_at (kind.outs-Num a)

module _ (t : Types) (p : PortTypes) where
  abbrev Is : Expr → Kind → Type 0
  Is e k = IsTrue (is_of_kind t p e k)

  abbrev IsAlike : Expr → Type 0
  IsAlike e = (a b : Dim) → Is e (kind.Num a) → Is e (kind.Num b)

  abbrev Alike : Type 0
  Alike = (e : Expr) × IsAlike e

  port_alike : (o : Option Kind) (a b : Dim) → IsTrue (has_form o (kind.Num a)) → IsTrue (has_form o (kind.Num b))
  port_alike (Some k) a b h = form_alike k b a ∙ h
  port_alike None a b h = absurd (cc)

  two_alike : (whole : Expr) (x y : Alike) → ((k : Kind) → is_of_kind t p whole k ≡ (is_number_kind k && (is_of_kind t p x.0 k && is_of_kind t p y.0 k))) → IsAlike whole
  two_alike whole x y is a b h =
      let parts = second (is_number_kind (kind.Num a)) _ (sym (is (kind.Num a)) ∙ h) in
      is (kind.Num b) ∙ both _ _ (number_kind b) (both _ _ (x.1 a b (first _ _ parts)) (y.1 a b (second (is_of_kind t p x.0 (kind.Num a)) _ parts)))

  scale_alike : (by : Fraction) (x : Alike) → IsAlike (expr.Scale by x.0)
  scale_alike by x a b h =
      let part = second (is_number_kind (kind.Num a)) _ (sym (laws.kind-Scale t p by x.0 (kind.Num a)) ∙ h) in
      laws.kind-Scale t p by x.0 (kind.Num b) ∙ both _ _ (number_kind b) (x.1 a b part)

  tuple_alike : (parts : List Expr) → IsAlike (expr.Tuple parts)
  tuple_alike parts a b h =
      let none : false ≡ true = sym (ap (parts_are (map (is_of_kind t p) parts)) (kind.outs-Num a)) ∙ (sym (laws.kind-Tuple t p parts (kind.Num a)) ∙ h) in absurd (cc)

  alike_form : (y : Expr-F Alike) → IsAlike (roll-Expr (map-Expr Alike Expr (λ e. e.0) y))
  alike_form (Expr-F.Own j) = subst IsAlike (sym (expr.rolls-Own j)) (λ a b h. laws.kind-Own t p j (kind.Num b) ∙ port_alike (p.own j) a b (sym (laws.kind-Own t p j (kind.Num a)) ∙ h))
  alike_form (Expr-F.Inner i j) =
      subst IsAlike (sym (expr.rolls-Inner i j)) (λ a b h. laws.kind-Inner t p i j (kind.Num b) ∙ port_alike (p.inner i j) a b (sym (laws.kind-Inner t p i j (kind.Num a)) ∙ h))
  alike_form (Expr-F.Constant v) =
      subst IsAlike (sym (expr.rolls-Constant v)) (λ a b h. laws.kind-Constant t p v (kind.Num b) ∙ (fits-Num t b v ∙ (sym (fits-Num t a v) ∙ (sym (laws.kind-Constant t p v (kind.Num a)) ∙ h))))
  alike_form (Expr-F.Scale by x) = subst IsAlike (sym (expr.rolls-Scale by x.0)) (scale_alike by x)
  alike_form (Expr-F.Sum x y) = subst IsAlike (sym (expr.rolls-Sum x.0 y.0)) (two_alike (expr.Sum x.0 y.0) x y (laws.kind-Sum t p x.0 y.0))
  alike_form (Expr-F.Product x y) = subst IsAlike (sym (expr.rolls-Product x.0 y.0)) (two_alike (expr.Product x.0 y.0) x y (laws.kind-Product t p x.0 y.0))
  alike_form (Expr-F.Greatest x y) = subst IsAlike (sym (expr.rolls-Greatest x.0 y.0)) (two_alike (expr.Greatest x.0 y.0) x y (laws.kind-Greatest t p x.0 y.0))
  alike_form (Expr-F.Lesser x y) = subst IsAlike (sym (expr.rolls-Lesser x.0 y.0)) (two_alike (expr.Lesser x.0 y.0) x y (laws.kind-Lesser t p x.0 y.0))
  alike_form (Expr-F.Tuple parts) = subst IsAlike (sym (expr.rolls-Tuple (map (λ e. e.0) parts))) (tuple_alike (map (λ e. e.0) parts))

  -- An expression of one type of numbers is of each.
  pub number_alike : (e : Expr) → IsAlike e
  number_alike = ind-Expr IsAlike (λ x y is. subst (λ z. IsAlike (roll-Expr z)) is (alike_form y))
