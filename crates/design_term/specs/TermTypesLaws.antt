-- When each form of term is typed.
use Rattle.std.specs.Prelude.{◌≡◌, ◌<◌, ℕ, List, ◌++◌, length}
use Rattle.std.proofs.Common.{refl, sym, ap, ◌∙◌}
use Rattle.std.proofs.lemmas.List.{length-map}
use Rattle.order_core.specs.Pointwise.{Each}
use Rattle.order_core.specs.PointwiseLaws.{Each-map}
use Rattle.value_type.specs.declared.kind.Kind.{Kind}
use Rattle.value_type.specs.declared.poset.Types.{Types}
use Rattle.design_term.specs.declared.term.Primitive.{Primitive}
use Rattle.design_term.specs.declared.term.Term.{Term, out-Term, roll-out-Term, rec-Term, rec-roll-Term, map-Term}
use Rattle.design_term.specs.declared.term.Term.TheOpen.{Term-F}
use Rattle.design_term.specs.declared.term.Term.TheVariants.{Prim, Sub, Series, Par, Alt, Loop, outs-Prim, outs-Sub, outs-Series, outs-Par, outs-Alt, outs-Loop}
use Rattle.design_term.specs.Outcomes.{AreSideBySide}
use Rattle.design_term.specs.TermTypes.{PrimIsTyped, TermIsTyped, TermIsTypedAt}

-- a relation between types of inputs and types of outputs
abbrev At : Type 1
At = List Kind → List Kind → Type 0

-- One level of a term is typed the same, whether its inner terms are taken as terms before or after.
typed_natural : (t : Types) (X : Type 0) (term : X → Term) (typed : Term → At) (x : Term-F X)
    → TermIsTypedAt t X term (λ y. typed (term y)) x ≡ TermIsTypedAt t Term (λ y. y) typed (map-Term X Term term x)
typed_natural t X term typed (Term-F.Prim prim) = refl
typed_natural t X term typed (Term-F.Sub part inner) = refl
typed_natural t X term typed (Term-F.Series a b) = refl
typed_natural t X term typed (Term-F.Par a b) = refl
typed_natural t X term typed (Term-F.Alt terms) = λ i ins outs. (0 < sym (length-map terms term) i) × Each-map term (λ y. typed y ins outs) terms i
typed_natural t X term typed (Term-F.Loop state body) = refl

-- When a term is typed, by its outermost form.
TermIsTyped-out : (t : Types) (term : Term) → TermIsTyped t term ≡ TermIsTypedAt t Term (λ y. y) (TermIsTyped t) (out-Term term)
unfolding TermIsTyped
TermIsTyped-out t term =
    ap (rec-Term At (TermIsTypedAt t)) (sym (roll-out-Term term))
    ∙ rec-roll-Term At (TermIsTypedAt t) (λ X v k x. typed_natural t X v k x) (out-Term term)

-- From these types of inputs to these types of outputs:
module _ (t : Types) (ins outs : List Kind) where
  -- A primitive term is typed as its own form says.
  pub typed-Prim : (prim : Primitive) → TermIsTyped t (Prim prim) ins outs ≡ PrimIsTyped t prim ins outs
  typed-Prim prim = rw (TermIsTyped-out, outs-Prim)

  -- What stands for a part is typed where the inner term is.
  pub typed-Sub : (part : ℕ) (inner : Term) → TermIsTyped t (Sub part inner) ins outs ≡ TermIsTyped t inner ins outs
  typed-Sub part inner = rw (TermIsTyped-out, outs-Sub)

  -- A series is typed where some types stand between the first term and the second.
  pub typed-Series : (a b : Term) → TermIsTyped t (Series a b) ins outs ≡ ((middle : List Kind) × TermIsTyped t a ins middle × TermIsTyped t b middle outs)
  typed-Series a b = rw (TermIsTyped-out, outs-Series)

  -- Two terms side by side are typed where the types of outputs are those of the first, followed by those of the second.
  pub typed-Par : (a b : Term) → TermIsTyped t (Par a b) ins outs ≡ AreSideBySide (TermIsTyped t a ins) (TermIsTyped t b ins) outs
  typed-Par a b = rw (TermIsTyped-out, outs-Par)

  -- Several terms are typed where there is one at least, and each is typed so.
  pub typed-Alt : (terms : List Term) → TermIsTyped t (Alt terms) ins outs ≡ ((0 < length terms) × Each (λ term. TermIsTyped t term ins outs) terms)
  typed-Alt terms = rw (TermIsTyped-out, outs-Alt)

  -- A loop is typed where outputs are states, and its body leads from an input followed by a state to a state.
  pub typed-Loop : (state : List Kind) (body : Term) → TermIsTyped t (Loop state body) ins outs ≡ ((outs ≡ state) × TermIsTyped t body (ins ++ state) state)
  typed-Loop state body = rw (TermIsTyped-out, outs-Loop)
