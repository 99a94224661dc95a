-- What each form of term relates.
use Rattle.std.specs.Prelude.{◌≡◌, ℕ, IsSomeAnd, List, ◌++◌, slice_get}
use Rattle.std.proofs.Common.{refl, sym, ap, ◌∙◌}
use Rattle.order_core.specs.Chains.{EndsChain}
use Rattle.order_core.specs.PointwiseLaws.{at-map}
use Rattle.value_type.specs.declared.kind.Kind.{Kind}
use Rattle.value_type.specs.declared.poset.Types.{Types}
use Rattle.value_type.specs.Fits.{row_fits}
use Rattle.value_type.specs.Leq.{row_leq}
use Rattle.design_model.specs.Rows.{Row}
use Rattle.design_term.specs.declared.term.Primitive.{Primitive}
use Rattle.design_term.specs.declared.term.Term.{Term, out-Term, roll-out-Term, rec-Term, rec-roll-Term, map-Term}
use Rattle.design_term.specs.declared.term.Term.TheOpen.{Term-F}
use Rattle.design_term.specs.declared.term.Term.TheVariants.{Prim, Sub, Series, Par, Alt, Loop, outs-Prim, outs-Sub, outs-Series, outs-Par, outs-Alt, outs-Loop}
use Rattle.design_term.specs.Outcomes.{Gives, AreSideBySide, Relates, RelatesAt}

-- a relation between inputs and outputs
abbrev At : Type 1
At = Row → Row → Type 0

-- One level of a term relates the same, whether its inner terms are taken as terms before or after.
relates_natural : (t : Types) (n : ℕ) (X : Type 0) (term : X → Term) (relates : Term → At) (x : Term-F X)
    → RelatesAt t n X term (λ y. relates (term y)) x ≡ RelatesAt t n Term (λ y. y) relates (map-Term X Term term x)
relates_natural t n X term relates (Term-F.Prim prim) = refl
relates_natural t n X term relates (Term-F.Sub part inner) = refl
relates_natural t n X term relates (Term-F.Series a b) = refl
relates_natural t n X term relates (Term-F.Par a b) = refl
relates_natural t n X term relates (Term-F.Alt terms) = λ i x y. (number : ℕ) × at-map term (λ z. relates z x y) terms number i
relates_natural t n X term relates (Term-F.Loop state body) = refl

-- What a term relates, by its outermost form.
Relates-out : (t : Types) (n : ℕ) (term : Term) → Relates t n term ≡ RelatesAt t n Term (λ y. y) (Relates t n) (out-Term term)
unfolding Relates
Relates-out t n term =
    ap (rec-Term At (RelatesAt t n)) (sym (roll-out-Term term))
    ∙ rec-roll-Term At (RelatesAt t n) (λ X v k x. relates_natural t n X v k x) (out-Term term)

-- Of an input x and an output y, where each loop takes n steps:
module _ (t : Types) (n : ℕ) (x y : Row) where
  -- A primitive term relates what it gives.
  pub Relates-Prim : (prim : Primitive) → Relates t n (Prim prim) x y ≡ Gives t prim x y
  Relates-Prim prim = rw (Relates-out, outs-Prim)

  -- What stands for a part relates what the inner term does.
  pub Relates-Sub : (part : ℕ) (inner : Term) → Relates t n (Sub part inner) x y ≡ Relates t n inner x y
  Relates-Sub part inner = rw (Relates-out, outs-Sub)

  -- A series relates where the first term leads from the input to some row, and the second from that row to the output.
  pub Relates-Series : (a b : Term) → Relates t n (Series a b) x y ≡ ((middle : Row) × Relates t n a x middle × Relates t n b middle y)
  Relates-Series a b = rw (Relates-out, outs-Series)

  -- Two terms side by side relate an input to an output of the first, followed by one of the second.
  pub Relates-Par : (a b : Term) → Relates t n (Par a b) x y ≡ AreSideBySide (Relates t n a x) (Relates t n b x) y
  Relates-Par a b = rw (Relates-out, outs-Par)

  -- Several terms relate what one of them does.
  pub Relates-Alt : (terms : List Term) → Relates t n (Alt terms) x y ≡ ((number : ℕ) × IsSomeAnd (slice_get terms number) (λ term. Relates t n term x y))
  Relates-Alt terms = rw (Relates-out, outs-Alt)

  -- A loop relates an input to the ends of chains of n steps of its body there.
  pub Relates-Loop : (state : List Kind) (body : Term) → Relates t n (Loop state body) x y
      ≡ EndsChain (row_fits t state) (row_leq t state) (λ before after. Relates t n body (x ++ before) after) n y
  Relates-Loop state body = rw (Relates-out, outs-Loop)
