-- Typed terms are monotone.
use Rattle.std.specs.Prelude.{ℕ, List, [], ◌∷◌, ◌++◌, map}
use Rattle.std.proofs.Common.{sym, subst}
use Rattle.order_core.specs.Pointwise.{Each}
use Rattle.value_type.specs.declared.kind.Kind.{Kind}
use Rattle.value_type.specs.declared.poset.Types.{Types}
use Rattle.design_term.specs.declared.term.Primitive.{Primitive}
use Rattle.design_term.specs.declared.term.Term.{Term, roll-Term, map-Term}
use Rattle.design_term.specs.declared.term.Term.TheFolds.{ind-Term}
use Rattle.design_term.specs.declared.term.Term.TheOpen.{Term-F}
use Rattle.design_term.specs.declared.term.Term.TheVariants.{Prim, Sub, Series, Par, Alt, Loop, rolls-Prim, rolls-Sub, rolls-Series, rolls-Par, rolls-Alt, rolls-Loop}
use Rattle.design_term.specs.MonotoneLaws.{IsMonotone, series_monotone, par_monotone, alt_monotone, loop_monotone}
use Rattle.design_term.specs.Outcomes.{Relates}
use Rattle.design_term.specs.OutcomesLaws.{Relates-Prim, Relates-Sub, Relates-Series, Relates-Par, Relates-Alt, Relates-Loop}
use Rattle.design_term.specs.PrimLaws.{prim_monotone}
use Rattle.design_term.specs.TermTypes.{TermIsTyped}
use Rattle.design_term.specs.TermTypesLaws.{typed-Prim, typed-Sub, typed-Series, typed-Par, typed-Alt, typed-Loop}

-- Where each loop takes n steps:
module _ (t : Types) (n : ℕ) where
  -- The term is monotone between all types that it is typed for.
  abbrev Claim : Term → Type 0
  Claim term = (ins outs : List Kind) → TermIsTyped t term ins outs → IsMonotone t ins outs (Relates t n term)

  -- a term of which that holds
  abbrev Claimed : Type 0
  Claimed = (term : Term) × Claim term

  -- It holds of a primitive term.
  prim_case : (prim : Primitive) → Claim (Prim prim)
  prim_case prim ins outs typed =
      subst (IsMonotone t ins outs) (λ i x y. sym (Relates-Prim t n x y prim) i) (prim_monotone t ins outs prim (rw typed-Prim at typed))

  -- It holds of what stands for a part, where it does of the inner term.
  sub_case : (part : ℕ) (a : Claimed) → Claim (Sub part a.0)
  sub_case part a ins outs typed = subst (IsMonotone t ins outs) (λ i x y. sym (Relates-Sub t n x y part a.0) i) (a.1 ins outs (rw typed-Sub at typed))

  -- It holds of a series, where it does of both terms.
  series_case : (a b : Claimed) → Claim (Series a.0 b.0)
  series_case a b ins outs typed =
      let types = rw typed-Series at typed in
      subst (IsMonotone t ins outs) (λ i x y. sym (Relates-Series t n x y a.0 b.0) i)
      (series_monotone t ins types.0 outs (Relates t n a.0) (Relates t n b.0) (a.1 ins types.0 types.1) (b.1 types.0 outs types.2))

  -- It holds of two terms side by side, where it does of both.
  par_case : (a b : Claimed) → Claim (Par a.0 b.0)
  par_case a b ins outs typed =
      let types = rw typed-Par at typed in
      subst (λ (kinds : List Kind). IsMonotone t ins kinds (Relates t n (Par a.0 b.0))) (sym types.joined)
      (subst (IsMonotone t ins (types.left ++ types.right)) (λ i x y. sym (Relates-Par t n x y a.0 b.0) i)
      (par_monotone t ins types.left types.right (Relates t n a.0) (Relates t n b.0) (a.1 ins types.left types.first) (b.1 ins types.right types.second)))

  -- Of terms that are typed alike, each is monotone.
  each_monotone : (terms : List Claimed) (ins outs : List Kind) → Each (λ term. TermIsTyped t term ins outs) (map (λ e. e.0) terms)
      → Each (λ term. IsMonotone t ins outs (Relates t n term)) (map (λ e. e.0) terms)
  each_monotone [] ins outs typed = tt
  each_monotone (a ∷ terms) ins outs typed = (a.1 ins outs typed.0, each_monotone terms ins outs typed.1)

  -- It holds of several terms as one, where it does of each.
  alt_case : (terms : List Claimed) → Claim (Alt (map (λ e. e.0) terms))
  alt_case terms ins outs typed =
      let types = rw typed-Alt at typed in
      subst (IsMonotone t ins outs) (λ i x y. sym (Relates-Alt t n x y (map (λ e. e.0) terms)) i)
      (alt_monotone t ins outs (Relates t n) (map (λ e. e.0) terms) (each_monotone terms ins outs types.1))

  -- It holds of a loop, where it does of the body.
  loop_case : (state : List Kind) (a : Claimed) → Claim (Loop state a.0)
  loop_case state a ins outs typed =
      let types = rw typed-Loop at typed in
      subst (λ (kinds : List Kind). IsMonotone t ins kinds (Relates t n (Loop state a.0))) (sym types.0)
      (subst (IsMonotone t ins state) (λ i x y. sym (Relates-Loop t n x y state a.0) i)
      (loop_monotone t ins state (Relates t n a.0) (a.1 (ins ++ state) state types.1) n))

  -- It holds of each form of term, where it does of the inner terms.
  at : (y : Term-F Claimed) → Claim (roll-Term (map-Term Claimed Term (λ e. e.0) y))
  at (Term-F.Prim prim) = subst Claim (sym (rolls-Prim prim)) (prim_case prim)
  at (Term-F.Sub part a) = subst Claim (sym (rolls-Sub part a.0)) (sub_case part a)
  at (Term-F.Series a b) = subst Claim (sym (rolls-Series a.0 b.0)) (series_case a b)
  at (Term-F.Par a b) = subst Claim (sym (rolls-Par a.0 b.0)) (par_case a b)
  at (Term-F.Alt terms) = subst Claim (sym (rolls-Alt (map (λ e. e.0) terms))) (alt_case terms)
  at (Term-F.Loop state a) = subst Claim (sym (rolls-Loop state a.0)) (loop_case state a)

  -- Each typed term is monotone.
  pub term_monotone : (term : Term) (ins outs : List Kind) → TermIsTyped t term ins outs → IsMonotone t ins outs (Relates t n term)
  term_monotone = ind-Term Claim (λ x y is. subst (λ z. Claim (roll-Term z)) is (at y))
