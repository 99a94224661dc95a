-- Two elements without a least upper bound. Of four elements a and b are each at most c and d, and no others are in order. What is at least a and b is at least c or at least d.
use Rattle.std.proofs.Common.{refl, sym, subst, ◌∙◌, inl, inr, arith}
use Rattle.std.proofs.lemmas.Bool.Decides.{nat_tests}
use Rattle.std.specs.Prelude.{◌≡◌, ℕ, zero, suc, Bool, IsTrue, [], ◌∷◌}
use Rattle.antichain.specs.Basis.{Below}
use Rattle.design_model.specs.ExprLaws as laws
use Rattle.design_model.specs.Feasible.{AreMinima, IsFeasible, resources_leq}
use Rattle.design_model.specs.HoldsLaws.{holds_fits}
use Rattle.design_model.specs.PartsLaws.{required-Net}
use Rattle.design_model.specs.Rows.{Row}
use Rattle.design_model.specs.declared.witness.Witness.TheVariants as witness
use Rattle.model_examples.proofs.ElementsLemmas.{element_fits, element_leq, as_element, elements_cmp}
use Rattle.model_examples.proofs.MinimaLemmas.{are_the_minima}
use Rattle.model_examples.proofs.NoPartsLemmas.{Satisfied, holds_where, where_holds}
use Rattle.model_examples.proofs.ShortRowsLemmas.{as_one, one_fits, leq_one, value_at_least, at_least_value}
use Rattle.model_examples.specs.Elements.{elements}
use Rattle.model_examples.specs.TwoBounds.{a, b, c, constraints, d, least, poset, provides, requires_, table, two, types}
use Rattle.order_core.specs.Finite.{is_element, is_below}
use Rattle.order_core.specs.MemberLaws.{both}
use Rattle.order_core.specs.Members.{IsMember}
use Rattle.order_core.specs.Order.{are_incomparable}
use Rattle.value_type.specs.Fits.{fits, row_fits}
use Rattle.value_type.specs.Leq.{leq, row_leq}
use Rattle.value_type.specs.PrintOrder.{are_rising}
use Rattle.value_type.specs.declared.value.Value.TheVariants.{El}
use Rattle.value_type.specs.declared.value.Value.{Value}

-- what the constraints say of a and b
record IsAboveBoth (r : Value) : Type 0 where
  above_a : IsTrue (leq types elements a r)
  above_b : IsTrue (leq types elements b r)

is_above : (r : Value) → Satisfied types provides requires_ constraints (a ∷ b ∷ []) (r ∷ []) → IsAboveBoth r
is_above r h = record {
  above_a = value_at_least types elements r a (rw laws.value-Own at h.0);
  above_b = value_at_least types elements r b (rw laws.value-Own at h.1.0);
}

satisfied : (r : Value) → IsAboveBoth r → Satisfied types provides requires_ constraints (a ∷ b ∷ []) (r ∷ [])
satisfied r h = (rw laws.value-Own (at_least_value types elements r a h.above_a), (rw laws.value-Own (at_least_value types elements r b h.above_b), tt))

a_and_b_fit : IsTrue (row_fits types (elements ∷ elements ∷ []) (a ∷ b ∷ []))
a_and_b_fit = both _ _ (element_fits poset 0) (one_fits types elements b (element_fits poset 1))

feasible_above : (r : Value) → IsTrue (fits types elements r) → IsAboveBoth r → IsFeasible types two (a ∷ b ∷ []) (r ∷ [])
feasible_above r r_is h =
    (witness.Inner [], holds_where types provides requires_ constraints (a ∷ b ∷ []) (r ∷ []) (record { provided = a_and_b_fit; required = one_fits types elements r r_is }) (satisfied r h))

feasible : (r : Row) → IsMember r least → IsFeasible types two (a ∷ b ∷ []) r
feasible r (inl e) = subst (IsFeasible types two (a ∷ b ∷ [])) (sym e) (feasible_above c (element_fits poset 2) (record { above_a = element_leq poset 0 2; above_b = element_leq poset 1 2 }))
feasible r (inr (inl e)) = subst (IsFeasible types two (a ∷ b ∷ [])) (sym e) (feasible_above d (element_fits poset 3) (record { above_a = element_leq poset 0 3; above_b = element_leq poset 1 3 }))
feasible r (inr (inr m)) = absurd m

-- An element that is at least a and b is c or d.
below_element : (x : ℕ) → IsTrue (is_element table x) → IsTrue (is_below table 0 x) → IsTrue (is_below table 1 x) → Below (row_leq types (elements ∷ [])) least (El x ∷ [])
below_element zero x_is h k = absurd (cc)
below_element (suc zero) x_is h k = absurd (cc)
below_element (suc (suc zero)) x_is h k = (c ∷ [], inl refl, leq_one types elements c c (element_leq poset 2 2))
below_element (suc (suc (suc zero))) x_is h k = (d ∷ [], inr (inl refl), leq_one types elements d d (element_leq poset 3 3))
below_element (suc (suc (suc (suc x)))) x_is h k = absurd (grind (arith, nat_tests, x_is))

below_value : (r : Value) → IsTrue (fits types elements r) → IsAboveBoth r → Below (row_leq types (elements ∷ [])) least (r ∷ [])
below_value r r_is h =
    let x = as_element poset r r_is in
    let a_below : IsTrue (leq types elements a (El x.element)) = rw x.value_is at h.above_a in
    let b_below : IsTrue (leq types elements b (El x.element)) = rw x.value_is at h.above_b in
    rw x.value_is (below_element x.element x.valid (sym (element_leq poset 0 x.element) ∙ a_below) (sym (element_leq poset 1 x.element) ∙ b_below))

complete : (r : Row) → IsFeasible types two (a ∷ b ∷ []) r → Below (row_leq types (elements ∷ [])) least r
complete r h =
    let fit = rw required-Net at (holds_fits types two (a ∷ b ∷ []) r h.0 h.1).required in
    let one = as_one types elements r fit in
    rw one.row_is (below_value one.only one.valid (is_above one.only (where_holds types provides requires_ constraints (a ∷ b ∷ []) (one.only ∷ []) h.0 (rw one.row_is at h.1))))

resources : row_leq types (elements ∷ []) ≡ resources_leq types two
resources = rw required-Net refl

rising : IsTrue (are_rising least)
rising = rw elements_cmp refl

-- c and d are the minima.
pub bounds_of_two : AreMinima types two (a ∷ b ∷ []) ((c ∷ []) ∷ (d ∷ []) ∷ [])
bounds_of_two = are_the_minima types two (a ∷ b ∷ []) least rising (record {
  elements = feasible;
  incomparable = subst (λ (leq : Row → Row → Bool). IsTrue (are_incomparable leq least)) resources (rw (element_leq poset 2 3, element_leq poset 3 2) refl);
  complete = subst (λ (leq : Row → Row → Bool). (r : Row) → IsFeasible types two (a ∷ b ∷ []) r → Below leq least r) resources complete;
})
