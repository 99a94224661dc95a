-- A choice between two batteries. One is light and dear, the other heavy and cheap.
use Rattle.std.proofs.Common.{refl, sym, subst, ◌∙◌, inl, inr}
use Rattle.std.specs.Prelude.{◌≡◌, ℕ, zero, suc, Bool, IsTrue, IsSomeAnd, [], ◌∷◌, slice_get, Some}
use Rattle.antichain.specs.Basis.{Below}
use Rattle.design_model.specs.ExprLaws as laws
use Rattle.design_model.specs.Feasible.{AreMinima, IsFeasible, resources_leq}
use Rattle.design_model.specs.Holds.{Fit, Holds}
use Rattle.design_model.specs.HoldsCaseLaws.{by_branch}
use Rattle.design_model.specs.HoldsLaws.{Holds-Choice, holds_fits}
use Rattle.design_model.specs.NumberLaws.{number_back}
use Rattle.design_model.specs.PartsLaws.{required-Choice}
use Rattle.design_model.specs.Rows.{Row}
use Rattle.design_model.specs.ValueOf.{value_of, reads_of}
use Rattle.design_model.specs.declared.expr.Expr.TheVariants as expr
use Rattle.design_model.specs.declared.witness.Witness.TheVariants as witness
use Rattle.design_model.specs.declared.witness.Witness.{Witness}
use Rattle.model_examples.proofs.MinimaLemmas.{are_the_minima}
use Rattle.model_examples.proofs.NoPartsLemmas.{Satisfied, holds_where, where_holds}
use Rattle.model_examples.proofs.NumberRowsLemmas.{number_leq, as_number, counts_fit, counts_leq, counts_cmp}
use Rattle.model_examples.proofs.OnePartLemmas.{number_at_least, at_least_number}
use Rattle.model_examples.proofs.ShortRowsLemmas.{as_two, leq_two}
use Rattle.model_examples.specs.Batteries.{batteries, battery, branches, cheap, constraints, least, li, li_cost, li_mass, light, ni, ni_cost, ni_mass, provides, requires_, wanted}
use Rattle.model_examples.specs.NumberRows.{all_valid}
use Rattle.model_examples.specs.Words.{no_types, numbers, counts}
use Rattle.order_core.specs.Members.{IsMember}
use Rattle.order_core.specs.Num as numeric
use Rattle.order_core.specs.Order.{are_incomparable}
use Rattle.order_core.specs.declared.num.Num.TheVariants as number
use Rattle.order_core.specs.declared.num.Num.{Num as Number}
use Rattle.unit_core.specs.Ratio.{ratio}
use Rattle.unit_core.specs.declared.fraction.Fraction.{Fraction}
use Rattle.value_type.specs.Forms.{number_value}
use Rattle.value_type.specs.Leq.{row_leq}
use Rattle.value_type.specs.PrintOrder.{are_rising}
use Rattle.value_type.specs.Scale.{scaled}

-- what a multiple of the capacity is worth
multiple_worth : (by : Fraction) (n : Number) → value_of (expr.Scale by (expr.Own 0)) (reads_of (number_value n ∷ []) []) ≡ Some (number_value (scaled (ratio by) n))
multiple_worth by n = rw (laws.value-Scale, laws.value-Own, number_back n) refl

-- what the constraints of a battery say
record IsEnough (by_mass by_cost : Fraction) (capacity mass cost : Number) : Type 0 where
  heavy : IsTrue (numeric.number_leq (scaled (ratio by_mass) capacity) mass)
  dear : IsTrue (numeric.number_leq (scaled (ratio by_cost) capacity) cost)

module _ (by_mass by_cost : Fraction) (capacity mass cost : Number) where
  abbrev provided : Row
  provided = number_value capacity ∷ []

  abbrev required : Row
  required = number_value mass ∷ number_value cost ∷ []

  satisfied : IsEnough by_mass by_cost capacity mass cost → Satisfied no_types provides requires_ (constraints by_mass by_cost) provided required
  satisfied h = (
    rw (multiple_worth by_mass capacity) (at_least_number mass (scaled (ratio by_mass) capacity) h.heavy),
    (rw (multiple_worth by_cost capacity) (at_least_number cost (scaled (ratio by_cost) capacity) h.dear), tt),
  )

  is_enough : Satisfied no_types provides requires_ (constraints by_mass by_cost) provided required → IsEnough by_mass by_cost capacity mass cost
  is_enough h = record {
    heavy = number_at_least mass (scaled (ratio by_mass) capacity) (rw (multiple_worth by_mass capacity) at h.0);
    dear = number_at_least cost (scaled (ratio by_cost) capacity) (rw (multiple_worth by_cost capacity) at h.1.0);
  }

fit : (mass cost : ℕ) → IsTrue (all_valid (mass ∷ cost ∷ [])) → Fit no_types provides requires_ wanted (counts (mass ∷ cost ∷ []))
fit mass cost valid = record { provided = counts_fit (60 ∷ []); required = counts_fit (mass ∷ cost ∷ []) ∙ valid }

li_holds : Holds no_types li wanted light (witness.Inner [])
li_holds = holds_where no_types provides requires_ (constraints li_mass li_cost) wanted light (fit 10 300 refl)
    (satisfied li_mass li_cost (number.Count 60) (number.Count 10) (number.Count 300) (record { heavy = refl; dear = refl }))

ni_holds : Holds no_types ni wanted cheap (witness.Inner [])
ni_holds = holds_where no_types provides requires_ (constraints ni_mass ni_cost) wanted cheap (fit 30 60 refl)
    (satisfied ni_mass ni_cost (number.Count 60) (number.Count 30) (number.Count 60) (record { heavy = refl; dear = refl }))

-- The first branch has a capacity of 60 at a mass of 10 and a cost of 300.
pub light_by_li : Holds no_types batteries (counts (60 ∷ [])) (counts (10 ∷ 300 ∷ [])) (witness.Branch 0 (witness.Inner []))
light_by_li = rw Holds-Choice (rw witness.outs-Branch (fit 10 300 refl, li_holds))

-- The second has it at a mass of 30 and a cost of 60.
pub cheap_by_ni : Holds no_types batteries (counts (60 ∷ [])) (counts (30 ∷ 60 ∷ [])) (witness.Branch 1 (witness.Inner []))
cheap_by_ni = rw Holds-Choice (rw witness.outs-Branch (fit 30 60 refl, ni_holds))

feasible : (r : Row) → IsMember r least → IsFeasible no_types batteries wanted r
feasible r (inl e) = subst (IsFeasible no_types batteries wanted) (sym e) (witness.Branch 0 (witness.Inner []), light_by_li)
feasible r (inr (inl e)) = subst (IsFeasible no_types batteries wanted) (sym e) (witness.Branch 1 (witness.Inner []), cheap_by_ni)
feasible r (inr (inr m)) = absurd m

-- Each battery requires a least mass and a least cost.
battery_above : (by_mass by_cost : Fraction) (mass cost : Number) (w : Witness) → Holds no_types (battery by_mass by_cost) wanted (number_value mass ∷ number_value cost ∷ []) w
    → IsEnough by_mass by_cost (number.Count 60) mass cost
battery_above by_mass by_cost mass cost w h =
    is_enough by_mass by_cost (number.Count 60) mass cost (where_holds no_types provides requires_ (constraints by_mass by_cost) wanted (number_value mass ∷ number_value cost ∷ []) w h)

at_least : (m c : ℕ) (mass cost : Number) → IsTrue (numeric.number_leq (number.Count m) mass) → IsTrue (numeric.number_leq (number.Count c) cost)
    → IsTrue (row_leq no_types (numbers ∷ numbers ∷ []) (counts (m ∷ c ∷ [])) (number_value mass ∷ number_value cost ∷ []))
at_least m c mass cost h i =
    leq_two no_types numbers numbers (number_value (number.Count m)) (number_value (number.Count c)) (number_value mass) (number_value cost) (number_leq (number.Count m) mass ∙ h)
    (number_leq (number.Count c) cost ∙ i)

above : (mass cost : Number) (w : Witness) (n : ℕ) → IsSomeAnd (slice_get branches n) (λ p. Holds no_types p.design wanted (number_value mass ∷ number_value cost ∷ []) w)
    → Below (row_leq no_types (numbers ∷ numbers ∷ [])) least (number_value mass ∷ number_value cost ∷ [])
above mass cost w zero h = let made = battery_above li_mass li_cost mass cost w h in (light, inl refl, at_least 10 300 mass cost made.heavy made.dear)
above mass cost w (suc zero) h = let made = battery_above ni_mass ni_cost mass cost w h in (cheap, inr (inl refl), at_least 30 60 mass cost made.heavy made.dear)
above mass cost w (suc (suc n)) h = absurd h

above_pair : (mass cost : Number) (w : Witness) → Holds no_types batteries wanted (number_value mass ∷ number_value cost ∷ []) w
    → Below (row_leq no_types (numbers ∷ numbers ∷ [])) least (number_value mass ∷ number_value cost ∷ [])
above_pair mass cost w h =
    let made = by_branch no_types provides requires_ branches wanted (number_value mass ∷ number_value cost ∷ []) w (rw Holds-Choice at h).1 in
    above mass cost made.1 made.0 made.3

complete : (r : Row) → IsFeasible no_types batteries wanted r → Below (row_leq no_types (numbers ∷ numbers ∷ [])) least r
complete r h =
    let fits = rw required-Choice at (holds_fits no_types batteries wanted r h.0 h.1).required in
    let two = as_two no_types numbers numbers r fits in
    let mass = as_number two.left two.left_valid in
    let cost = as_number two.right two.right_valid in
    let row_is : r ≡ number_value mass.number_is ∷ number_value cost.number_is ∷ [] = two.row_is ∙ λ i. mass.value_is i ∷ cost.value_is i ∷ [] in
    let held : Holds no_types batteries wanted (number_value mass.number_is ∷ number_value cost.number_is ∷ []) h.0 = subst (λ (x : Row). Holds no_types batteries wanted x h.0) row_is h.1 in
    subst (Below (row_leq no_types (numbers ∷ numbers ∷ [])) least) (sym row_is) (above_pair mass.number_is cost.number_is h.0 held)

resources : row_leq no_types (numbers ∷ numbers ∷ []) ≡ resources_leq no_types batteries
resources = rw required-Choice refl

rising : IsTrue (are_rising least)
rising = rw counts_cmp refl

-- For a capacity of 60 each battery gives a minimum.
pub batteries_at_60 : AreMinima no_types batteries (counts (60 ∷ [])) (counts (10 ∷ 300 ∷ []) ∷ counts (30 ∷ 60 ∷ []) ∷ [])
batteries_at_60 = are_the_minima no_types batteries wanted least rising (record {
  elements = feasible;
  incomparable = subst (λ (leq : Row → Row → Bool). IsTrue (are_incomparable leq least)) resources (rw (counts_leq (10 ∷ 300 ∷ []) (30 ∷ 60 ∷ []), counts_leq (30 ∷ 60 ∷ []) (10 ∷ 300 ∷ [])) refl);
  complete = subst (λ (leq : Row → Row → Bool). (r : Row) → IsFeasible no_types batteries wanted r → Below leq least r) resources complete;
})
