-- A catalogue of motors.
use Rattle.std.proofs.Common.{refl, sym, subst, ◌∙◌, inl, inr}
use Rattle.std.specs.Prelude.{◌≡◌, ℕ, zero, suc, Bool, IsTrue, IsSomeAnd, [], ◌∷◌, slice_get}
use Rattle.antichain.specs.Basis.{Below}
use Rattle.design_model.specs.Feasible.{AreMinima, IsFeasible, resources_leq}
use Rattle.design_model.specs.Holds.{Fit, RowHolds}
use Rattle.design_model.specs.HoldsCaseLaws.{by_row}
use Rattle.design_model.specs.HoldsLaws.{Holds-Cat}
use Rattle.design_model.specs.PartsLaws.{required-Cat}
use Rattle.design_model.specs.Rows.{Row}
use Rattle.design_model.specs.declared.witness.Witness.TheVariants as witness
use Rattle.model_examples.proofs.MinimaLemmas.{are_the_minima}
use Rattle.model_examples.proofs.NumberRowsLemmas.{counts_fit, counts_leq, counts_cmp}
use Rattle.model_examples.specs.Motors.{least, motors, provides, requires_, rows}
use Rattle.model_examples.specs.NumberRows.{all_valid}
use Rattle.model_examples.specs.Words.{no_types, counts}
use Rattle.order_core.specs.Members.{IsMember}
use Rattle.order_core.specs.Order.{are_incomparable}
use Rattle.value_type.specs.KindOrderLaws.{row_laws}
use Rattle.value_type.specs.Leq.{row_leq}
use Rattle.value_type.specs.PortKinds.{port_kinds}
use Rattle.value_type.specs.PrintOrder.{are_rising}

resources : row_leq no_types (port_kinds requires_) ≡ resources_leq no_types motors
resources = rw required-Cat refl

fit_pair : (m c : ℕ) → IsTrue (all_valid (m ∷ c ∷ [])) → Fit no_types provides requires_ (counts (90 ∷ [])) (counts (m ∷ c ∷ []))
fit_pair m c p = record { provided = counts_fit (90 ∷ []); required = counts_fit (m ∷ c ∷ []) ∙ p }

feasible : (r : Row) → IsMember r least → IsFeasible no_types motors (counts (90 ∷ [])) r
feasible r (inl e) = subst (IsFeasible no_types motors (counts (90 ∷ []))) (sym e)
    (witness.Row 1, rw Holds-Cat (rw witness.outs-Row (fit_pair 8 7 refl, record { enough = counts_leq (90 ∷ []) (120 ∷ []); within = counts_leq (8 ∷ 7 ∷ []) (8 ∷ 7 ∷ []) })))
feasible r (inr (inl e)) = subst (IsFeasible no_types motors (counts (90 ∷ []))) (sym e)
    (witness.Row 0, rw Holds-Cat (rw witness.outs-Row (fit_pair 10 5 refl, record { enough = counts_leq (90 ∷ []) (100 ∷ []); within = counts_leq (10 ∷ 5 ∷ []) (10 ∷ 5 ∷ []) })))
feasible r (inr (inr m)) = absurd m

above : (r : Row) (n : ℕ) → Fit no_types provides requires_ (counts (90 ∷ [])) r → IsSomeAnd (slice_get rows n) (RowHolds no_types provides requires_ (counts (90 ∷ [])) r)
    → Below (row_leq no_types (port_kinds requires_)) least r
above r zero fit h = (counts (10 ∷ 5 ∷ []), inr (inl refl), h.within)
above r (suc zero) fit h = (counts (8 ∷ 7 ∷ []), inl refl, h.within)
above r (suc (suc zero)) fit h = (
  counts (8 ∷ 7 ∷ []),
  inl refl,
  (row_laws no_types (port_kinds requires_)).transitive (counts (8 ∷ 7 ∷ [])) (counts (12 ∷ 7 ∷ [])) r (fit_pair 8 7 refl).required (fit_pair 12 7 refl).required fit.required
      (counts_leq (8 ∷ 7 ∷ []) (12 ∷ 7 ∷ [])) h.within,
)
above r (suc (suc (suc n))) fit h = absurd h

complete : (r : Row) → IsFeasible no_types motors (counts (90 ∷ [])) r → Below (row_leq no_types (port_kinds requires_)) least r
complete r h =
    let k = rw Holds-Cat at h.1 in
    let named = by_row no_types provides requires_ rows (counts (90 ∷ [])) r h.0 k.1 in
    above r named.0 k.0 named.2

rising : IsTrue (are_rising least)
rising = rw counts_cmp refl

-- For a lift of 90 the least resources are those of b and those of a.
pub motors_at_90 : AreMinima no_types motors (counts (90 ∷ [])) least
motors_at_90 = are_the_minima no_types motors (counts (90 ∷ [])) least rising (record {
  elements = feasible;
  incomparable = subst (λ (leq : Row → Row → Bool). IsTrue (are_incomparable leq least)) resources (rw (counts_leq (8 ∷ 7 ∷ []) (10 ∷ 5 ∷ []), counts_leq (10 ∷ 5 ∷ []) (8 ∷ 7 ∷ [])) refl);
  complete = subst (λ (leq : Row → Row → Bool). (r : Row) → IsFeasible no_types motors (counts (90 ∷ [])) r → Below leq least r) resources complete;
})
