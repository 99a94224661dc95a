-- Nets without parts hold where their constraints are satisfied.
use Rattle.std.proofs.Common.{refl, subst}
use Rattle.std.specs.Prelude.{◌≡◌, List, [], ◌∷◌, map}
use Rattle.design_model.specs.Holds.{Fit, Holds, PartHolds, carried_by, AllSatisfied}
use Rattle.design_model.specs.HoldsCaseLaws.{by_parts}
use Rattle.design_model.specs.HoldsLaws.{Holds-Net}
use Rattle.design_model.specs.Rows.{Row}
use Rattle.design_model.specs.Wiring.{wiring_of}
use Rattle.design_model.specs.declared.design.Design.TheVariants.{Net}
use Rattle.design_model.specs.declared.design.Part.{Part}
use Rattle.design_model.specs.declared.expr.Constraint.{Constraint}
use Rattle.design_model.specs.declared.witness.PartWitness.{PartWitness}
use Rattle.design_model.specs.declared.witness.Witness.TheVariants as witness
use Rattle.design_model.specs.declared.witness.Witness.{Witness}
use Rattle.order_core.specs.Pointwise.{Pointwise}
use Rattle.value_type.specs.declared.port.Port.{Port}
use Rattle.value_type.specs.declared.poset.Types.{Types}

no_partner : {A B : Type 0} (R : A → B → Type 0) (ys : List B) → Pointwise R [] ys → ys ≡ []
no_partner R [] h = refl
no_partner R (y ∷ ys) h = absurd h

module _ (t : Types) (provides requires_ : List Port) (constraints : List Constraint) (f r : Row) where
  abbrev pub Satisfied : Type 0
  Satisfied = AllSatisfied t (wiring_of (λ (p : Part). p) provides requires_ [] constraints) f r []

  pub holds_where : Fit t provides requires_ f r → Satisfied → Holds t (Net provides requires_ [] constraints) f r (witness.Inner [])
  holds_where fit h = rw Holds-Net (rw witness.outs-Inner (fit, record { parts = tt; constraints = h }))

  pub where_holds : (w : Witness) → Holds t (Net provides requires_ [] constraints) f r w → Satisfied
  where_holds w h =
      let named = by_parts t provides requires_ [] constraints f r w (rw Holds-Net at h).1 in
      let none = no_partner (PartHolds (λ (p : Part). Holds t p.design)) named.0 named.2.parts in
      subst (λ (ws : List PartWitness). AllSatisfied t (wiring_of (λ (p : Part). p) provides requires_ [] constraints) f r (map carried_by ws)) none named.2.constraints
