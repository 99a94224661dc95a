-- A minimum that is shown is feasible.
use Rattle.std.specs.Prelude.{◌≡◌, ℕ, IsSomeAnd, List, Option, Some, None, slice_get}
use Rattle.std.proofs.Common.{refl, subst}
use Rattle.order_core.specs.Pointwise.{Each}
use Rattle.order_core.specs.PointwiseLaws.{each_got}
use Rattle.value_type.specs.declared.port.Port.{Port}
use Rattle.value_type.specs.declared.poset.Types.{Types}
use Rattle.design_model.specs.declared.design.CatRow.{CatRow}
use Rattle.design_model.specs.declared.design.Design.{Design}
use Rattle.design_model.specs.declared.design.Design.TheVariants.{Cat, Choice, Net}
use Rattle.design_model.specs.declared.design.Part.{Part}
use Rattle.design_model.specs.declared.expr.Constraint.{Constraint}
use Rattle.design_model.specs.declared.witness.Witness.{Witness}
use Rattle.design_model.specs.declared.witness.Witness.TheVariants as witness
use Rattle.design_model.specs.Feasible.{IsFeasible, IsMinimum}
use Rattle.design_model.specs.Holds.{Holds}
use Rattle.design_model.specs.HoldsCaseLaws.{of_row}
use Rattle.design_model.specs.HoldsLaws.{Holds-Cat, Holds-Choice}
use Rattle.design_model.specs.Rounds.{IsMinimumIn}
use Rattle.design_model.specs.RoundsLaws.{IsFeasibleIn-Cat, IsFeasibleIn-Choice, IsFeasibleIn-Net}
use Rattle.design_model.specs.Rows.{Row}
use Rattle.design_model.specs.Shown.{IsShown, Shows}
use Rattle.design_model.specs.ShownLaws.{Shows-Choice, Shows-Net}
use Rattle.design_model.specs.Steady.{NetOf, net_of, MayCarryIn}
use Rattle.design_model.specs.SteadyLaws.{Asks}
use Rattle.design_model.specs.Typed.{IsTyped}
use Rattle.design_model.specs.TypedLaws.{IsTyped-Choice, IsTyped-Net}
use Rattle.design_model.specs.Wiring.{Carried}
use Rattle.model_laws.specs.FeasibleRoundsLaws.{feasible_in_rounds}
use Rattle.model_laws.specs.SettledLaws.{settled_is_feasible}
use Rattle.design_model.specs.DesignInductionLaws.{for_each_design}
use Rattle.round_laws.proofs.TightSteps.{tight_step}
use Rattle.round_laws.proofs.WithItem.{pointwise_places, some_of, of_some}
use Rattle.order_core.specs.MemberLaws.{got_member}

module _ (t : Types) (n : ℕ) where
  abbrev Claim : Design → Type 0
  Claim d = (f r : Row) → IsTyped t d → IsShown t n d f r → IsFeasible t d f r

  feasible_catalogue : (provides requires_ : List Port) (rows : List CatRow) → Claim (Cat provides requires_ rows)
  feasible_catalogue provides requires_ rows f r typed shown =
      let in_rounds = rw IsFeasibleIn-Cat at shown.minimum.element in
      (witness.Row in_rounds.1.0, rw Holds-Cat (in_rounds.0, of_row t provides requires_ rows f r in_rounds.1.0 in_rounds.1.1))

  feasible_choice : (provides requires_ : List Port) (branches : List Part) → Each (λ b. Claim b.design) branches → Claim (Choice provides requires_ branches)
  feasible_choice provides requires_ branches each f r typed shown =
      let in_rounds = rw IsFeasibleIn-Choice at shown.minimum.element in
      let by = rw Shows-Choice at shown.shows in
      let is = rw IsTyped-Choice at typed in
      let found = in_branch by.0 (slice_get branches by.0) refl is.typed by.1 in
      (witness.Branch by.0 found.0, rw Holds-Choice (in_rounds.0, rw witness.outs-Branch found.1))
    where
      in_branch : (i : ℕ) (o : Option Part) → slice_get branches i ≡ o → Each (λ p. IsTyped t p.design) branches
          → IsSomeAnd o (λ b. IsMinimumIn t n b.design f r × Shows t n b.design f r) → (w : Witness) × IsSomeAnd o (λ b. Holds t b.design f r w)
      in_branch i None e each_typed there = absurd there
      in_branch i (Some b) e each_typed there =
          let m = got_member branches i b e in
          each_got (λ (p : Part). Claim p.design) branches b each m f r (each_got (λ (p : Part). IsTyped t p.design) branches b each_typed m) (record { minimum = there.0; shows = there.1 })

  -- A net's showing state steps to itself, and so by rows that make the step tight. What these ask of the parts is shown, and so feasible.
  feasible_net : (provides requires_ : List Port) (parts : List Part) (constraints : List Constraint) → Each (λ p. Claim p.design) parts → Claim (Net provides requires_ parts constraints)
  feasible_net provides requires_ parts constraints each f r typed shown =
      let in_rounds = rw IsFeasibleIn-Net at shown.minimum.element in
      let by = rw Shows-Net at shown.shows in
      let is = rw IsTyped-Net at typed in
      let tight = tight_step t n net f typed in_rounds.0.provided by.0 by.0 by.1.steps in
      let each_feasible = pointwise_places _ (λ p c. IsFeasible t p.design c.provided c.required) parts tight.0 tight.1.steps.may_carry
      (λ i p c p_at c_at.
      let m = got_member parts i p p_at in
      let minimum = (tight.1.tight i p c p_at c_at).answer in
      let asks : Asks t n net f by.0 i c.provided = (tight.0, tight.1, some_of (λ (d : Carried). d.provided ≡ c.provided) (slice_get tight.0 i) c c_at refl) in
      let shows = of_some (λ (q : Part). Shows t n q.design c.provided c.required) (slice_get parts i) p p_at
      (by.1.parts i c.provided c.required asks (some_of (λ (q : Part). IsMinimumIn t n q.design c.provided c.required) (slice_get parts i) p p_at minimum)) in
      each_got (λ (q : Part). Claim q.design) parts p each m c.provided c.required (each_got (λ (q : Part). IsTyped t q.design) parts p is.typed m) (record { minimum = minimum; shows = shows })) in
      subst (IsFeasible t (Net provides requires_ parts constraints) f) by.1.own
      (settled_is_feasible t provides requires_ parts constraints (MayCarryIn t n net) f by.0 tight.0 typed in_rounds.0.provided tight.1.steps each_feasible)
    where
      net : NetOf
      net = net_of provides requires_ parts constraints

  pub shown_is_feasible : (d : Design) (f r : Row) → IsTyped t d → IsShown t n d f r → IsFeasible t d f r
  shown_is_feasible = for_each_design Claim feasible_catalogue feasible_choice feasible_net

  -- What is feasible is feasible in rounds, so a minimum of rounds that is feasible is a minimum.
  pub shown_is_minimum : (d : Design) (f r : Row) → IsTyped t d → IsShown t n d f r → IsMinimum t d f r
  shown_is_minimum d f r typed shown = record {
    element = shown_is_feasible d f r typed shown;
    least = λ y feasible l. shown.minimum.least y (feasible_in_rounds t n d f y typed feasible) l;
  }
