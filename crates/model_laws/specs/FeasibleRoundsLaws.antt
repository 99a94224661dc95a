-- What is feasible is feasible in every number of rounds.
use Rattle.std.proofs.Common.{refl, sym, subst}
use Rattle.std.specs.Prelude.{◌≡◌, ℕ, zero, suc, Bool, true, false, cond, IsTrue, IsSomeAnd, List, [], ◌∷◌, ◌++◌, map, Option, Some, slice_get}
use Rattle.design_model.specs.Cuts.{cut_signals, is_cut_read}
use Rattle.design_model.specs.Feasible.{IsFeasible}
use Rattle.design_model.specs.Holds.{Fit, Holds, PartHolds, PartsHold, carried_by}
use Rattle.design_model.specs.HoldsCaseLaws.{by_row, by_branch, by_parts}
use Rattle.design_model.specs.HoldsLaws.{Holds-Cat, Holds-Choice, Holds-Net}
use Rattle.design_model.specs.Reading.{reads_port}
use Rattle.design_model.specs.Rounds.{IsFeasibleIn, EachFeasible, SomeEnds}
use Rattle.design_model.specs.RoundsLaws.{IsFeasibleIn-Cat, IsFeasibleIn-Choice, IsFeasibleIn-Net}
use Rattle.design_model.specs.Rows.{Row}
use Rattle.design_model.specs.Step.{is_state, state_leq, cut_values, own_values, signal_value, step_reads}
use Rattle.design_model.specs.StepLaws.{StepsBy, Steps}
use Rattle.design_model.specs.Typed.{IsTyped, ConstraintIsTyped}
use Rattle.design_model.specs.TypedLaws.{IsTyped-Choice, IsTyped-Net}
use Rattle.design_model.specs.ValueOf.{port_at, reads_of}
use Rattle.design_model.specs.ValuesInOrder.{ReadsLeq, ValuesLeq}
use Rattle.design_model.specs.ValuesInOrderLaws.{itself, row_at, part_row_at}
use Rattle.design_model.specs.Wiring.{Wiring, wiring_of, Carried, required_rows, readable}
use Rattle.design_model.specs.declared.design.CatRow.{CatRow}
use Rattle.design_model.specs.declared.design.Design.TheVariants.{Cat, Choice, Net}
use Rattle.design_model.specs.declared.design.Design.{Design}
use Rattle.design_model.specs.declared.design.Part.{Part}
use Rattle.design_model.specs.declared.expr.Constraint.{Constraint}
use Rattle.design_model.specs.declared.witness.PartWitness.{PartWitness}
use Rattle.design_model.specs.declared.witness.Witness.{Witness}
use Rattle.model_laws.specs.GatheredLaws.{CarriesAt, Gathered, gathered, covers_itself, gathered_value}
use Rattle.model_laws.specs.HoldsMonotoneLaws.{each_fits}
use Rattle.model_laws.specs.RoundsMonotoneLaws.{feasible_carried_fits}
use Rattle.model_laws.specs.SatisfiedLaws.{CarriedFits, carried_fits, greater_rises, satisfied_rises}
use Rattle.model_laws.specs.SignalLaws.{cut_in_place, is_cut_signal}
use Rattle.model_laws.specs.StateLaws.{join_fits, join_take, join_drop}
use Rattle.model_laws.specs.StepLaws.{states_in_order}
use Rattle.order_core.specs.ChainLaws.{stands_still}
use Rattle.order_core.specs.Members.{IsMember}
use Rattle.order_core.specs.Pointwise.{Each, Pointwise}
use Rattle.order_core.specs.PointwiseLaws.{each_got, each_weaker}
use Rattle.value_type.specs.Fits.{row_fits}
use Rattle.value_type.specs.KindOrderLaws.{row_laws}
use Rattle.value_type.specs.declared.kind.Kind.{Kind}
use Rattle.value_type.specs.declared.port.Port.{Port}
use Rattle.value_type.specs.declared.poset.Types.{Types}
use Rattle.value_type.specs.declared.value.Value.{Value}
use Rattle.design_model.specs.DesignInductionLaws.{for_each_design}

-- Where a state gives each signal what the parts carry, a constraint reads in a step what the parts carry.
same_reads : (t : Types) (net : Wiring) (f : Row) (state : Row) (carried : List Carried) (c : Constraint) → IsMember c net.constraints → IsTrue (row_fits t net.provides f) → CarriedFits t net carried
    → Pointwise (CarriesAt (required_rows carried)) (cut_signals net) (cut_values net state)
    → ReadsLeq t (readable net) (reads_port c.lower) (step_reads net f state carried c.greater) (reads_of f (required_rows carried))
same_reads t net f state carried c m f_fits fit gives = record {
  own = λ j k e. itself t k _ (row_at t net.provides f j k f_fits e);
  inner = λ i j k p e. go i j k p e (is_cut_read net c.greater i) refl;
}
  where
    go : (i j : ℕ) (k : Kind) → IsTrue (reads_port c.lower i j) → (readable net).inner i j ≡ Some k → (b : Bool) → is_cut_read net c.greater i ≡ b
        → ValuesLeq t k (cond b (signal_value (cut_signals net) (cut_values net state) i j) (port_at (required_rows carried) i j)) (port_at (required_rows carried) i j)
    go i j k p e true q =
        subst (λ (o : Option Value). ValuesLeq t k o (port_at (required_rows carried) i j))
        (sym (gathered_value (required_rows carried) (cut_signals net) (cut_values net state) i j k gives (is_cut_signal net c m i j k e q p)))
        (itself t k _ (part_row_at t net.required (required_rows carried) i j k fit.required e))
    go i j k p e false q = itself t k _ (part_row_at t net.required (required_rows carried) i j k fit.required e)

module _ (t : Types) (n : ℕ) where
  abbrev Claim : Design → Type 0
  Claim d = (f r : Row) (w : Witness) → IsTyped t d → Holds t d f r w → IsFeasibleIn t n d f r

  abbrev ClaimPart : Part → Type 0
  ClaimPart p = Claim p.design

  cat_case : (provides requires_ : List Port) (rows : List CatRow) → Claim (Cat provides requires_ rows)
  cat_case provides requires_ rows f r w typed h =
      let k = rw Holds-Cat at h in
      let named = by_row t provides requires_ rows f r w k.1 in
      rw IsFeasibleIn-Cat (k.0, (named.0, named.2))

  branch_case : (branches : List Part) → Each ClaimPart branches → (m : ℕ) (f r : Row) (inner : Witness) → Each (λ p. IsTyped t p.design) branches
      → IsSomeAnd (slice_get branches m) (λ b. Holds t b.design f r inner) → IsSomeAnd (slice_get branches m) (λ b. IsFeasibleIn t n b.design f r)
  branch_case [] claims m f r inner typed h = absurd h
  branch_case (b ∷ branches) claims zero f r inner typed h = claims.0 f r inner typed.0 h
  branch_case (b ∷ branches) claims (suc m) f r inner typed h = branch_case branches claims.1 m f r inner typed.1 h

  choice_case : (provides requires_ : List Port) (branches : List Part) → Each ClaimPart branches → Claim (Choice provides requires_ branches)
  choice_case provides requires_ branches claims f r w typed h =
      let k = rw Holds-Choice at h in
      let is = rw IsTyped-Choice at typed in
      let named = by_branch t provides requires_ branches f r w k.1 in
      rw IsFeasibleIn-Choice (k.0, (named.0, branch_case branches claims named.0 f r named.1 is.typed named.3))

  parts_case : (parts : List Part) → Each ClaimPart parts → (ws : List PartWitness) → Each (λ p. IsTyped t p.design) parts
      → Pointwise (PartHolds (λ p. Holds t p.design)) parts ws → EachFeasible (λ p. IsFeasibleIn t n p.design) parts (map carried_by ws)
  parts_case [] claims [] typed h = tt
  parts_case [] claims (w ∷ ws) typed h = absurd h
  parts_case (p ∷ parts) claims [] typed h = absurd h
  parts_case (p ∷ parts) claims (w ∷ ws) typed h = (claims.0 w.provided w.required w.inner typed.0 h.0, parts_case parts claims.1 ws typed.1 h.1)

  -- The state that gives each signal what the parts carry steps to itself.
  steps_to_itself : (provides requires_ : List Port) (parts : List Part) (constraints : List Constraint) (f r : Row) (ws : List PartWitness)
      → Each (ConstraintIsTyped t (wiring_of (λ p. p) provides requires_ parts constraints)) constraints → Fit t provides requires_ f r
      → PartsHold t (wiring_of (λ p. p) provides requires_ parts constraints) (Pointwise (PartHolds (λ p. Holds t p.design)) parts) f r ws
      → EachFeasible (λ p. IsFeasibleIn t n p.design) parts (map carried_by ws)
      → SomeEnds t (wiring_of (λ p. p) provides requires_ parts constraints) (EachFeasible (λ p. IsFeasibleIn t n p.design) parts) f n r
  steps_to_itself provides requires_ parts constraints f r ws typed fit hold feasible = record {
    state = state;
    ends = stands_still (is_state t net) (state_leq t net) (Steps t net MayCarry f) (λ x y v by. by.1.after_is) (states_in_order t net).reflexive n state is (map carried_by ws, step);
    own = own_is;
  }
    where
      net : Wiring
      net = wiring_of (λ p. p) provides requires_ parts constraints

      MayCarry : List Carried → Type 0
      MayCarry = EachFeasible (λ p. IsFeasibleIn t n p.design) parts

      may_fit : (carried : List Carried) → MayCarry carried → CarriedFits t net carried
      may_fit = feasible_carried_fits t n provides requires_ parts constraints

      fits_parts : CarriedFits t net (map carried_by ws)
      fits_parts = carried_fits t net parts (map carried_by ws) refl refl (each_fits t parts ws hold.parts)

      given : Gathered t (required_rows (map carried_by ws)) (cut_signals net)
      given = gathered t (required_rows (map carried_by ws)) (cut_signals net)
          (λ s m. part_row_at t net.required (required_rows (map carried_by ws)) s.part s.port s.kind fits_parts.required (cut_in_place net s m))

      state : Row
      state = given.values ++ r

      is : IsTrue (is_state t net state)
      is = join_fits t (cut_signals net) net.requires_ given.values r given.fit fit.required

      own_is : own_values net state ≡ r
      own_is = join_drop t (cut_signals net) given.values r given.fit

      cut_is : cut_values net state ≡ given.values
      cut_is = join_take t (cut_signals net) given.values r given.fit

      gives : Pointwise (CarriesAt (required_rows (map carried_by ws))) (cut_signals net) (cut_values net state)
      gives = rw cut_is given.carried

      step : StepsBy t net MayCarry f state state (map carried_by ws)
      step = record {
        before_is = is;
        after_is = is;
        may_carry = feasible;
        constraints = each_weaker _ _ constraints (λ c m. satisfied_rises t net c (each_got (ConstraintIsTyped t net) constraints c typed m) (reads_port c.lower) r (own_values net state) (map carried_by ws) (map carried_by ws)
            (reads_of f (required_rows (map carried_by ws))) (step_reads net f state (map carried_by ws) c.greater)
            (λ k q. greater_rises t net r (own_values net state) (map carried_by ws) c.greater fit.required (rw own_is fit.required) (rw own_is ((row_laws t net.requires_).reflexive r fit.required)) fits_parts k q)
            (same_reads t net f state (map carried_by ws) c m fit.provided fits_parts gives) (λ i j q. q)) hold.constraints;
        covered = rw cut_is (covers_itself t (map carried_by ws) (cut_signals net) given.values given.carried given.fit);
      }

  net_case : (provides requires_ : List Port) (parts : List Part) (constraints : List Constraint) → Each ClaimPart parts → Claim (Net provides requires_ parts constraints)
  net_case provides requires_ parts constraints claims f r w typed h =
      let k = rw Holds-Net at h in
      let is = rw IsTyped-Net at typed in
      let named = by_parts t provides requires_ parts constraints f r w k.1 in
      rw IsFeasibleIn-Net (k.0, steps_to_itself provides requires_ parts constraints f r named.0 is.each_constraint k.0 named.2 (parts_case parts claims named.0 is.typed named.2.parts))

  pub holds_in_rounds : (d : Design) (f r : Row) (w : Witness) → IsTyped t d → Holds t d f r w → IsFeasibleIn t n d f r
  holds_in_rounds = for_each_design Claim cat_case choice_case net_case

  pub feasible_in_rounds : (d : Design) (f r : Row) → IsTyped t d → IsFeasible t d f r → IsFeasibleIn t n d f r
  feasible_in_rounds d f r typed h = holds_in_rounds d f r h.0 typed h.1
