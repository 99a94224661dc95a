-- With a smaller functionality, or greater resources, a design is still feasible in as many rounds.
use Rattle.std.proofs.Common.{refl, sym, subst}
use Rattle.std.specs.Prelude.{◌≡◌, ℕ, zero, suc, IsTrue, IsSomeAnd, List, [], ◌∷◌, ◌++◌, map, Option, Some, None, slice_get}
use Rattle.design_model.specs.Cuts.{cut_signals}
use Rattle.design_model.specs.Holds.{Fit, RowHolds}
use Rattle.design_model.specs.Parts.{provided_ports, required_ports}
use Rattle.design_model.specs.PartsLaws.{provided-Cat, required-Cat, provided-Choice, required-Choice, provided-Net, required-Net}
use Rattle.design_model.specs.Rounds.{IsFeasibleIn, EachFeasible, SomeEnds}
use Rattle.design_model.specs.RoundsLaws.{IsFeasibleIn-Cat, IsFeasibleIn-Choice, IsFeasibleIn-Net, feasible_in_fits}
use Rattle.design_model.specs.Rows.{Row}
use Rattle.design_model.specs.Step.{is_state, state_leq, cut_values, own_values, signal_kinds}
use Rattle.design_model.specs.StepLaws.{Steps}
use Rattle.design_model.specs.Typed.{IsTyped, IsTypedCat, IsTypedNet, HasPorts, row_is_typed}
use Rattle.design_model.specs.TypedLaws.{IsTyped-Cat, IsTyped-Choice, IsTyped-Net}
use Rattle.design_model.specs.Wiring.{Wiring, wiring_of, Carried}
use Rattle.design_model.specs.declared.design.CatRow.{CatRow}
use Rattle.design_model.specs.declared.design.Design.TheVariants.{Cat, Choice, Net}
use Rattle.design_model.specs.declared.design.Design.{Design}
use Rattle.design_model.specs.declared.design.Part.{Part}
use Rattle.design_model.specs.declared.expr.Constraint.{Constraint}
use Rattle.model_laws.specs.HoldsMonotone.{Eases}
use Rattle.model_laws.specs.HoldsMonotoneLaws.{row_eases}
use Rattle.model_laws.specs.SatisfiedLaws.{CarriedFits, carried_fits}
use Rattle.model_laws.specs.StateLaws.{join_fits, join_drop, own_leq}
use Rattle.model_laws.specs.StepLaws.{cut_fits, states_in_order, steps_fall, steps_monotone}
use Rattle.order_core.specs.ChainLaws.{ends_rise, ends_are_states, chain_mapped}
use Rattle.order_core.specs.MemberLaws.{all_got}
use Rattle.order_core.specs.Pointwise.{Each}
use Rattle.order_core.specs.PointwiseLaws.{pointwise_weaker}
use Rattle.value_type.specs.KindOrderLaws.{row_laws}
use Rattle.value_type.specs.Leq.{row_leq}
use Rattle.value_type.specs.declared.port.Port.{Port}
use Rattle.value_type.specs.declared.poset.Types.{Types}
use Rattle.design_model.specs.DesignInductionLaws.{for_each_design}

-- What parts carry where they are feasible fits their ports.
pub feasible_carried_fits : (t : Types) (n : ℕ) (provides requires_ : List Port) (parts : List Part) (constraints : List Constraint) (carried : List Carried)
    → EachFeasible (λ p. IsFeasibleIn t n p.design) parts carried → CarriedFits t (wiring_of (λ p. p) provides requires_ parts constraints) carried
feasible_carried_fits t n provides requires_ parts constraints carried h =
    carried_fits t (wiring_of (λ p. p) provides requires_ parts constraints) parts carried refl refl
    (pointwise_weaker _ _ parts carried (λ p c m k. feasible_in_fits t n p.design c.provided c.required k) h)

module _ (t : Types) (n : ℕ) where
  abbrev Claim : Design → Type 0
  Claim d = (f g r s : Row) → IsTyped t d → Eases t (provided_ports d) (required_ports d) f g r s → IsFeasibleIn t n d f r → IsFeasibleIn t n d g s

  abbrev ClaimPart : Part → Type 0
  ClaimPart p = Claim p.design

  cat_case : (provides requires_ : List Port) (rows : List CatRow) → Claim (Cat provides requires_ rows)
  cat_case provides requires_ rows f g r s typed e h =
      let k = rw IsFeasibleIn-Cat at h in
      let is = rw IsTyped-Cat at typed in
      let eases : Eases t provides requires_ f g r s = rw (provided-Cat, required-Cat) at e in
      rw IsFeasibleIn-Cat (eases.fit, (k.1.0, go k.1.0 (slice_get rows k.1.0) refl is eases k.0 k.1.1))
    where
      go : (m : ℕ) (o : Option CatRow) → slice_get rows m ≡ o → IsTypedCat t provides requires_ rows → Eases t provides requires_ f g r s → Fit t provides requires_ f r
          → IsSomeAnd o (RowHolds t provides requires_ f r) → IsSomeAnd o (RowHolds t provides requires_ g s)
      go m None q is eases fit k = absurd k
      go m (Some row) q is eases fit k = row_eases t provides requires_ f g r s row (all_got (row_is_typed t provides requires_) rows m row q is.rows_fit) fit eases k

  branch_case : (provides requires_ : List Port) (branches : List Part) → Each ClaimPart branches → (m : ℕ) (f g r s : Row)
      → Each (HasPorts provides requires_) branches → Each (λ p. IsTyped t p.design) branches → Eases t provides requires_ f g r s
      → IsSomeAnd (slice_get branches m) (λ b. IsFeasibleIn t n b.design f r) → IsSomeAnd (slice_get branches m) (λ b. IsFeasibleIn t n b.design g s)
  branch_case provides requires_ [] claims m f g r s same typed eases h = absurd h
  branch_case provides requires_ (b ∷ branches) claims zero f g r s same typed eases h =
      claims.0 f g r s typed.0 (record {
        fit = record { provided = rw same.0.provided eases.fit.provided; required = rw same.0.required eases.fit.required };
        less = rw same.0.provided eases.less;
        more = rw same.0.required eases.more;
      }) h
  branch_case provides requires_ (b ∷ branches) claims (suc m) f g r s same typed eases h = branch_case provides requires_ branches claims.1 m f g r s same.1 typed.1 eases h

  choice_case : (provides requires_ : List Port) (branches : List Part) → Each ClaimPart branches → Claim (Choice provides requires_ branches)
  choice_case provides requires_ branches claims f g r s typed e h =
      let k = rw IsFeasibleIn-Choice at h in
      let is = rw IsTyped-Choice at typed in
      let eases : Eases t provides requires_ f g r s = rw (provided-Choice, required-Choice) at e in
      rw IsFeasibleIn-Choice (eases.fit, (k.1.0, branch_case provides requires_ branches claims k.1.0 f g r s is.same is.typed eases k.1.1))

  net_case : (provides requires_ : List Port) (parts : List Part) (constraints : List Constraint) → Each ClaimPart parts → Claim (Net provides requires_ parts constraints)
  net_case provides requires_ parts constraints claims f g r s typed e h =
      let k = rw IsFeasibleIn-Net at h in
      let is = rw IsTyped-Net at typed in
      let eases : Eases t provides requires_ f g r s = rw (provided-Net, required-Net) at e in
      rw IsFeasibleIn-Net (eases.fit, eased is eases k.0 k.1)
    where
      net : Wiring
      net = wiring_of (λ p. p) provides requires_ parts constraints

      MayCarry : List Carried → Type 0
      MayCarry = EachFeasible (λ p. IsFeasibleIn t n p.design) parts

      eased : IsTypedNet t provides requires_ parts constraints (Each (λ p. IsTyped t p.design) parts) → Eases t provides requires_ f g r s → Fit t provides requires_ f r
          → SomeEnds t net MayCarry f n r → SomeEnds t net MayCarry g n s
      eased is eases fit some =
          let may_fit = feasible_carried_fits t n provides requires_ parts constraints in
          let order = states_in_order t net in
          let monotone_f = steps_monotone t net MayCarry is.each_constraint may_fit f fit.provided in
          let monotone_g = steps_monotone t net MayCarry is.each_constraint may_fit g eases.fit.provided in
          let old_is = ends_are_states (is_state t net) (state_leq t net) (Steps t net MayCarry f) monotone_f.states n some.state some.ends in
          let cuts = cut_fits t net some.state old_is in
          let own : IsTrue (row_leq t net.requires_ (own_values net some.state) s) = rw some.own eases.more in
          let new_is = join_fits t (cut_signals net) net.requires_ (cut_values net some.state) s cuts eases.fit.required in
          let rises = own_leq t (cut_signals net) net.requires_ some.state s ((row_laws t (signal_kinds net)).reflexive (cut_values net some.state) cuts) old_is own in
          let ends = chain_mapped (is_state t net) (state_leq t net) (Steps t net MayCarry f) (Steps t net MayCarry g)
          (λ x y step. steps_fall t net MayCarry is.each_constraint may_fit f g x x y fit.provided eases.fit.provided eases.less step.1.before_is (order.reflexive x step.1.before_is) step) n some.state some.ends in
          record {
            state = cut_values net some.state ++ s;
            ends = ends_rise (is_state t net) (state_leq t net) (Steps t net MayCarry g) order monotone_g n some.state (cut_values net some.state ++ s) ends new_is rises;
            own = join_drop t (cut_signals net) (cut_values net some.state) s cuts;
          }

  -- A typed design that is feasible in n rounds is so with the eased rows too.
  pub feasible_in_eased : (d : Design) (f g r s : Row) → IsTyped t d → Eases t (provided_ports d) (required_ports d) f g r s → IsFeasibleIn t n d f r → IsFeasibleIn t n d g s
  feasible_in_eased = for_each_design Claim cat_case choice_case net_case
