-- Where every net that is met is steady, every minimum of rounds is shown.
use Rattle.std.specs.Prelude.{◌≡◌, ◌<◌, ℕ, zero, suc, IsTrue, IsSomeAnd, List, [], ◌∷◌, Option, Some, None, slice_get, ◌⊎◌}
use Rattle.std.proofs.Common.{refl, subst, arith, inl, inr}
use Rattle.order_core.specs.ChainLaws.{ends_fall, least_steps_to_itself}
use Rattle.order_core.specs.Pointwise.{Each}
use Rattle.order_core.specs.PointwiseLaws.{each_got}
use Rattle.value_type.specs.declared.port.Port.{Port}
use Rattle.value_type.specs.declared.poset.Types.{Types}
use Rattle.value_type.specs.Leq.{row_leq}
use Rattle.design_model.specs.declared.design.CatRow.{CatRow}
use Rattle.design_model.specs.declared.design.Design.{Design}
use Rattle.design_model.specs.declared.design.Design.TheVariants.{Cat, Choice, Net}
use Rattle.design_model.specs.declared.design.Part.{Part}
use Rattle.design_model.specs.declared.expr.Constraint.{Constraint}
use Rattle.design_model.specs.Cuts.{cut_signals}
use Rattle.design_model.specs.Feasible.{resources_leq}
use Rattle.design_model.specs.Holds.{Fit}
use Rattle.design_model.specs.Met.{IsMet, AsksPart}
use Rattle.design_model.specs.PartsLaws.{required-Choice, required-Net}
use Rattle.design_model.specs.Rounds.{IsFeasibleIn, IsMinimumIn}
use Rattle.design_model.specs.RoundsLaws.{IsFeasibleIn-Choice, IsFeasibleIn-Net, feasible_in_fits}
use Rattle.design_model.specs.Rows.{Row}
use Rattle.design_model.specs.Shown.{IsShown, Shows}
use Rattle.design_model.specs.ShownLaws.{Shows-Cat, Shows-Choice, Shows-Net, IsMet-here, IsMet-Choice, IsMet-Net}
use Rattle.design_model.specs.Steady.{NetOf, net_of, wiring, design_of, MayCarryIn}
use Rattle.design_model.specs.SteadyLaws.{StepsIn, EndsLeastIn, IsSteadyIn}
use Rattle.design_model.specs.Step.{is_state, state_leq, own_values}
use Rattle.design_model.specs.Typed.{IsTyped, HasPorts}
use Rattle.design_model.specs.TypedLaws.{IsTyped-Choice, IsTyped-Net}
use Rattle.model_laws.specs.SteadyLaws.{steps_from_all}
use Rattle.model_laws.specs.StepLaws.{own_fits, own_leq}
use Rattle.round_laws.specs.AllMet.{AllMetAreSteady}
use Rattle.design_model.specs.DesignInductionLaws.{for_each_design}
use Rattle.round_laws.proofs.LeastEnds.{end_is_state, least_end}
use Rattle.round_laws.proofs.WithItem.{some_of}
use Rattle.order_core.specs.MemberLaws.{got_member}

-- Of a least end of n steps, where n is one or more and the net is steady:
module _ (t : Types) (k : ℕ) (net : NetOf) (f s : Row) (low : EndsLeastIn t (suc k) net f (suc k) s) where
  -- it is a least end of one step fewer, where the last round loses nothing,
  before_least : IsSteadyIn t (suc k) net f → (cut_signals (wiring net) ≡ []) ⊎ EndsLeastIn t (suc k) net f k s
  before_least (inl none) = inl none
  before_least (inr last) = inr (record {
    element = ends_fall (is_state t (wiring net)) (state_leq t (wiring net)) (StepsIn t (suc k) net f) (λ x y v by. by.1.after_is) k s low.element;
    least = λ y ends l. low.least y (last y ends) l;
  })

  -- and it steps to itself.
  to_itself : IsTrue (is_state t (wiring net) s) → (cut_signals (wiring net) ≡ []) ⊎ EndsLeastIn t (suc k) net f k s → StepsIn t (suc k) net f s s
  to_itself s_is (inl none) = let chain = low.element in steps_from_all t (wiring net) (MayCarryIn t (suc k) net) none f chain.0 s s s_is chain.3
  to_itself s_is (inr before) = least_steps_to_itself (is_state t (wiring net)) (state_leq t (wiring net)) (StepsIn t (suc k) net f) k s before low.element

module _ (t : Types) (k : ℕ) where
  abbrev Claim : Design → Type 0
  Claim d = (f r : Row) → IsTyped t d → AllMetAreSteady t (suc k) d f → IsMinimumIn t (suc k) d f r → Shows t (suc k) d f r

  shows_catalogue : (provides requires_ : List Port) (rows : List CatRow) → Claim (Cat provides requires_ rows)
  shows_catalogue provides requires_ rows f r typed steady minimum = rw Shows-Cat tt

  shows_choice : (provides requires_ : List Port) (branches : List Part) → Each (λ b. Claim b.design) branches → Claim (Choice provides requires_ branches)
  shows_choice provides requires_ branches each f r typed steady minimum =
      let in_rounds = rw IsFeasibleIn-Choice at minimum.element in
      let is = rw IsTyped-Choice at typed in
      rw Shows-Choice (in_rounds.1.0, in_branch in_rounds.1.0 (slice_get branches in_rounds.1.0) refl in_rounds.0 is.same is.typed in_rounds.1.1)
    where
      in_branch : (i : ℕ) (o : Option Part) → slice_get branches i ≡ o → Fit t provides requires_ f r → Each (HasPorts provides requires_) branches → Each (λ p. IsTyped t p.design) branches
          → IsSomeAnd o (λ b. IsFeasibleIn t (suc k) b.design f r) → IsSomeAnd o (λ b. IsMinimumIn t (suc k) b.design f r × Shows t (suc k) b.design f r)
      in_branch i None e fit same each_typed there = absurd there
      in_branch i (Some b) e fit same each_typed there =
          let m = got_member branches i b e in
          let of_branch : IsMinimumIn t (suc k) b.design f r = record { element = there; least = least (each_got (HasPorts provides requires_) branches b same m) } in
          (of_branch, each_got (λ (p : Part). Claim p.design) branches b each m f r (each_got (λ (p : Part). IsTyped t p.design) branches b each_typed m) steady_branch of_branch)
        where
          -- What is feasible for the branch is feasible for the choice.
          least : HasPorts provides requires_ b → (y : Row) → IsFeasibleIn t (suc k) b.design f y → IsTrue (resources_leq t b.design y r) → y ≡ r
          least ports y feasible l =
              let inner_fit = feasible_in_fits t (suc k) b.design f y feasible in
              minimum.least y
              (rw IsFeasibleIn-Choice (
                record { provided = fit.provided; required = rw (← ports.required) inner_fit.required },
                (i, some_of (λ (p : Part). IsFeasibleIn t (suc k) p.design f y) (slice_get branches i) b e feasible),
              ))
              (rw (required-Choice, ← ports.required) l)

          steady_branch : AllMetAreSteady t (suc k) b.design f
          steady_branch path net g met =
              steady (i ∷ path) net g (rw IsMet-Choice (some_of (λ (p : Part). IsMet t (suc k) path p.design f (design_of net) g) (slice_get branches i) b e met))

  -- The least end below a state with r at the own required ports has r there too, since r is a minimum.
  shows_net : (provides requires_ : List Port) (parts : List Part) (constraints : List Constraint) → Each (λ p. Claim p.design) parts → Claim (Net provides requires_ parts constraints)
  shows_net provides requires_ parts constraints each f r typed steady minimum =
      let in_rounds = rw IsFeasibleIn-Net at minimum.element in
      let is = rw IsTyped-Net at typed in
      let low = least_end t (suc k) net f (suc k) in_rounds.1.state in_rounds.1.ends in
      let low_is = end_is_state t (suc k) net f (suc k) low.0 low.1.element in
      let below = subst (λ (z : Row). IsTrue (row_leq t (wiring net).requires_ (own_values (wiring net) low.0) z)) in_rounds.1.own (own_leq t (wiring net) low.0 in_rounds.1.state low.2) in
      let own = minimum.least (own_values (wiring net) low.0)
      (rw IsFeasibleIn-Net (record { provided = in_rounds.0.provided; required = own_fits t (wiring net) low.0 low_is }, record { state = low.0; ends = low.1.element; own = refl }))
      (rw required-Net below) in
      let net_steady = steady [] net f (rw IsMet-here (refl, refl)) in
      let before = before_least t k net f low.0 low.1 net_steady in
      let steps = to_itself t k net f low.0 low.1 low_is before in
      rw Shows-Net (
        low.0,
        record {
          own = own;
          steps = steps;
          ends = low.1;
          ends_before = before;
          parts = λ i row answer asks minimum. in_part i row answer (record { steady = net_steady; state = low.0; ends = low.1; steps = steps; asks = asks }) is.typed (slice_get parts i) refl minimum;
        },
      )
    where
      net : NetOf
      net = net_of provides requires_ parts constraints

      in_part : (i : ℕ) (row answer : Row) → AsksPart t (suc k) net f i row → Each (λ p. IsTyped t p.design) parts → (o : Option Part) → slice_get parts i ≡ o
          → IsSomeAnd o (λ p. IsMinimumIn t (suc k) p.design row answer) → IsSomeAnd o (λ p. Shows t (suc k) p.design row answer)
      in_part i row answer asks each_typed None e there = absurd there
      in_part i row answer asks each_typed (Some p) e there =
          let m = got_member parts i p e in
          each_got (λ (q : Part). Claim q.design) parts p each m row answer (each_got (λ (q : Part). IsTyped t q.design) parts p each_typed m) steady_part there
        where
          -- A part that is asked for a row is met there.
          steady_part : AllMetAreSteady t (suc k) p.design row
          steady_part path inner g met =
              steady (i ∷ path) inner g (rw IsMet-Net (row, asks, some_of (λ (q : Part). IsMet t (suc k) path q.design row (design_of inner) g) (slice_get parts i) p e met))

  steady_shows : (d : Design) → Claim d
  steady_shows = for_each_design Claim shows_catalogue shows_choice shows_net

pub steady_is_shown : (t : Types) (n : ℕ) (d : Design) (f r : Row) → 0 < n → IsTyped t d → AllMetAreSteady t n d f → IsMinimumIn t n d f r → IsShown t n d f r
steady_is_shown t zero d f r some typed steady minimum = absurd (omega arith)
steady_is_shown t (suc k) d f r some typed steady minimum = record { minimum = minimum; shows = steady_shows t k d f r typed steady minimum }
