-- Whether a design is feasible in a number of rounds is decided, and so is what a net's chains end at.
use Rattle.std.specs.Prelude.{◌≡◌, ℕ, zero, suc, Bool, ◌&&◌, IsTrue, List, [], ◌∷◌, map, Option, Some, None}
use Rattle.std.specs.List.{flat_map}
use Rattle.std.proofs.Common.{refl, subst, inl, inr}
use Rattle.order_core.specs.ChainLaws.{ends_are_states}
use Rattle.order_core.specs.Members.{IsMember}
use Rattle.order_core.specs.MemberLaws.{first, second, both, map-mem, flat_map-mem}
use Rattle.order_core.specs.Pointwise.{Each, Pointwise}
use Rattle.order_core.specs.PointwiseLaws.{each_got, each_made}
use Rattle.order_core.specs.Tuple.{are_values}
use Rattle.value_type.specs.declared.kind.Kind.{Kind}
use Rattle.value_type.specs.declared.port.Port.{Port}
use Rattle.value_type.specs.declared.poset.Types.{Types}
use Rattle.value_type.specs.declared.value.Value.{Value}
use Rattle.value_type.specs.Fits.{row_fits}
use Rattle.value_type.specs.KindOrderLaws.{row_laws}
use Rattle.value_type.specs.Leq.{leq, row_leq}
use Rattle.value_type.specs.PortKinds.{port_kinds}
use Rattle.design_model.specs.declared.design.CatRow.{CatRow}
use Rattle.design_model.specs.declared.design.Design.{Design}
use Rattle.design_model.specs.declared.design.Design.TheVariants.{Cat, Choice, Net}
use Rattle.design_model.specs.declared.design.Part.{Part}
use Rattle.design_model.specs.declared.expr.Constraint.{Constraint}
use Rattle.design_model.specs.Cuts.{cut_signals}
use Rattle.design_model.specs.Holds.{Fit, RowHolds}
use Rattle.design_model.specs.Parts.{provided_ports, required_ports}
use Rattle.design_model.specs.Rounds.{IsFeasibleIn, EachFeasible, Ends, SomeEnds}
use Rattle.design_model.specs.RoundsLaws.{IsFeasibleIn-Cat, IsFeasibleIn-Choice, IsFeasibleIn-Net, feasible_in_fits}
use Rattle.design_model.specs.Rows.{Row}
use Rattle.design_model.specs.Steady.{NetOf, wiring, MayCarryIn}
use Rattle.design_model.specs.SteadyLaws.{StepsInBy, EndsIn}
use Rattle.design_model.specs.Step.{state_kinds, is_state, state_leq, own_values, cut_values, step_reads, IsCovered}
use Rattle.design_model.specs.StepLaws.{StepsBy, Steps}
use Rattle.design_model.specs.ValueOf.{port_at, value_of}
use Rattle.design_model.specs.Wiring.{Wiring, wiring_of, Carried, required_rows, IsAtLeast, Satisfied, greater_kind, greater_value}
use Rattle.model_laws.specs.StepLaws.{own_fits}
use Rattle.round_laws.specs.Decided.{Decided}
use Rattle.round_laws.proofs.Deciding.{decided_test, decided_as, decided_both, decided_under, decided_option, decided_each, decided_pointwise, decided_place}
use Rattle.design_model.specs.DesignInductionLaws.{for_each_design}
use Rattle.round_laws.proofs.FiniteKinds.{finite_rows}
use Rattle.round_laws.proofs.FiniteValues.{IsFinite, finite_tuples, decided_some}

decided_fit : (t : Types) (provides requires_ : List Port) (f r : Row) → Decided (Fit t provides requires_ f r)
decided_fit t provides requires_ f r =
    decided_as (IsTrue (row_fits t (port_kinds provides) f) × IsTrue (row_fits t (port_kinds requires_) r)) (Fit t provides requires_ f r)
    (λ h. record { provided = h.0; required = h.1 }) (λ h. (h.provided, h.required)) (decided_both _ _ (decided_test _) (decided_test _))

-- Rows that fit are equal where each is at most the other.
decided_equal : (t : Types) (ks : List Kind) (xs ys : Row) → IsTrue (row_fits t ks xs) → IsTrue (row_fits t ks ys) → Decided (xs ≡ ys)
decided_equal t ks xs ys xs_fit ys_fit =
    decided_as (IsTrue (row_leq t ks xs ys) × IsTrue (row_leq t ks ys xs)) (xs ≡ ys) (λ h. (row_laws t ks).antisymmetric xs ys xs_fit ys_fit h.0 h.1)
    (λ e. let self = (row_laws t ks).reflexive xs xs_fit in (subst (λ (z : Row). IsTrue (row_leq t ks xs z)) e self, subst (λ (z : Row). IsTrue (row_leq t ks z xs)) e self))
    (decided_both _ _ (decided_test _) (decided_test _))

decided_at_least : (t : Types) (port : Option Kind) (upper lower : Option Value) → Decided (IsAtLeast t port upper lower)
decided_at_least t None upper lower = inr (λ h. let wrong : None ≡ Some h.kind = h.port_is in cc)
decided_at_least t (Some k) None lower = inr (λ h. let wrong : None ≡ Some h.above = h.upper_is in cc)
decided_at_least t (Some k) (Some a) None = inr (λ h. let wrong : None ≡ Some h.below = h.lower_is in cc)
decided_at_least t (Some k) (Some a) (Some b) =
    decided_as (IsTrue (leq t k b a)) (IsAtLeast t (Some k) (Some a) (Some b))
    (λ h. record { kind = k; above = a; below = b; port_is = refl; upper_is = refl; lower_is = refl; at_least = h }) in_order (decided_test _)
  where
    in_order : IsAtLeast t (Some k) (Some a) (Some b) → IsTrue (leq t k b a)
    in_order h =
        let kinds : h.kind ≡ k = let e : Some k ≡ Some h.kind = h.port_is in cc in
        let uppers : h.above ≡ a = let e : Some a ≡ Some h.above = h.upper_is in cc in
        let lowers : h.below ≡ b = let e : Some b ≡ Some h.below = h.lower_is in cc in
        subst (λ (z : Kind). IsTrue (leq t z b a)) kinds (subst (λ (z : Value). IsTrue (leq t h.kind z a)) lowers (subst (λ (z : Value). IsTrue (leq t h.kind h.below z)) uppers h.at_least))

-- What the part carries fits its ports.
abbrev pub fits_part : Types → Part → Carried → Bool
fits_part t p c = row_fits t (port_kinds (provided_ports p.design)) c.provided && row_fits t (port_kinds (required_ports p.design)) c.required

-- What each part carries fits its ports.
abbrev pub fit_parts : Types → List Part → List Carried → Bool
fit_parts t parts = are_values (map (fits_part t) parts)

finite_part : (t : Types) (p : Part) → IsFinite (fits_part t p)
finite_part t p = record {
  items = flat_map (λ x. map (λ y. record { provided = x; required = y }) required.items) provided.items;
  complete = λ c h. flat_map-mem (λ x. map (λ y. record { provided = x; required = y }) required.items) provided.items c.provided c (provided.complete c.provided (first _ _ h))
      (map-mem (λ y. record { provided = c.provided; required = y }) required.items c.required (required.complete c.required (second (row_fits t (port_kinds (provided_ports p.design)) c.provided) _ h)));
}
  where
    provided : IsFinite (row_fits t (port_kinds (provided_ports p.design)))
    provided = finite_rows t (port_kinds (provided_ports p.design))

    required : IsFinite (row_fits t (port_kinds (required_ports p.design)))
    required = finite_rows t (port_kinds (required_ports p.design))

pub finite_parts : (t : Types) (parts : List Part) → IsFinite (fit_parts t parts)
finite_parts t parts = finite_tuples (fits_part t) parts (each_made (λ p. IsFinite (fits_part t p)) parts (λ p m. finite_part t p))

pub feasible_parts_fit : (t : Types) (n : ℕ) (parts : List Part) (carried : List Carried) → EachFeasible (λ p. IsFeasibleIn t n p.design) parts carried → IsTrue (fit_parts t parts carried)
feasible_parts_fit t n [] [] h = refl
feasible_parts_fit t n [] (c ∷ carried) h = absurd h
feasible_parts_fit t n (p ∷ parts) [] h = absurd h
feasible_parts_fit t n (p ∷ parts) (c ∷ carried) h =
    let fit = feasible_in_fits t n p.design c.provided c.required h.0 in both _ _ (both _ _ fit.provided fit.required) (feasible_parts_fit t n parts carried h.1)

-- Where it is decided what the parts may carry, steps and chains are decided.
module _ (t : Types) (net : Wiring) (MayCarry : List Carried → Type 0) (f : Row) (fit : List Carried → Bool) (finite : IsFinite fit) (may_fit : (carried : List Carried) → MayCarry carried → IsTrue (fit carried))
    (decided : (carried : List Carried) → Decided (MayCarry carried)) where
  decided_step_by : (x y : Row) (carried : List Carried) → Decided (StepsBy t net MayCarry f x y carried)
  decided_step_by x y carried =
      decided_as
      (IsTrue (is_state t net x) × (IsTrue (is_state t net y) × (MayCarry carried × (Each (λ c. Satisfied t net (own_values net y) carried (step_reads net f x carried c.greater) c) net.constraints
      × Pointwise (IsCovered t carried) (cut_signals net) (cut_values net y)))))
      (StepsBy t net MayCarry f x y carried)
      (λ h. record { before_is = h.0; after_is = h.1.0; may_carry = h.1.1.0; constraints = h.1.1.1.0; covered = h.1.1.1.1 })
      (λ h. (h.before_is, (h.after_is, (h.may_carry, (h.constraints, h.covered)))))
      (decided_both _ _ (decided_test _) (decided_both _ _ (decided_test _) (decided_both _ _ (decided carried) (decided_both _ _
      (decided_each _ net.constraints (λ c m. decided_at_least t (greater_kind net c.greater) (greater_value (own_values net y) carried c.greater) (value_of c.lower (step_reads net f x carried c.greater))))
      (decided_pointwise (IsCovered t carried) (cut_signals net) (cut_values net y) (λ s v m. decided_option _ (port_at (required_rows carried) s.part s.port) (λ z. decided_test _)))))))

  decided_step : (x y : Row) → Decided (Steps t net MayCarry f x y)
  decided_step x y = decided_some fit (StepsBy t net MayCarry f x y) finite (λ carried by. may_fit carried by.may_carry) (decided_step_by x y)

  decided_end : (k : ℕ) (s : Row) → Decided (Ends t net MayCarry f k s)
  decided_end zero s = decided_test _
  decided_end (suc k) s =
      decided_as ((before : Row) × (Ends t net MayCarry f k before × (IsTrue (state_leq t net before s) × Steps t net MayCarry f before s))) (Ends t net MayCarry f (suc k) s)
      (λ h. (h.0, h.1.0, h.1.1.0, h.1.1.1)) (λ h. (h.0, (h.1, (h.2, h.3))))
      (decided_some (is_state t net) (λ before. Ends t net MayCarry f k before × (IsTrue (state_leq t net before s) × Steps t net MayCarry f before s)) (finite_rows t (state_kinds net))
      (λ before h. h.1.1.1.before_is) (λ before. decided_both _ _ (decided_end k before) (decided_both _ _ (decided_test _) (decided_step before s))))

  decided_some_end : (k : ℕ) (r : Row) → IsTrue (row_fits t net.requires_ r) → Decided (SomeEnds t net MayCarry f k r)
  decided_some_end k r r_fits =
      decided_as ((s : Row) × (Ends t net MayCarry f k s × (own_values net s ≡ r))) (SomeEnds t net MayCarry f k r)
      (λ h. record { state = h.0; ends = h.1.0; own = h.1.1 }) (λ h. (h.state, (h.ends, h.own)))
      (decided_some (is_state t net) (λ s. Ends t net MayCarry f k s × (own_values net s ≡ r)) (finite_rows t (state_kinds net)) (λ s h. are_states s h.0)
      (λ s. decided_under (Ends t net MayCarry f k s) _ (λ h. h.0) (decided_end k s)
      (λ ends. decided_both _ _ (inl ends) (decided_equal t net.requires_ (own_values net s) r (own_fits t net s (are_states s ends)) r_fits))))
    where
      are_states : (s : Row) → Ends t net MayCarry f k s → IsTrue (is_state t net s)
      are_states s ends = ends_are_states (is_state t net) (state_leq t net) (Steps t net MayCarry f) (λ x y v by. by.1.after_is) k s ends

module _ (t : Types) (n : ℕ) where
  abbrev Claim : Design → Type 0
  Claim d = (f r : Row) → Decided (IsFeasibleIn t n d f r)

  decided_catalogue : (provides requires_ : List Port) (rows : List CatRow) → Claim (Cat provides requires_ rows)
  decided_catalogue provides requires_ rows f r = rw IsFeasibleIn-Cat (decided_both _ _ (decided_fit t provides requires_ f r) (decided_place (RowHolds t provides requires_ f r) rows holds))
    where
      holds : (row : CatRow) → IsMember row rows → Decided (RowHolds t provides requires_ f r row)
      holds row m =
          decided_as (IsTrue (row_leq t (port_kinds provides) f row.provided) × IsTrue (row_leq t (port_kinds requires_) row.required r)) (RowHolds t provides requires_ f r row)
          (λ h. record { enough = h.0; within = h.1 }) (λ h. (h.enough, h.within)) (decided_both _ _ (decided_test _) (decided_test _))

  decided_choice : (provides requires_ : List Port) (branches : List Part) → Each (λ b. Claim b.design) branches → Claim (Choice provides requires_ branches)
  decided_choice provides requires_ branches each f r =
      rw IsFeasibleIn-Choice (decided_both _ _ (decided_fit t provides requires_ f r)
      (decided_place (λ b. IsFeasibleIn t n b.design f r) branches (λ b m. each_got (λ (z : Part). Claim z.design) branches b each m f r)))

  decided_carried : (parts : List Part) → Each (λ p. Claim p.design) parts → (carried : List Carried) → Decided (EachFeasible (λ p. IsFeasibleIn t n p.design) parts carried)
  decided_carried parts each carried = decided_pointwise _ parts carried (λ p c m. each_got (λ (z : Part). Claim z.design) parts p each m c.provided c.required)

  decided_net : (provides requires_ : List Port) (parts : List Part) (constraints : List Constraint) → Each (λ p. Claim p.design) parts → Claim (Net provides requires_ parts constraints)
  decided_net provides requires_ parts constraints each f r =
      rw IsFeasibleIn-Net (decided_under (Fit t provides requires_ f r) _ (λ h. h.0) (decided_fit t provides requires_ f r) (λ fit. decided_both _ _ (inl fit)
      (decided_some_end t (wiring_of (λ p. p) provides requires_ parts constraints) (EachFeasible (λ p. IsFeasibleIn t n p.design) parts) f
      (fit_parts t parts) (finite_parts t parts) (feasible_parts_fit t n parts) (decided_carried parts each) n r fit.required)))

  pub decided_in : (d : Design) (f r : Row) → Decided (IsFeasibleIn t n d f r)
  decided_in = for_each_design Claim decided_catalogue decided_choice decided_net

  -- Of a net:
  module _ (net : NetOf) (f : Row) where
    decided_may_carry : (carried : List Carried) → Decided (MayCarryIn t n net carried)
    decided_may_carry carried = decided_pointwise (λ (p : Part) (c : Carried). IsFeasibleIn t n p.design c.provided c.required) net.parts carried (λ p c m. decided_in p.design c.provided c.required)

    pub decided_net_step_by : (x y : Row) (carried : List Carried) → Decided (StepsInBy t n net f x y carried)
    decided_net_step_by = decided_step_by t (wiring net) (MayCarryIn t n net) f (fit_parts t net.parts) (finite_parts t net.parts) (feasible_parts_fit t n net.parts) decided_may_carry

    pub decided_net_end : (k : ℕ) (s : Row) → Decided (EndsIn t n net f k s)
    decided_net_end = decided_end t (wiring net) (MayCarryIn t n net) f (fit_parts t net.parts) (finite_parts t net.parts) (feasible_parts_fit t n net.parts) decided_may_carry
