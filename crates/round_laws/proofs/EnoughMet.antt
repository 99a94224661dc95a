-- With enough rounds all that is met is steady, and the minima of rounds are the minima.
use Rattle.std.specs.Prelude.{◌≡◌, ◌+◌, ◌-◌, ◌≤◌, ◌↔◌, ℕ, max, IsTrue, IsSomeAnd, List, [], ◌∷◌, map, Option, Some, None, slice_get, option_map}
use Rattle.std.proofs.Common.{refl, sym, ap, subst, ◌∙◌, arith, inl, inr}
use Rattle.std.proofs.lemmas.Bool.Decides.{nat_tests}
use Rattle.order_core.specs.Members.{IsMember}
use Rattle.order_core.specs.MemberLaws.{map-mem, got_member}
use Rattle.order_core.specs.Pointwise.{Each}
use Rattle.order_core.specs.PointwiseLaws.{each_got}
use Rattle.value_type.specs.declared.port.Port.{Port}
use Rattle.value_type.specs.declared.poset.Types.{Types}
use Rattle.value_type.specs.Fits.{row_fits}
use Rattle.value_type.specs.KindOrderLaws.{row_laws}
use Rattle.value_type.specs.PortKinds.{port_kinds}
use Rattle.design_model.specs.declared.design.CatRow.{CatRow}
use Rattle.design_model.specs.declared.design.Design.{Design}
use Rattle.design_model.specs.declared.design.Design.TheVariants.{Cat, Choice, Net}
use Rattle.design_model.specs.declared.design.Part.{Part}
use Rattle.design_model.specs.declared.expr.Constraint.{Constraint}
use Rattle.design_model.specs.Feasible.{IsMinimum, resources_leq}
use Rattle.design_model.specs.Heights.{Survey, surveyed, greatest, net_height, enough_rounds}
use Rattle.design_model.specs.HeightsLaws.{of_part, survey-Cat, survey-Choice, survey-Net, surveyed_is}
use Rattle.design_model.specs.Met.{IsMet, AsksPart}
use Rattle.design_model.specs.Parts.{provided_ports, required_ports}
use Rattle.design_model.specs.PartsLaws.{provided-Choice, provided-Net}
use Rattle.design_model.specs.Rounds.{IsFeasibleIn, IsMinimumIn}
use Rattle.design_model.specs.RoundsLaws.{feasible_in_fits}
use Rattle.design_model.specs.Rows.{Row}
use Rattle.design_model.specs.Shown.{IsShown}
use Rattle.design_model.specs.ShownLaws.{IsMet-here, IsMet-Cat, IsMet-Choice, IsMet-Net}
use Rattle.design_model.specs.Steady.{NetOf, net_of, design_of, wiring}
use Rattle.design_model.specs.SteadyLaws.{IsSteadyIn}
use Rattle.design_model.specs.Typed.{IsTyped, HasPorts}
use Rattle.design_model.specs.TypedLaws.{IsTyped-Choice, IsTyped-Net}
use Rattle.design_model.specs.Wiring.{Wiring, Carried}
use Rattle.model_laws.specs.FeasibleRoundsLaws.{feasible_in_rounds}
use Rattle.round_laws.specs.AllMet.{AllMetAreSteady}
use Rattle.round_laws.proofs.DecidedRounds.{decided_in}
use Rattle.design_model.specs.DesignInductionLaws.{for_each_design}
use Rattle.round_laws.proofs.EnoughRounds.{steady_in_enough}
use Rattle.round_laws.proofs.FiniteKinds.{finite_rows}
use Rattle.round_laws.proofs.FiniteValues.{minimal_under}
use Rattle.round_laws.proofs.ShownFeasible.{shown_is_feasible, shown_is_minimum}
use Rattle.round_laws.proofs.SteadyShown.{steady_is_shown}
use Rattle.round_laws.proofs.WithItem.{pointwise_pair}

pub minimum_below : (t : Types) (n : ℕ) (d : Design) (f r : Row) → IsFeasibleIn t n d f r → (low : Row) × IsMinimumIn t n d f low × IsTrue (resources_leq t d low r)
minimum_below t n d f =
    minimal_under (row_fits t (port_kinds (required_ports d))) (resources_leq t d) (IsFeasibleIn t n d f) (row_laws t (port_kinds (required_ports d))) (finite_rows t (port_kinds (required_ports d)))
    (λ x feasible. (feasible_in_fits t n d f x feasible).required) (decided_in t n d f)

both_at_most : (a b e : ℕ) → max a b ≡ e → (a ≤ e) × (b ≤ e)
both_at_most a b e h = (grind (arith, nat_tests, h), grind (arith, nat_tests, h))

-- Where there is a greatest, each is there and is at most it.
at_most_greatest : (least : ℕ) (xs : List (Option ℕ)) (e : ℕ) → greatest least xs ≡ Some e → (o : Option ℕ) → IsMember o xs → (x : ℕ) × (o ≡ Some x) × (x ≤ e)
at_most_greatest least [] e h o m = absurd m
at_most_greatest least (None ∷ xs) e h o m = absurd (cc)
at_most_greatest least (Some a ∷ xs) e h o m = by_rest (greatest least xs) refl h m (at_most_greatest least xs)
  where
    by_rest : (q : Option ℕ) → greatest least xs ≡ q → option_map (λ b. max a b) q ≡ Some e → IsMember o (Some a ∷ xs)
        → ((g : ℕ) → greatest least xs ≡ Some g → (p : Option ℕ) → IsMember p xs → (x : ℕ) × (p ≡ Some x) × (x ≤ g)) → (x : ℕ) × (o ≡ Some x) × (x ≤ e)
    by_rest None rest whole k later = absurd (cc)
    by_rest (Some b) rest whole (inl is) later = let max_is : max a b ≡ e = cc in (a, is, (both_at_most a b e max_is).0)
    by_rest (Some b) rest whole (inr k) later =
        let max_is : max a b ≡ e = cc in
        let found = later b rest o k in
        let more = (both_at_most a b e max_is).1 in
        (found.0, found.1, omega (arith, found.2, more))

greatest_at_least : (least : ℕ) (xs : List (Option ℕ)) (e : ℕ) → greatest least xs ≡ Some e → least ≤ e
greatest_at_least least [] e h = let same : least ≡ e = cc in omega arith
greatest_at_least least (None ∷ xs) e h = absurd (cc)
greatest_at_least least (Some a ∷ xs) e h = by_rest (greatest least xs) refl h (greatest_at_least least xs)
  where
    by_rest : (q : Option ℕ) → greatest least xs ≡ q → option_map (λ b. max a b) q ≡ Some e → ((g : ℕ) → greatest least xs ≡ Some g → least ≤ g) → least ≤ e
    by_rest None rest whole later = absurd (cc)
    by_rest (Some b) rest whole later =
        let max_is : max a b ≡ e = cc in
        let l = later b rest in
        let more = (both_at_most a b e max_is).1 in omega (arith, l, more)

-- The net is typed, g fits it, and it has a height that is less than the rounds by two.
record IsWithin (t : Types) (net : NetOf) (g : Row) (rounds : ℕ) : Type 0 where
  typed : IsTyped t (design_of net)
  fit : IsTrue (row_fits t (port_kinds net.provides) g)
  height : ℕ
  high : net_height t (wiring net) (map (of_part t) net.parts) ≡ Some height
  few : height + 2 ≤ rounds

some_height : (o : Option ℕ) (x : ℕ) → option_map (λ h. h + 2) o ≡ Some x → (h : ℕ) × (o ≡ Some h) × (h + 2 ≡ x)
some_height None x e = absurd (cc)
some_height (Some h) x e = (h, refl, cc)

-- how many rounds are enough for each of these parts
abbrev enough_of_each : Types → List Part → List (Option ℕ)
enough_of_each t parts = map (λ (s : Survey). s.enough) (map (of_part t) parts)

enough-mem : (t : Types) (parts : List Part) (p : Part) → IsMember p parts → IsMember (of_part t p).enough (enough_of_each t parts)
enough-mem t parts p m = map-mem (λ (s : Survey). s.enough) (map (of_part t) parts) (of_part t p) (map-mem (of_part t) parts p m)

-- what a net needs for itself, and then for each part
abbrev enough_within : Types → List Port → List Port → List Part → List Constraint → List (Option ℕ)
enough_within t provides requires_ parts constraints =
    option_map (λ h. h + 2) (net_height t (surveyed provides requires_ (map (of_part t) parts) constraints) (map (of_part t) parts)) ∷ enough_of_each t parts

enough-Cat : (t : Types) (provides requires_ : List Port) (rows : List CatRow) → enough_rounds t (Cat provides requires_ rows) ≡ Some 1
enough-Cat t provides requires_ rows = ap (λ (s : Survey). s.enough) (survey-Cat t provides requires_ rows)

enough-Choice : (t : Types) (provides requires_ : List Port) (branches : List Part) → enough_rounds t (Choice provides requires_ branches) ≡ greatest 1 (enough_of_each t branches)
enough-Choice t provides requires_ branches = ap (λ (s : Survey). s.enough) (survey-Choice t provides requires_ branches)

enough-Net : (t : Types) (provides requires_ : List Port) (parts : List Part) (constraints : List Constraint)
    → enough_rounds t (Net provides requires_ parts constraints) ≡ greatest 1 (enough_within t provides requires_ parts constraints)
enough-Net t provides requires_ parts constraints = ap (λ (s : Survey). s.enough) (survey-Net t provides requires_ parts constraints)

net_is_within : (t : Types) (net : NetOf) (g : Row) (e : ℕ) → IsTyped t (design_of net) → IsTrue (row_fits t (port_kinds net.provides) g) → enough_rounds t (design_of net) ≡ Some e → IsWithin t net g e
net_is_within t net g e typed fit enough =
    let found = at_most_greatest 1 (enough_within t net.provides net.requires_ net.parts net.constraints) e (sym (enough-Net t net.provides net.requires_ net.parts net.constraints) ∙ enough) _ (inl refl) in
    let high = some_height (net_height t (surveyed net.provides net.requires_ (map (of_part t) net.parts) net.constraints) (map (of_part t) net.parts)) found.0 found.1 in
    record {
      typed = typed;
      fit = fit;
      height = high.0;
      high = subst (λ (w : Wiring). net_height t w (map (of_part t) net.parts) ≡ Some high.0) (surveyed_is t net.provides net.requires_ net.parts net.constraints) high.1;
      few = omega (arith, high.2, found.2);
    }

more_rounds : (t : Types) (net : NetOf) (g : Row) (rounds fewer : ℕ) → fewer ≤ rounds → IsWithin t net g fewer → IsWithin t net g rounds
more_rounds t net g rounds fewer l w = record { typed = w.typed; fit = w.fit; height = w.height; high = w.high; few = let few = w.few in omega (arith, few, l) }

-- What is met is typed, its row fits, and the enough rounds of the whole are enough for it.
module _ (t : Types) (n : ℕ) (net : NetOf) (g : Row) where
  abbrev MetIsWithin : List ℕ → Design → Type 0
  MetIsWithin path d = (f : Row) (e : ℕ) → IsTyped t d → IsTrue (row_fits t (port_kinds (provided_ports d)) f) → enough_rounds t d ≡ Some e → IsMet t n path d f (design_of net) g → IsWithin t net g e

  met_is_within : (path : List ℕ) (d : Design) → MetIsWithin path d
  met_is_within [] d f e typed fit enough met =
      let same = rw IsMet-here at met in
      net_is_within t net g e (subst (IsTyped t) same.0 typed)
      (rw provided-Net at (subst (λ (r : Row). IsTrue (row_fits t (port_kinds (provided_ports (design_of net))) r)) same.1 (subst (λ (z : Design). IsTrue (row_fits t (port_kinds (provided_ports z)) f)) same.0 fit)))
      (subst (λ (z : Design). enough_rounds t z ≡ Some e) same.0 enough)
  met_is_within (i ∷ path) d f e typed fit enough met =
      for_each_design (MetIsWithin (i ∷ path)) catalogue (λ provides requires_ branches each. choice (met_is_within path) provides requires_ branches)
      (λ provides requires_ parts constraints each. inside (met_is_within path) provides requires_ parts constraints) d f e typed fit enough met
    where
      catalogue : (provides requires_ : List Port) (rows : List CatRow) → MetIsWithin (i ∷ path) (Cat provides requires_ rows)
      catalogue provides requires_ rows f e typed fit enough met = absurd (rw IsMet-Cat at met)

      choice : ((z : Design) → MetIsWithin path z) → (provides requires_ : List Port) (branches : List Part) → MetIsWithin (i ∷ path) (Choice provides requires_ branches)
      choice further provides requires_ branches f e typed fit enough met =
          let is = rw IsTyped-Choice at typed in
          let own_fit : IsTrue (row_fits t (port_kinds provides) f) = rw provided-Choice at fit in
          in_branch (slice_get branches i) refl is.same is.typed own_fit (sym (enough-Choice t provides requires_ branches) ∙ enough) (rw IsMet-Choice at met)
        where
          in_branch : (o : Option Part) → slice_get branches i ≡ o → Each (HasPorts provides requires_) branches → Each (λ p. IsTyped t p.design) branches → IsTrue (row_fits t (port_kinds provides) f)
              → greatest 1 (enough_of_each t branches) ≡ Some e → IsSomeAnd o (λ b. IsMet t n path b.design f (design_of net) g) → IsWithin t net g e
          in_branch None there same each_typed own_fit whole met_there = absurd met_there
          in_branch (Some b) there same each_typed own_fit whole met_there =
              let m = got_member branches i b there in
              let ports = each_got (HasPorts provides requires_) branches b same m in
              let found = at_most_greatest 1 (enough_of_each t branches) e whole (of_part t b).enough (enough-mem t branches b m) in
              more_rounds t net g e found.0 found.2
              (further b.design f found.0 (each_got (λ (p : Part). IsTyped t p.design) branches b each_typed m) (rw ports.provided own_fit) found.1 met_there)

      inside : ((z : Design) → MetIsWithin path z) → (provides requires_ : List Port) (parts : List Part) (constraints : List Constraint) → MetIsWithin (i ∷ path) (Net provides requires_ parts constraints)
      inside further provides requires_ parts constraints f e typed fit enough met =
          let is = rw IsTyped-Net at typed in
          let by = rw IsMet-Net at met in
          in_part by.0 by.1 (slice_get parts i) refl is.typed (sym (enough-Net t provides requires_ parts constraints) ∙ enough) by.2
        where
          in_part : (row : Row) → AsksPart t n (net_of provides requires_ parts constraints) f i row → (o : Option Part) → slice_get parts i ≡ o → Each (λ p. IsTyped t p.design) parts
              → greatest 1 (enough_within t provides requires_ parts constraints) ≡ Some e → IsSomeAnd o (λ p. IsMet t n path p.design row (design_of net) g) → IsWithin t net g e
          in_part row asks None there each_typed whole met_there = absurd met_there
          in_part row asks (Some p) there each_typed whole met_there =
              let m = got_member parts i p there in
              let found = at_most_greatest 1 (enough_within t provides requires_ parts constraints) e whole (of_part t p).enough (inr (enough-mem t parts p m)) in
              more_rounds t net g e found.0 found.2
              (further p.design row found.0 (each_got (λ (z : Part). IsTyped t z.design) parts p each_typed m) (asked_fits (slice_get asks.asks.0 i) refl asks.asks.2) found.1 met_there)
            where
              -- The row that the part is asked for is one that it is feasible at.
              asked_fits : (o : Option Carried) → slice_get asks.asks.0 i ≡ o → IsSomeAnd o (λ c. c.provided ≡ row) → IsTrue (row_fits t (port_kinds (provided_ports p.design)) row)
              asked_fits None c_at asked = absurd asked
              asked_fits (Some c) c_at asked =
                  let feasible = pointwise_pair (λ (z : Part) (d : Carried). IsFeasibleIn t n z.design d.provided d.required) parts asks.asks.0 i p c asks.asks.1.steps.may_carry there c_at in
                  subst (λ (z : Row). IsTrue (row_fits t (port_kinds (provided_ports p.design)) z)) asked (feasible_in_fits t n p.design c.provided c.required feasible).provided

-- At least one round is enough.
some_rounds : (t : Types) (e : ℕ) (d : Design) → enough_rounds t d ≡ Some e → 1 ≤ e
some_rounds t e =
    for_each_design (λ d. enough_rounds t d ≡ Some e → 1 ≤ e)
    (λ provides requires_ rows enough. let is : Some 1 ≡ Some e = sym (enough-Cat t provides requires_ rows) ∙ enough in let same : 1 ≡ e = cc in omega (arith, same))
    (λ provides requires_ branches each enough. greatest_at_least 1 (enough_of_each t branches) e (sym (enough-Choice t provides requires_ branches) ∙ enough))
    (λ provides requires_ parts constraints each enough. greatest_at_least 1 (enough_within t provides requires_ parts constraints) e (sym (enough-Net t provides requires_ parts constraints) ∙ enough))

module _ (t : Types) (n e : ℕ) (d : Design) (f : Row) (typed : IsTyped t d) (enough : enough_rounds t d ≡ Some e) (many : e ≤ n) where
  pub all_met_are_steady : IsTrue (row_fits t (port_kinds (provided_ports d)) f) → AllMetAreSteady t n d f
  all_met_are_steady fit path net g met =
      let w = met_is_within t n net g path d f e typed fit enough met in
      let few = w.few in
      let rounds : (n - (w.height + 2)) + (w.height + 2) ≡ n = omega (arith, few, many) in
      subst (λ (m : ℕ). IsSteadyIn t m net g) rounds (steady_in_enough t (n - (w.height + 2)) w.height net g w.typed w.fit w.high)

  pub all_are_shown : (r : Row) → IsMinimumIn t n d f r → IsShown t n d f r
  all_are_shown r minimum =
      let some = some_rounds t e d enough in
      steady_is_shown t n d f r (omega (arith, some, many)) typed (all_met_are_steady (feasible_in_fits t n d f r minimum.element).provided) minimum

  -- Below what is feasible in rounds stands a minimum of rounds, which is shown, and so feasible.
  pub same_minima : (r : Row) → IsMinimumIn t n d f r ↔ IsMinimum t d f r
  same_minima r = (λ minimum. shown_is_minimum t n d f r typed (all_are_shown r minimum), of_minimum)
    where
      of_minimum : IsMinimum t d f r → IsMinimumIn t n d f r
      of_minimum minimum = record { element = feasible_in_rounds t n d f r typed minimum.element; least = least }
        where
          required_fits : (y : Row) → IsFeasibleIn t n d f y → IsTrue (row_fits t (port_kinds (required_ports d)) y)
          required_fits y feasible = (feasible_in_fits t n d f y feasible).required

          least : (y : Row) → IsFeasibleIn t n d f y → IsTrue (resources_leq t d y r) → y ≡ r
          least y feasible l =
              let order = row_laws t (port_kinds (required_ports d)) in
              let low = minimum_below t n d f y feasible in
              let y_fits = required_fits y feasible in
              let r_fits = required_fits r (feasible_in_rounds t n d f r typed minimum.element) in
              let same = minimum.least low.0 (shown_is_feasible t n d f low.0 typed (all_are_shown low.0 low.1)) (order.transitive low.0 y r (required_fits low.0 low.1.element) y_fits r_fits low.2 l) in
              order.antisymmetric y r y_fits r_fits l (subst (λ (z : Row). IsTrue (resources_leq t d z y)) same low.2)
