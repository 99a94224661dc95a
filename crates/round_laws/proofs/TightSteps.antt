-- Of the rows that make a step, least ones make it tight.
use Rattle.std.specs.Prelude.{◌≡◌, ℕ, zero, suc, Bool, true, false, cond, ◌==◌, IsTrue, IsSomeAnd, List, [], ◌∷◌, map, Option, Some, slice_get, option_and_then, option_map}
use Rattle.std.proofs.Common.{refl, sym, ap, subst, ◌∙◌}
use Rattle.order_core.specs.Members.{IsMember}
use Rattle.order_core.specs.MemberLaws.{first, second, both, got_member}
use Rattle.order_core.specs.Minimal.{IsMinimal}
use Rattle.order_core.specs.Order.{IsOrder}
use Rattle.order_core.specs.Pointwise.{Each}
use Rattle.order_core.specs.PointwiseLaws.{each_got, each_weaker, pointwise_weaker}
use Rattle.order_core.specs.Tuple.{tuple_leq}
use Rattle.order_core.specs.TupleLaws.{tuple_laws}
use Rattle.value_type.specs.declared.poset.Types.{Types}
use Rattle.value_type.specs.declared.value.Value.{Value}
use Rattle.value_type.specs.Fits.{row_fits}
use Rattle.value_type.specs.KindOrderLaws.{row_laws}
use Rattle.value_type.specs.Leq.{leq, row_leq}
use Rattle.value_type.specs.PortKinds.{port_kinds}
use Rattle.design_model.specs.declared.design.Part.{Part}
use Rattle.design_model.specs.declared.expr.Constraint.{Constraint}
use Rattle.design_model.specs.declared.expr.Greater.{Greater}
use Rattle.design_model.specs.declared.expr.Greater.TheVariants as greater
use Rattle.design_model.specs.Cuts.{cut_signals, is_cut_read}
use Rattle.design_model.specs.Evaluation.{is_into}
use Rattle.design_model.specs.Holds.{Fit}
use Rattle.design_model.specs.Parts.{provided_ports, required_ports}
use Rattle.design_model.specs.Rounds.{IsFeasibleIn, IsMinimumIn}
use Rattle.design_model.specs.RoundsLaws.{feasible_in_fits}
use Rattle.design_model.specs.Rows.{Row}
use Rattle.design_model.specs.Steady.{NetOf, design_of, wiring, MayCarryIn, with_provided}
use Rattle.design_model.specs.SteadyLaws.{StepsInBy, StepsIn, KeepsInto, IsTight}
use Rattle.design_model.specs.Step.{cut_values, own_values, signal_value, step_reads}
use Rattle.design_model.specs.Typed.{IsTyped, IsTypedNet}
use Rattle.design_model.specs.TypedLaws.{IsTyped-Net}
use Rattle.design_model.specs.ValueOf.{Reads, port_at, value_of}
use Rattle.design_model.specs.Wiring.{Wiring, Carried, provided_rows, required_rows, Satisfied, IsAtLeast, greater_kind, greater_value}
use Rattle.design_model.specs.ExprRisesLaws.{equal_self}
use Rattle.model_laws.specs.RoundsMonotoneLaws.{feasible_in_eased, feasible_carried_fits}
use Rattle.model_laws.specs.SignalLaws.{cut_in_place}
use Rattle.model_laws.specs.StepLaws.{cut_fits, own_fits}
use Rattle.round_laws.proofs.DecidedRounds.{fits_part, fit_parts, finite_parts, feasible_parts_fit, decided_net_step_by}
use Rattle.round_laws.proofs.FiniteValues.{minimal_under}
use Rattle.round_laws.proofs.LesserRequired.{carried_leq, required_leq, still_satisfied, still_covered}
use Rattle.round_laws.proofs.WithItem.{with_item, get-with_item-other, with_item-same, same-with_item, map-with_item, pointwise-with_item, pointwise_pair, leq-with_item}
use Rattle.std.proofs.lemmas.Option.{slice_get-map}

-- What one part may carry is ordered by its provided and its required row.
module _ (t : Types) (p : Part) where
  provided_laws : IsOrder (row_fits t (port_kinds (provided_ports p.design))) (row_leq t (port_kinds (provided_ports p.design)))
  provided_laws = row_laws t (port_kinds (provided_ports p.design))

  required_laws : IsOrder (row_fits t (port_kinds (required_ports p.design))) (row_leq t (port_kinds (required_ports p.design)))
  required_laws = row_laws t (port_kinds (required_ports p.design))

  provided_fit : (c : Carried) → IsTrue (fits_part t p c) → IsTrue (row_fits t (port_kinds (provided_ports p.design)) c.provided)
  provided_fit c h = first _ _ h

  required_fit : (c : Carried) → IsTrue (fits_part t p c) → IsTrue (row_fits t (port_kinds (required_ports p.design)) c.required)
  required_fit c h = second (row_fits t (port_kinds (provided_ports p.design)) c.provided) _ h

  provided_below : (c d : Carried) → IsTrue (carried_leq t p c d) → IsTrue (row_leq t (port_kinds (provided_ports p.design)) c.provided d.provided)
  provided_below c d l = first _ _ l

  required_below : (c d : Carried) → IsTrue (carried_leq t p c d) → IsTrue (row_leq t (port_kinds (required_ports p.design)) c.required d.required)
  required_below c d l = second (row_leq t (port_kinds (provided_ports p.design)) c.provided d.provided) _ l

  carried_laws : IsOrder (fits_part t p) (carried_leq t p)
  carried_laws = record {
    reflexive = λ c h. both _ _ (provided_laws.reflexive c.provided (provided_fit c h)) (required_laws.reflexive c.required (required_fit c h));
    transitive = λ c d e h k l q r. both _ _
        (provided_laws.transitive c.provided d.provided e.provided (provided_fit c h) (provided_fit d k) (provided_fit e l) (provided_below c d q) (provided_below d e r))
        (required_laws.transitive c.required d.required e.required (required_fit c h) (required_fit d k) (required_fit e l) (required_below c d q) (required_below d e r));
    antisymmetric = λ c d h k q r. same c d
        (provided_laws.antisymmetric c.provided d.provided (provided_fit c h) (provided_fit d k) (provided_below c d q) (provided_below d c r))
        (required_laws.antisymmetric c.required d.required (required_fit c h) (required_fit d k) (required_below c d q) (required_below d c r));
  }
    where
      same : (c d : Carried) → c.provided ≡ d.provided → c.required ≡ d.required → c ≡ d
      same c d e g = λ i. record { provided = e i; required = g i }

-- What all the parts carry, part by part.
abbrev all_leq : Types → List Part → List Carried → List Carried → Bool
all_leq t parts = tuple_leq (map (carried_leq t) parts)

all_laws : (t : Types) (parts : List Part) → IsOrder (fit_parts t parts) (all_leq t parts)
all_laws t parts = tuple_laws (fits_part t) (carried_leq t) (carried_laws t) parts

with_provided_is : (i : ℕ) (row : Row) (c : Carried) (carried : List Carried) → slice_get carried i ≡ Some c → with_provided i row carried ≡ with_item i (record { provided = row; required = c.required }) carried
with_provided_is i row c [] e = refl
with_provided_is zero row c (d ∷ carried) e = let is : d ≡ c = cc in ap (λ (z : Carried). record { provided = row; required = z.required } ∷ carried) is
with_provided_is (suc i) row c (d ∷ carried) e = ap (λ ds. d ∷ ds) (with_provided_is i row c carried e)

not_equal : (i j : ℕ) → j == i ≡ false → j ≡ i → ⊥
not_equal i j differ same = let self = equal_self j in let no_self : j == j ≡ false = subst (λ (z : ℕ). j == z ≡ false) (sym same) differ in cc

-- What a constraint into this port reads in a step, by the parts' required rows alone.
abbrev reads_with : Wiring → Row → Row → List Row → Greater → Reads
reads_with net f before rows into = record {
  own = slice_get f;
  inner = λ part port. cond (is_cut_read net into part) (signal_value (cut_signals net) (cut_values net before) part port) (port_at rows part port);
}

module _ (t : Types) (n : ℕ) (net : NetOf) (f : Row) (typed : IsTyped t (design_of net)) (f_fits : IsTrue (row_fits t (port_kinds net.provides) f)) (x y : Row) where
  least_rows : (carried : List Carried) → StepsInBy t n net f x y carried → (low : List Carried) × IsMinimal (all_leq t net.parts) (StepsInBy t n net f x y) low × IsTrue (all_leq t net.parts low carried)
  least_rows = minimal_under (fit_parts t net.parts) (all_leq t net.parts) (StepsInBy t n net f x y) (all_laws t net.parts) (finite_parts t net.parts)
      (λ carried by. feasible_parts_fit t n net.parts carried by.may_carry) (decided_net_step_by t n net f x y)

  -- Of least rows that make the step, what one part carries:
  module _ (carried : List Carried) (low : IsMinimal (all_leq t net.parts) (StepsInBy t n net f x y) carried) (i : ℕ) (p : Part) (c : Carried) (p_at : slice_get net.parts i ≡ Some p) (c_at : slice_get carried i ≡ Some c) where
    by : StepsInBy t n net f x y carried
    by = low.element

    is : IsTypedNet t net.provides net.requires_ net.parts net.constraints (Each (λ q. IsTyped t q.design) net.parts)
    is = rw IsTyped-Net at typed

    part_is : IsTyped t p.design
    part_is = each_got (λ (q : Part). IsTyped t q.design) net.parts p is.typed (got_member net.parts i p p_at)

    feasible : IsFeasibleIn t n p.design c.provided c.required
    feasible = pointwise_pair (λ (q : Part) (d : Carried). IsFeasibleIn t n q.design d.provided d.required) net.parts carried i p c by.may_carry p_at c_at

    fit : Fit t (provided_ports p.design) (required_ports p.design) c.provided c.required
    fit = feasible_in_fits t n p.design c.provided c.required feasible

    with_lesser : (d : Carried) → IsTrue (carried_leq t p d c) → IsTrue (all_leq t net.parts (with_item i d carried) carried)
    with_lesser d l = leq-with_item (carried_leq t) net.parts carried i p d c ((all_laws t net.parts).reflexive carried (feasible_parts_fit t n net.parts carried by.may_carry)) p_at c_at l

    -- Nothing less makes the step in its place.
    no_lesser : (d : Carried) → IsTrue (carried_leq t p d c) → StepsInBy t n net f x y (with_item i d carried) → d ≡ c
    no_lesser d l made = same-with_item i d c carried c_at (low.least (with_item i d carried) made (with_lesser d l))

    may_carry_with : (d : Carried) → IsFeasibleIn t n p.design d.provided d.required → MayCarryIn t n net (with_item i d carried)
    may_carry_with d h = pointwise-with_item (λ (q : Part) (e : Carried). IsFeasibleIn t n q.design e.provided e.required) net.parts carried i p d by.may_carry p_at h

    -- A lesser provided row that keeps the constraints into the part is its own: the part is feasible there too, and nothing else reads the row.
    module _ (row : Row) (row_fit : IsTrue (row_fits t (port_kinds (provided_ports p.design)) row)) (l : IsTrue (row_leq t (port_kinds (provided_ports p.design)) row c.provided))
        (keeps : KeepsInto t n net f x y carried i row) where
      abbrev lesser : Carried
      lesser = record { provided = row; required = c.required }

      same_required : required_rows (with_item i lesser carried) ≡ required_rows carried
      same_required =
          map-with_item (λ (e : Carried). e.required) i lesser carried ∙ with_item-same i c.required (required_rows carried) (slice_get-map (λ (e : Carried). e.required) carried i ∙ ap (option_map (λ (e : Carried). e.required)) c_at)

      elsewhere : (g : Greater) → is_into i g ≡ false → greater_value (own_values (wiring net) y) (with_item i lesser carried) g ≡ greater_value (own_values (wiring net) y) carried g
      elsewhere (greater.Own j) e = refl
      elsewhere (greater.Inner a j) e =
          ap (λ (rows : List Row). port_at rows a j) (map-with_item (λ (z : Carried). z.provided) i lesser carried)
          ∙ ap (λ (o : Option Row). option_and_then (λ r. slice_get r j) o) (get-with_item-other i a row (provided_rows carried) (not_equal i a e))

      satisfied : (k : Constraint) → IsMember k net.constraints → Satisfied t (wiring net) (own_values (wiring net) y) carried (step_reads (wiring net) f x carried k.greater) k
          → Satisfied t (wiring net) (own_values (wiring net) y) (with_item i lesser carried) (step_reads (wiring net) f x (with_item i lesser carried) k.greater) k
      satisfied k m h =
          subst (λ (rows : List Row). Satisfied t (wiring net) (own_values (wiring net) y) (with_item i lesser carried) (reads_with (wiring net) f x rows k.greater) k) (sym same_required)
          (into_or_elsewhere (is_into i k.greater) refl)
        where
          into_or_elsewhere : (b : Bool) → is_into i k.greater ≡ b → Satisfied t (wiring net) (own_values (wiring net) y) (with_item i lesser carried) (step_reads (wiring net) f x carried k.greater) k
          into_or_elsewhere true into =
              subst (λ (z : List Carried). Satisfied t (wiring net) (own_values (wiring net) y) z (step_reads (wiring net) f x carried k.greater) k) (with_provided_is i row c carried c_at) (keeps k m into)
          into_or_elsewhere false apart =
              subst (λ (o : Option Value). IsAtLeast t (greater_kind (wiring net) k.greater) o (value_of k.lower (step_reads (wiring net) f x carried k.greater))) (sym (elsewhere k.greater apart)) h

      provided_is_least : row ≡ c.provided
      provided_is_least =
          let required_self = (required_laws t p).reflexive c.required fit.required in
          let here = feasible_in_eased t n p.design c.provided row c.required c.required part_is
          (record { fit = record { provided = row_fit; required = fit.required }; less = l; more = required_self }) feasible in
          ap (λ (e : Carried). e.provided) (no_lesser lesser (both _ _ l required_self) (record {
            before_is = by.before_is;
            after_is = by.after_is;
            may_carry = may_carry_with lesser here;
            constraints = each_weaker _ _ net.constraints satisfied by.constraints;
            covered = pointwise_weaker _ _ (cut_signals (wiring net)) (cut_values (wiring net) y)
                (λ s v m h. subst (λ (rows : List Row). IsSomeAnd (port_at rows s.part s.port) (λ z. IsTrue (leq t s.kind z v))) (sym same_required) h) by.covered;
          }))

    -- Its required row is a minimum of the part: with less required, the step stays one.
    required_is_minimum : IsMinimumIn t n p.design c.provided c.required
    required_is_minimum = record { element = feasible; least = least }
      where
        least : (row : Row) → IsFeasibleIn t n p.design c.provided row → IsTrue (row_leq t (port_kinds (required_ports p.design)) row c.required) → row ≡ c.required
        least row h l =
            let d : Carried = record { provided = c.provided; required = row } in
            let below : IsTrue (carried_leq t p d c) = both _ _ ((provided_laws t p).reflexive c.provided fit.provided) l in
            let less = required_leq t net.parts (with_item i d carried) carried (with_lesser d below) in
            let may = may_carry_with d h in
            let old_fit = feasible_carried_fits t n net.provides net.requires_ net.parts net.constraints carried by.may_carry in
            let new_fit = feasible_carried_fits t n net.provides net.requires_ net.parts net.constraints (with_item i d carried) may in
            let same : provided_rows (with_item i d carried) ≡ provided_rows carried =
            map-with_item (λ (e : Carried). e.provided) i d carried ∙ with_item-same i c.provided (provided_rows carried) (slice_get-map (λ (e : Carried). e.provided) carried i ∙ ap (option_map (λ (e : Carried). e.provided)) c_at) in
            ap (λ (e : Carried). e.required) (no_lesser d below (record {
              before_is = by.before_is;
              after_is = by.after_is;
              may_carry = may;
              constraints = still_satisfied t (wiring net) f x carried (with_item i d carried) is.each_constraint f_fits by.before_is old_fit new_fit less (own_values (wiring net) y)
                  (own_fits t (wiring net) y by.after_is) same by.constraints;
              covered = still_covered t (wiring net) f x carried (with_item i d carried) is.each_constraint f_fits by.before_is old_fit new_fit less (cut_signals (wiring net)) (cut_values (wiring net) y)
                  (cut_in_place (wiring net)) (cut_fits t (wiring net) y by.after_is) by.covered;
            }))

  least_is_tight : (carried : List Carried) → IsMinimal (all_leq t net.parts) (StepsInBy t n net f x y) carried → IsTight t n net f x y carried
  least_is_tight carried low = record {
    steps = low.element;
    tight = λ i p c p_at c_at. record { minimal = provided_is_least carried low i p c p_at c_at; answer = required_is_minimum carried low i p c p_at c_at };
  }

  -- Where a step leads from the one state to the other, a tight one does.
  pub tight_step : StepsIn t n net f x y → (carried : List Carried) × IsTight t n net f x y carried
  tight_step step = let low = least_rows step.0 step.1 in (low.0, least_is_tight low.0 low.1)
