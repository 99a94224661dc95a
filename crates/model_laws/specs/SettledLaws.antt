-- What a state settles on is feasible, where the parts are.
use Rattle.std.proofs.Common.{refl, ap}
use Rattle.std.specs.Prelude.{◌≡◌, ℕ, Bool, true, false, cond, IsTrue, List, [], ◌∷◌, Some}
use Rattle.design_model.specs.Cuts.{cut_signals, is_cut_read}
use Rattle.design_model.specs.Feasible.{IsFeasible}
use Rattle.design_model.specs.Holds.{AllSatisfied}
use Rattle.design_model.specs.HoldsLaws.{Holds-Net, holds_fits}
use Rattle.design_model.specs.Reading.{reads_port}
use Rattle.design_model.specs.Rows.{Row}
use Rattle.design_model.specs.Step.{cut_values, own_values, signal_value, step_reads}
use Rattle.design_model.specs.StepLaws.{StepsBy}
use Rattle.design_model.specs.Typed.{IsTyped, ConstraintIsTyped}
use Rattle.design_model.specs.TypedLaws.{IsTyped-Net}
use Rattle.design_model.specs.ValueOf.{port_at, reads_of}
use Rattle.design_model.specs.ValuesInOrder.{ReadsLeq, ValuesLeq}
use Rattle.design_model.specs.ValuesInOrderLaws.{itself, row_at, part_row_at}
use Rattle.design_model.specs.Wiring.{Wiring, wiring_of, Carried, required_rows, readable}
use Rattle.design_model.specs.declared.design.Design.TheVariants.{Net}
use Rattle.design_model.specs.declared.design.Part.{Part}
use Rattle.design_model.specs.declared.expr.Constraint.{Constraint}
use Rattle.design_model.specs.declared.witness.Witness.TheVariants as witness
use Rattle.model_laws.specs.GatheredLaws.{covered_value}
use Rattle.model_laws.specs.SatisfiedLaws.{CarriedFits, carried_fits, greater_rises, satisfied_rises}
use Rattle.model_laws.specs.Settled.{AreFeasible, Witnessed}
use Rattle.model_laws.specs.SignalLaws.{cut_in_place, is_cut_signal}
use Rattle.model_laws.specs.StepLaws.{cut_fits, own_fits}
use Rattle.order_core.specs.Members.{IsMember}
use Rattle.order_core.specs.PointwiseLaws.{each_got, each_weaker, pointwise_weaker}
use Rattle.value_type.specs.Fits.{row_fits}
use Rattle.value_type.specs.KindOrderLaws.{row_laws}
use Rattle.value_type.specs.PortKinds.{port_kinds}
use Rattle.value_type.specs.declared.kind.Kind.{Kind}
use Rattle.value_type.specs.declared.port.Port.{Port}
use Rattle.value_type.specs.declared.poset.Types.{Types}

witnessed : (t : Types) (parts : List Part) (carried : List Carried) → AreFeasible t parts carried → Witnessed t parts carried
witnessed t [] [] h = record { witnesses = []; hold = tt; same = refl }
witnessed t [] (c ∷ carried) h = absurd h
witnessed t (p ∷ parts) [] h = absurd h
witnessed t (p ∷ parts) (c ∷ carried) h =
    let rest = witnessed t parts carried h.1 in
    record {
      witnesses = record { provided = c.provided; required = c.required; inner = h.0.0 } ∷ rest.witnesses;
      hold = (h.0.1, rest.hold);
      same = ap (λ cs. c ∷ cs) rest.same;
    }

-- What the parts carry is at most what the state gives, where a step leads back to it.
true_reads_fall : (t : Types) (net : Wiring) (MayCarry : List Carried → Type 0) (f state : Row) (carried : List Carried) (c : Constraint) → IsMember c net.constraints → IsTrue (row_fits t net.provides f)
    → CarriedFits t net carried → StepsBy t net MayCarry f state state carried
    → ReadsLeq t (readable net) (reads_port c.lower) (reads_of f (required_rows carried)) (step_reads net f state carried c.greater)
true_reads_fall t net MayCarry f state carried c m f_fits fit by = record {
  own = λ j k e. itself t k _ (row_at t net.provides f j k f_fits e);
  inner = λ i j k p e. go i j k p e (is_cut_read net c.greater i) refl;
}
  where
    go : (i j : ℕ) (k : Kind) → IsTrue (reads_port c.lower i j) → (readable net).inner i j ≡ Some k → (b : Bool) → is_cut_read net c.greater i ≡ b
        → ValuesLeq t k (port_at (required_rows carried) i j) (cond b (signal_value (cut_signals net) (cut_values net state) i j) (port_at (required_rows carried) i j))
    go i j k p e true q =
        covered_value t net.required carried (cut_signals net) (cut_values net state) i j k (cut_in_place net) by.covered (cut_fits t net state by.after_is) e
        (part_row_at t net.required (required_rows carried) i j k fit.required e) (is_cut_signal net c m i j k e q p)
    go i j k p e false q = itself t k _ (part_row_at t net.required (required_rows carried) i j k fit.required e)

-- Where a state steps to itself by parts that are feasible at what they carry, its own required values are feasible for the net.
module _ (t : Types) (provides requires_ : List Port) (parts : List Part) (constraints : List Constraint) where
  abbrev net : Wiring
  net = wiring_of (λ p. p) provides requires_ parts constraints

  pub settled_is_feasible : (MayCarry : List Carried → Type 0) (f state : Row) (carried : List Carried) → IsTyped t (Net provides requires_ parts constraints) → IsTrue (row_fits t (port_kinds provides) f)
      → StepsBy t net MayCarry f state state carried → AreFeasible t parts carried → IsFeasible t (Net provides requires_ parts constraints) f (own_values net state)
  settled_is_feasible MayCarry f state carried typed f_fits by feasible =
      let is = rw IsTyped-Net at typed in
      let ws = witnessed t parts carried feasible in
      let own = own_fits t net state by.after_is in
      let fits_parts = carried_fits t net parts carried refl refl (pointwise_weaker _ _ parts carried (λ p c m k. holds_fits t p.design c.provided c.required k.0 k.1) feasible) in
      let satisfied : AllSatisfied t net f (own_values net state) carried =
      each_weaker _ _ constraints (λ c m. satisfied_rises t net c (each_got (ConstraintIsTyped t net) constraints c is.each_constraint m) (reads_port c.lower) (own_values net state) (own_values net state) carried carried
      (step_reads net f state carried c.greater) (reads_of f (required_rows carried))
      (λ k q. greater_rises t net (own_values net state) (own_values net state) carried c.greater own own ((row_laws t net.requires_).reflexive (own_values net state) own) fits_parts k q)
      (true_reads_fall t net MayCarry f state carried c m f_fits fits_parts by) (λ i j q. q)) by.constraints in (
        witness.Inner ws.witnesses,
        rw Holds-Net (rw witness.outs-Inner (
          record { provided = f_fits; required = own },
          record { parts = ws.hold; constraints = rw ws.same satisfied },
        )),
      )
