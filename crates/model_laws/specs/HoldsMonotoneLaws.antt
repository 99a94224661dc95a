-- With a smaller functionality, or greater resources, a design still holds.
use Rattle.std.proofs.Common.{refl, sym, subst}
use Rattle.std.specs.Prelude.{◌≡◌, ℕ, zero, suc, true, IsTrue, IsSomeAnd, List, [], ◌∷◌, map, Option, Some, None, slice_get}
use Rattle.design_model.specs.Feasible.{IsFeasible}
use Rattle.design_model.specs.Holds.{Fit, Holds, RowHolds, PartHolds, PartsHold, carried_by}
use Rattle.design_model.specs.HoldsCaseLaws.{by_row, by_branch, by_parts}
use Rattle.design_model.specs.HoldsLaws.{Holds-Cat, Holds-Choice, Holds-Net, holds_fits}
use Rattle.design_model.specs.Parts.{provided_ports, required_ports}
use Rattle.design_model.specs.PartsLaws.{provided-Cat, required-Cat, provided-Choice, required-Choice, provided-Net, required-Net}
use Rattle.design_model.specs.Rows.{Row}
use Rattle.design_model.specs.Typed.{IsTyped, IsTypedCat, IsTypedNet, HasPorts, ConstraintIsTyped, row_is_typed}
use Rattle.design_model.specs.TypedLaws.{IsTyped-Cat, IsTyped-Choice, IsTyped-Net}
use Rattle.design_model.specs.ValueOf.{reads_of}
use Rattle.design_model.specs.ValuesInOrder.{ReadsLeq}
use Rattle.design_model.specs.ValuesInOrderLaws.{itself, rows_at, part_row_at}
use Rattle.design_model.specs.Wiring.{Wiring, wiring_of, Carried, required_rows, readable}
use Rattle.design_model.specs.declared.design.CatRow.{CatRow}
use Rattle.design_model.specs.declared.design.Design.TheVariants.{Cat, Choice, Net}
use Rattle.design_model.specs.declared.design.Design.{Design}
use Rattle.design_model.specs.declared.design.Part.{Part}
use Rattle.design_model.specs.declared.expr.Constraint.{Constraint}
use Rattle.design_model.specs.declared.witness.PartWitness.{PartWitness}
use Rattle.design_model.specs.declared.witness.Witness.TheVariants as witness
use Rattle.design_model.specs.declared.witness.Witness.{Witness}
use Rattle.model_laws.specs.HoldsMonotone.{Eases}
use Rattle.model_laws.specs.SatisfiedLaws.{CarriedFits, EachFits, carried_fits, greater_rises, satisfied_rises}
use Rattle.order_core.specs.MemberLaws.{first, second, all_got}
use Rattle.order_core.specs.Pointwise.{Each, Pointwise}
use Rattle.order_core.specs.PointwiseLaws.{each_got, each_weaker}
use Rattle.value_type.specs.Fits.{row_fits}
use Rattle.value_type.specs.KindOrderLaws.{row_laws}
use Rattle.value_type.specs.Leq.{row_leq}
use Rattle.value_type.specs.PortKinds.{port_kinds}
use Rattle.value_type.specs.declared.port.Port.{Port}
use Rattle.value_type.specs.declared.poset.Types.{Types}
use Rattle.design_model.specs.DesignInductionLaws.{for_each_design}

-- The witnesses' rows fit the ports of their parts.
pub each_fits : (t : Types) (parts : List Part) (ws : List PartWitness) → Pointwise (PartHolds (λ p. Holds t p.design)) parts ws → EachFits t parts (map carried_by ws)
each_fits t [] [] h = tt
each_fits t [] (w ∷ ws) h = absurd h
each_fits t (p ∷ parts) [] h = absurd h
each_fits t (p ∷ parts) (w ∷ ws) h = (holds_fits t p.design w.provided w.required w.inner h.0, each_fits t parts ws h.1)

-- Lesser own provided values read less.
pub own_reads_fall : (t : Types) (net : Wiring) (f g : Row) (carried : List Carried) → IsTrue (row_fits t net.provides f) → IsTrue (row_fits t net.provides g) → IsTrue (row_leq t net.provides g f)
    → CarriedFits t net carried → ReadsLeq t (readable net) (λ i j. true) (reads_of g (required_rows carried)) (reads_of f (required_rows carried))
own_reads_fall t net f g carried f_fits g_fits less fit = record {
  own = λ j k e. rows_at t net.provides g f j k g_fits f_fits less e;
  inner = λ i j k p e. itself t k _ (part_row_at t net.required (required_rows carried) i j k fit.required e);
}

module _ (t : Types) where
  abbrev Claim : Design → Type 0
  Claim d = (f g r s : Row) (w : Witness) → IsTyped t d → Eases t (provided_ports d) (required_ports d) f g r s → Holds t d f r w → Holds t d g s w

  abbrev ClaimPart : Part → Type 0
  ClaimPart p = Claim p.design

  pub row_eases : (provides requires_ : List Port) (f g r s : Row) (row : CatRow) → IsTrue (row_is_typed t provides requires_ row) → Fit t provides requires_ f r → Eases t provides requires_ f g r s
      → RowHolds t provides requires_ f r row → RowHolds t provides requires_ g s row
  row_eases provides requires_ f g r s row typed fit e h =
      let provided = first _ _ typed in
      let required = second (row_fits t (port_kinds provides) row.provided) _ typed in
      record {
        enough = (row_laws t (port_kinds provides)).transitive g f row.provided e.fit.provided fit.provided provided e.less h.enough;
        within = (row_laws t (port_kinds requires_)).transitive row.required r s required fit.required e.fit.required h.within e.more;
      }

  cat_case : (provides requires_ : List Port) (rows : List CatRow) → Claim (Cat provides requires_ rows)
  cat_case provides requires_ rows f g r s w typed e h =
      let k = rw Holds-Cat at h in
      let is = rw IsTyped-Cat at typed in
      let eases : Eases t provides requires_ f g r s = rw (provided-Cat, required-Cat) at e in
      let named = by_row t provides requires_ rows f r w k.1 in
      subst (λ (z : Witness). Holds t (Cat provides requires_ rows) g s z) (sym named.1)
      (rw Holds-Cat (rw witness.outs-Row (eases.fit, go named.0 (slice_get rows named.0) refl is eases k.0 named.2)))
    where
      go : (n : ℕ) (o : Option CatRow) → slice_get rows n ≡ o → IsTypedCat t provides requires_ rows → Eases t provides requires_ f g r s → Fit t provides requires_ f r
          → IsSomeAnd o (RowHolds t provides requires_ f r) → IsSomeAnd o (RowHolds t provides requires_ g s)
      go n None q is eases fit k = absurd k
      go n (Some row) q is eases fit k = row_eases provides requires_ f g r s row (all_got (row_is_typed t provides requires_) rows n row q is.rows_fit) fit eases k

  -- The branch of this number holds with the eased rows, where it did.
  branch_case : (provides requires_ : List Port) (branches : List Part) → Each ClaimPart branches → (n : ℕ) (f g r s : Row) (inner : Witness)
      → Each (HasPorts provides requires_) branches → Each (λ p. IsTyped t p.design) branches → Eases t provides requires_ f g r s
      → IsSomeAnd (slice_get branches n) (λ b. Holds t b.design f r inner) → IsSomeAnd (slice_get branches n) (λ b. Holds t b.design g s inner)
  branch_case provides requires_ [] claims n f g r s inner same typed eases h = absurd h
  branch_case provides requires_ (b ∷ branches) claims zero f g r s inner same typed eases h =
      claims.0 f g r s inner typed.0 (record {
        fit = record { provided = rw same.0.provided eases.fit.provided; required = rw same.0.required eases.fit.required };
        less = rw same.0.provided eases.less;
        more = rw same.0.required eases.more;
      }) h
  branch_case provides requires_ (b ∷ branches) claims (suc n) f g r s inner same typed eases h = branch_case provides requires_ branches claims.1 n f g r s inner same.1 typed.1 eases h

  choice_case : (provides requires_ : List Port) (branches : List Part) → Each ClaimPart branches → Claim (Choice provides requires_ branches)
  choice_case provides requires_ branches claims f g r s w typed e h =
      let k = rw Holds-Choice at h in
      let is = rw IsTyped-Choice at typed in
      let eases : Eases t provides requires_ f g r s = rw (provided-Choice, required-Choice) at e in
      let named = by_branch t provides requires_ branches f r w k.1 in
      subst (λ (z : Witness). Holds t (Choice provides requires_ branches) g s z) (sym named.2)
      (rw Holds-Choice (rw witness.outs-Branch (eases.fit, branch_case provides requires_ branches claims named.0 f g r s named.1 is.same is.typed eases named.3)))

  net_case : (provides requires_ : List Port) (parts : List Part) (constraints : List Constraint) → Each ClaimPart parts → Claim (Net provides requires_ parts constraints)
  net_case provides requires_ parts constraints claims f g r s w typed e h =
      let k = rw Holds-Net at h in
      let is = rw IsTyped-Net at typed in
      let eases : Eases t provides requires_ f g r s = rw (provided-Net, required-Net) at e in
      let named = by_parts t provides requires_ parts constraints f r w k.1 in
      subst (λ (z : Witness). Holds t (Net provides requires_ parts constraints) g s z) (sym named.1)
      (rw Holds-Net (rw witness.outs-Inner (eases.fit, eased is eases k.0 named.0 named.2)))
    where
      net : Wiring
      net = wiring_of (λ p. p) provides requires_ parts constraints

      eased : IsTypedNet t provides requires_ parts constraints (Each (λ p. IsTyped t p.design) parts) → Eases t provides requires_ f g r s → Fit t provides requires_ f r → (ws : List PartWitness)
          → PartsHold t (wiring_of (λ p. p) provides requires_ parts constraints) (Pointwise (PartHolds (λ p. Holds t p.design)) parts) f r ws
          → PartsHold t (wiring_of (λ p. p) provides requires_ parts constraints) (Pointwise (PartHolds (λ p. Holds t p.design)) parts) g s ws
      eased is eases fit ws hold =
          let carried = map carried_by ws in
          let fits = carried_fits t net parts carried refl refl (each_fits t parts ws hold.parts) in
          record {
            parts = hold.parts;
            constraints = each_weaker _ _ constraints (λ c m. satisfied_rises t net c (each_got (ConstraintIsTyped t net) constraints c is.each_constraint m) (λ i j. true) r s carried carried
                (reads_of f (required_rows carried)) (reads_of g (required_rows carried))
                (λ k q. greater_rises t net r s carried c.greater fit.required eases.fit.required eases.more fits k q)
                (own_reads_fall t net f g carried fit.provided eases.fit.provided eases.less fits) (λ i j q. refl)) hold.constraints;
          }

  -- A typed design that holds also holds with the eased rows, by the same witness.
  pub holds_eased : (d : Design) (f g r s : Row) (w : Witness) → IsTyped t d → Eases t (provided_ports d) (required_ports d) f g r s → Holds t d f r w → Holds t d g s w
  holds_eased = for_each_design Claim cat_case choice_case net_case

  pub feasible_eased : (d : Design) (f g r s : Row) → IsTyped t d → Eases t (provided_ports d) (required_ports d) f g r s → IsFeasible t d f r → IsFeasible t d g s
  feasible_eased d f g r s typed eases h = (h.0, holds_eased d f g r s h.0 typed eases h.1)
