use Rattle.order_core.specs.PointwiseLaws.{pointwise_length}
use Rattle.design_model.specs.Holds.{Fit, Holds, PartHolds}
use Rattle.design_model.specs.HoldsLaws.{holds_fits}
use Rattle.design_model.specs.HoldsCaseLaws.{row_decides, no_row, branch_decides, no_branch, parts_decide, no_parts}
use Rattle.design_model.specs.PartsLaws.{provided-Cat, required-Cat, provided-Choice, required-Choice, provided-Net, required-Net}
use Rattle.design_model.proofs.holding.+holds.Goals as goal

pub holds-returns-then-not-ports_fit : goal.holds-returns-then-not-ports_fit
holds-returns-then-not-ports_fit t c = (
  (λ e. absurd (cc)),
  λ h.
      let fit = holds_fits c.args.types.now c.args.design.now c.args.f.now c.args.r.now c.args.witness.now h in
      let fits = fit.provided in
      let said = rw (c.provided_ports.ensures, c.values.ensures) at c.ports_fit.ensures in
      let no = c.if-not-ports_fit.true in
      cc,
)

pub holds-returns-then-not-ports_fit-2 : goal.holds-returns-then-not-ports_fit-2
holds-returns-then-not-ports_fit-2 t c = (
  (λ e. absurd (cc)),
  λ h.
      let fit = holds_fits c.args.types.now c.args.design.now c.args.f.now c.args.r.now c.args.witness.now h in
      let fits = fit.required in
      let said = rw (c.required_ports.ensures, c.values-2.ensures) at c.ports_fit-2.ensures in
      let no = c.if-not-ports_fit-2.true in
      cc,
)

pub holds-returns-in-Row : goal.holds-returns-in-Row
holds-returns-in-Row t c =
    let f_said = rw (c.provided_ports.ensures, c.values.ensures, c.in-Cat.is, provided-Cat) at c.ports_fit.ensures in
    let r_said = rw (c.required_ports.ensures, c.values-2.ensures, c.in-Cat.is, required-Cat) at c.ports_fit-2.ensures in
    let f_yes = c.if-not-ports_fit.false in
    let r_yes = c.if-not-ports_fit-2.false in
    let fit : Fit c.args.types.now c.in-Cat.provides c.in-Cat.requires_ c.args.f.now c.args.r.now = record { provided = cc; required = cc } in
    rw (c.in-Cat.is, c.in-Row.is) (row_decides c.args.types.now c.in-Cat.provides c.in-Cat.requires_ c.in-Cat.rows c.args.f.now c.args.r.now c.row_holds.result c.in-Row.number fit
    (rw (c.items.ensures, c.items-in-Row.ensures, c.get-row.ensures) at c.row_holds.ensures))

pub holds-returns-in_default : goal.holds-returns-in_default
holds-returns-in_default t c = (
  (λ e. absurd (cc)),
  λ h.
      absurd (no_row c.args.types.now c.in-Cat.provides c.in-Cat.requires_ c.in-Cat.rows c.args.f.now c.args.r.now c.args.witness.now c.in_default.not-Row (rw c.in-Cat.is at h)),
)

pub holds-returns-in-Branch : goal.holds-returns-in-Branch
holds-returns-in-Branch t c =
    let f_said = rw (c.provided_ports.ensures, c.values.ensures, c.in-Choice.is, provided-Choice) at c.ports_fit.ensures in
    let r_said = rw (c.required_ports.ensures, c.values-2.ensures, c.in-Choice.is, required-Choice) at c.ports_fit-2.ensures in
    let f_yes = c.if-not-ports_fit.false in
    let r_yes = c.if-not-ports_fit-2.false in
    let fit : Fit c.args.types.now c.in-Choice.provides c.in-Choice.requires_ c.args.f.now c.args.r.now = record { provided = cc; required = cc } in
    rw (c.in-Choice.is, c.in-Branch.is) (branch_decides c.args.types.now c.in-Choice.provides c.in-Choice.requires_ c.in-Choice.branches c.args.f.now c.args.r.now c.branch_holds.result c.in-Branch.number c.in-Branch.inner fit
    (rw (c.items-in-Branch.ensures, c.get.ensures) at c.branch_holds.ensures))

pub holds-returns-in_default-witness : goal.holds-returns-in_default-witness
holds-returns-in_default-witness t c = (
  (λ e. absurd (cc)),
  λ h.
      absurd (no_branch c.args.types.now c.in-Choice.provides c.in-Choice.requires_ c.in-Choice.branches c.args.f.now c.args.r.now c.args.witness.now c.in_default-witness.not-Branch (rw c.in-Choice.is at h)),
)

pub holds-returns-then-parts_hold : goal.holds-returns-then-parts_hold
holds-returns-then-parts_hold t c =
    let f_said = rw (c.provided_ports.ensures, c.values.ensures, c.in-Net.is, provided-Net) at c.ports_fit.ensures in
    let r_said = rw (c.required_ports.ensures, c.values-2.ensures, c.in-Net.is, required-Net) at c.ports_fit-2.ensures in
    let f_yes = c.if-not-ports_fit.false in
    let r_yes = c.if-not-ports_fit-2.false in
    let fit : Fit c.args.types.now c.in-Net.provides c.in-Net.requires_ c.args.f.now c.args.r.now = record { provided = cc; required = cc } in
    let parts = rw (c.items-in-Inner.ensures, c.items-in-Inner-2.ensures) at c.parts_hold.ensures in
    rw (c.in-Net.is, c.in-Inner.is) (parts_decide c.args.types.now c.in-Net.provides c.in-Net.requires_ c.in-Net.parts c.in-Net.constraints c.args.f.now c.args.r.now c.all_satisfied.result c.in-Inner.inner fit
    ((λ e. record { parts = parts.0 c.if-parts_hold.true; constraints = c.all_satisfied.ensures.0 e }), λ h. c.all_satisfied.ensures.1 h.constraints))

pub holds-returns-else-parts_hold : goal.holds-returns-else-parts_hold
holds-returns-else-parts_hold t c =
    let parts = rw (c.items-in-Inner.ensures, c.items-in-Inner-2.ensures) at c.parts_hold.ensures in
    let f_said = rw (c.provided_ports.ensures, c.values.ensures, c.in-Net.is, provided-Net) at c.ports_fit.ensures in
    let r_said = rw (c.required_ports.ensures, c.values-2.ensures, c.in-Net.is, required-Net) at c.ports_fit-2.ensures in
    let f_yes = c.if-not-ports_fit.false in
    let r_yes = c.if-not-ports_fit-2.false in
    let no = c.if-parts_hold.false in
    let fit : Fit c.args.types.now c.in-Net.provides c.in-Net.requires_ c.args.f.now c.args.r.now = record { provided = cc; required = cc } in
    rw (c.in-Net.is, c.in-Inner.is) (parts_decide c.args.types.now c.in-Net.provides c.in-Net.requires_ c.in-Net.parts c.in-Net.constraints c.args.f.now c.args.r.now c.parts_hold.result c.in-Inner.inner fit
    ((λ e. absurd (cc)), λ h. parts.1 h.parts))

pub holds-returns-in_default-witness-2 : goal.holds-returns-in_default-witness-2
holds-returns-in_default-witness-2 t c = (
  (λ e. absurd (cc)),
  λ h.
      absurd (no_parts c.args.types.now c.in-Net.provides c.in-Net.requires_ c.in-Net.parts c.in-Net.constraints c.args.f.now c.args.r.now c.args.witness.now c.in_default-witness-2.not-Inner (rw c.in-Net.is at h)),
)

pub parts_hold-returns-then-parts-witnesses : goal.parts_hold-returns-then-parts-witnesses
parts_hold-returns-then-parts-witnesses t c =
    ((λ e. absurd (cc)), λ h. absurd (c.if-parts-witnesses.true (pointwise_length (PartHolds (λ p. Holds c.args.types.now p.design)) c.args.parts.now c.args.witnesses.now h)))
