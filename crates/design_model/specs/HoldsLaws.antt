-- When each kind of design holds.
use Rattle.std.specs.Prelude.{◌≡◌, List, map}
use Rattle.std.proofs.Common.{refl, sym, ap, ◌∙◌}
use Rattle.order_core.specs.Pointwise.{Pointwise}
use Rattle.order_core.specs.PointwiseLaws.{Pointwise-map, at-map}
use Rattle.value_type.specs.declared.port.Port.{Port}
use Rattle.value_type.specs.declared.poset.Types.{Types}
use Rattle.design_model.specs.declared.design.CatRow.{CatRow}
use Rattle.design_model.specs.declared.design.Design.{Design, out-Design, roll-out-Design, rec-Design, rec-roll-Design, map-Design}
use Rattle.design_model.specs.declared.design.Design.TheOpen.{Design-F}
use Rattle.design_model.specs.declared.design.Design.TheVariants.{Cat, Choice, Net, outs-Cat, outs-Choice, outs-Net}
use Rattle.design_model.specs.declared.design.Part.{Part, out-Part, rec-Part, rec-roll-Part}
use Rattle.design_model.specs.declared.expr.Constraint.{Constraint}
use Rattle.design_model.specs.declared.witness.Witness.{Witness, out-Witness}
use Rattle.design_model.specs.declared.witness.Witness.TheOpen.{Witness-F}
use Rattle.design_model.specs.Holds.{Layer, Fit, Holds, HoldsAt, HoldsAtPart, HoldsByRow, HoldsByBranch, HoldsByParts, PartHolds}
use Rattle.design_model.specs.Parts.{provided_at, required_at, provided_ports, required_ports}
use Rattle.design_model.specs.PartsLaws.{wiring_natural}
use Rattle.design_model.specs.Rows.{Row}
use Rattle.design_model.specs.Wiring.{wiring_of}

abbrev At : Type 1
At = Row → Row → Witness → Type 0

module _ (X Y : Type 0) (design : X → Design) (part : Y → Part) (t : Types) (holds : Design → At) (holds_part : Part → At) where
  branch_natural : (branches : List Y) (f r : Row) (w : Layer) → HoldsByBranch (λ b. holds_part (part b)) branches f r w ≡ HoldsByBranch holds_part (map part branches) f r w
  branch_natural branches f r (Witness-F.Branch number inner) = at-map part (λ b. holds_part b f r inner) branches number
  branch_natural branches f r _ = refl

  holds_natural : (x : Design-F X Y) → HoldsAt t X Y design part (λ d. holds (design d)) (λ p. holds_part (part p)) x
      ≡ HoldsAt t Design Part (λ d. d) (λ p. p) holds holds_part (map-Design X Y Design Part design part x)
  holds_natural (Design-F.Cat provides requires_ rows) = refl
  holds_natural (Design-F.Choice provides requires_ branches) = λ i f r w. Fit t provides requires_ f r × branch_natural branches f r (out-Witness w) i
  holds_natural (Design-F.Net provides requires_ parts constraints) = λ i f r w. Fit t provides requires_ f r
      × HoldsByParts t (wiring_natural Y part provides requires_ parts constraints i) (λ ws. Pointwise-map part (PartHolds holds_part) parts ws i) f r (out-Witness w)

-- What holds of a part is what holds of its design.
holds_of_part : (t : Types) (p : Part) → rec-Part At At (HoldsAt t) HoldsAtPart p ≡ Holds t p.design
unfolding Holds
holds_of_part t p = rec-roll-Part At At (HoldsAt t) HoldsAtPart (λ X Y v v' k k' x. refl) (out-Part p)

Holds-out : (t : Types) (d : Design) → Holds t d ≡ HoldsAt t Design Part (λ d. d) (λ p. p) (Holds t) (λ p. Holds t p.design) (out-Design d)
unfolding Holds
Holds-out t d =
    ap (rec-Design At At (HoldsAt t) HoldsAtPart) (sym (roll-out-Design d))
    ∙ rec-roll-Design At At (HoldsAt t) HoldsAtPart (λ X Y v v' k k' x. holds_natural X Y v v' t k k' x) (out-Design d)
    ∙ λ i. HoldsAt t Design Part (λ d. d) (λ p. p) (Holds t) (λ p. holds_of_part t p i) (out-Design d)

pub Holds-Cat : (t : Types) (provides requires_ : List Port) (rows : List CatRow) (f r : Row) (w : Witness)
    → Holds t (Cat provides requires_ rows) f r w ≡ (Fit t provides requires_ f r × HoldsByRow t provides requires_ rows f r (out-Witness w))
Holds-Cat t provides requires_ rows f r w = rw (Holds-out, outs-Cat)

pub Holds-Choice : (t : Types) (provides requires_ : List Port) (branches : List Part) (f r : Row) (w : Witness)
    → Holds t (Choice provides requires_ branches) f r w ≡ (Fit t provides requires_ f r × HoldsByBranch (λ b. Holds t b.design) branches f r (out-Witness w))
Holds-Choice t provides requires_ branches f r w = rw (Holds-out, outs-Choice)

pub Holds-Net : (t : Types) (provides requires_ : List Port) (parts : List Part) (constraints : List Constraint) (f r : Row) (w : Witness)
    → Holds t (Net provides requires_ parts constraints) f r w
    ≡ (Fit t provides requires_ f r × HoldsByParts t (wiring_of (λ p. p) provides requires_ parts constraints) (Pointwise (PartHolds (λ p. Holds t p.design)) parts) f r (out-Witness w))
Holds-Net t provides requires_ parts constraints f r w = rw (Holds-out, outs-Net)

-- Rows that don't fit the ports never hold.
pub holds_fits : (t : Types) (d : Design) (f r : Row) (w : Witness) → Holds t d f r w → Fit t (provided_ports d) (required_ports d) f r
holds_fits t d f r w h = at (out-Design d) (rw Holds-out at h)
  where
    at : (x : Design-F Design Part) → HoldsAt t Design Part (λ d. d) (λ p. p) (Holds t) (λ p. Holds t p.design) x f r w → Fit t (provided_at x) (required_at x) f r
    at (Design-F.Cat provides requires_ rows) k = k.0
    at (Design-F.Choice provides requires_ branches) k = k.0
    at (Design-F.Net provides requires_ parts constraints) k = k.0
