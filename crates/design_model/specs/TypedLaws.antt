-- When each kind of design is typed.
use Rattle.std.specs.Prelude.{◌≡◌, List, map}
use Rattle.std.proofs.Common.{refl, sym, ap, ◌∙◌}
use Rattle.std.proofs.lemmas.List.{map-id}
use Rattle.order_core.specs.Pointwise.{Each}
use Rattle.order_core.specs.PointwiseLaws.{Each-map}
use Rattle.value_type.specs.declared.port.Port.{Port}
use Rattle.value_type.specs.declared.poset.Types.{Types}
use Rattle.design_model.specs.declared.design.CatRow.{CatRow}
use Rattle.design_model.specs.declared.design.Design.{Design, out-Design, roll-out-Design, rec-Design, rec-roll-Design, map-Design}
use Rattle.design_model.specs.declared.design.Design.TheOpen.{Design-F}
use Rattle.design_model.specs.declared.design.Design.TheVariants.{Cat, Choice, Net, outs-Cat, outs-Choice, outs-Net}
use Rattle.design_model.specs.declared.design.Part.{Part, out-Part, rec-Part, rec-roll-Part}
use Rattle.design_model.specs.declared.expr.Constraint.{Constraint}
use Rattle.design_model.specs.Parts.{provided_at, required_at, provided_ports, required_ports}
use Rattle.design_model.specs.Typed.{ArePorts, IsTyped, IsTypedAt, IsTypedAtPart, IsTypedCat, IsTypedChoice, IsTypedNet}

abbrev At : Type 1
At = Type 0

module _ (X Y : Type 0) (design : X → Design) (part : Y → Part) (t : Types) (typed : Design → At) (typed_part : Part → At) where
  typed_natural : (x : Design-F X Y) → IsTypedAt t X Y design part (λ d. typed (design d)) (λ p. typed_part (part p)) x
      ≡ IsTypedAt t Design Part (λ d. d) (λ p. p) typed typed_part (map-Design X Y Design Part design part x)
  typed_natural (Design-F.Cat provides requires_ rows) = refl
  typed_natural (Design-F.Choice provides requires_ branches) =
      λ i. IsTypedChoice t provides requires_ (sym (map-id (map part branches)) i) (Each-map part typed_part branches i)
  typed_natural (Design-F.Net provides requires_ parts constraints) =
      λ i. IsTypedNet t provides requires_ (sym (map-id (map part parts)) i) constraints (Each-map part typed_part parts i)

typed_of_part : (t : Types) (p : Part) → rec-Part At At (IsTypedAt t) IsTypedAtPart p ≡ IsTyped t p.design
unfolding IsTyped
typed_of_part t p = rec-roll-Part At At (IsTypedAt t) IsTypedAtPart (λ X Y v v' k k' x. refl) (out-Part p)

pub IsTyped-out : (t : Types) (d : Design) → IsTyped t d ≡ IsTypedAt t Design Part (λ d. d) (λ p. p) (IsTyped t) (λ p. IsTyped t p.design) (out-Design d)
unfolding IsTyped
IsTyped-out t d =
    ap (rec-Design At At (IsTypedAt t) IsTypedAtPart) (sym (roll-out-Design d))
    ∙ rec-roll-Design At At (IsTypedAt t) IsTypedAtPart (λ X Y v v' k k' x. typed_natural X Y v v' t k k' x) (out-Design d)
    ∙ λ i. IsTypedAt t Design Part (λ d. d) (λ p. p) (IsTyped t) (λ p. typed_of_part t p i) (out-Design d)

pub IsTyped-Cat : (t : Types) (provides requires_ : List Port) (rows : List CatRow) → IsTyped t (Cat provides requires_ rows) ≡ IsTypedCat t provides requires_ rows
IsTyped-Cat t provides requires_ rows = rw (IsTyped-out, outs-Cat)

pub IsTyped-Choice : (t : Types) (provides requires_ : List Port) (branches : List Part)
    → IsTyped t (Choice provides requires_ branches) ≡ IsTypedChoice t provides requires_ branches (Each (λ p. IsTyped t p.design) branches)
IsTyped-Choice t provides requires_ branches = at-Choice ∙ (λ i. IsTypedChoice t provides requires_ (map-id branches i) (Each (λ p. IsTyped t p.design) branches))
  where
    at-Choice : IsTyped t (Choice provides requires_ branches) ≡ IsTypedChoice t provides requires_ (map (λ p. p) branches) (Each (λ p. IsTyped t p.design) branches)
    at-Choice = rw (IsTyped-out, outs-Choice)

pub IsTyped-Net : (t : Types) (provides requires_ : List Port) (parts : List Part) (constraints : List Constraint)
    → IsTyped t (Net provides requires_ parts constraints) ≡ IsTypedNet t provides requires_ parts constraints (Each (λ p. IsTyped t p.design) parts)
IsTyped-Net t provides requires_ parts constraints = at-Net ∙ (λ i. IsTypedNet t provides requires_ (map-id parts i) constraints (Each (λ p. IsTyped t p.design) parts))
  where
    at-Net : IsTyped t (Net provides requires_ parts constraints) ≡ IsTypedNet t provides requires_ (map (λ p. p) parts) constraints (Each (λ p. IsTyped t p.design) parts)
    at-Net = rw (IsTyped-out, outs-Net)

-- The ports of a typed design are ports.
pub typed_ports : (t : Types) (d : Design) → IsTyped t d → ArePorts t (provided_ports d) × ArePorts t (required_ports d)
typed_ports t d h = at (out-Design d) (rw IsTyped-out at h)
  where
    at : (x : Design-F Design Part) → IsTypedAt t Design Part (λ d. d) (λ p. p) (IsTyped t) (λ p. IsTyped t p.design) x → ArePorts t (provided_at x) × ArePorts t (required_at x)
    at (Design-F.Cat provides requires_ rows) k = (k.provided_ports, k.required_ports)
    at (Design-F.Choice provides requires_ branches) k = (k.provided_ports, k.required_ports)
    at (Design-F.Net provides requires_ parts constraints) k = (k.provided_ports, k.required_ports)
