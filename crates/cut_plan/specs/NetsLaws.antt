-- What holds of a design as a net.
use Rattle.std.specs.Prelude.{◌≡◌, IsTrue, List}
use Rattle.std.proofs.Common.{refl, subst}
use Rattle.std.proofs.lemmas.List.{map-id}
use Rattle.order_core.specs.Pointwise.{Each}
use Rattle.order_core.specs.PointwiseLaws.{each_weaker}
use Rattle.value_type.specs.declared.port.Port.{Port}
use Rattle.value_type.specs.declared.poset.Types.{Types}
use Rattle.design_model.specs.declared.design.Design.{Design, out-Design}
use Rattle.design_model.specs.declared.design.Design.TheOpen.{Design-F}
use Rattle.design_model.specs.declared.design.Design.TheVariants.{Net, outs-Net}
use Rattle.design_model.specs.declared.design.Part.{Part}
use Rattle.design_model.specs.declared.expr.Constraint.{Constraint}
use Rattle.design_model.specs.Steady.{net_of}
use Rattle.design_model.specs.Typed.{IsFew, IsTyped, IsTypedAt}
use Rattle.design_model.specs.TypedLaws.{IsTyped-out, typed_ports}
use Rattle.cut_plan.specs.Nets.{is_net, is_net_at, net_at, net_in, HasFewPorts}

pub net_is : (provides requires_ : List Port) (parts : List Part) (constraints : List Constraint) → net_in (Net provides requires_ parts constraints) ≡ net_of provides requires_ parts constraints
net_is provides requires_ parts constraints = rw outs-Net refl

pub is_net_is : (provides requires_ : List Port) (parts : List Part) (constraints : List Constraint) → IsTrue (is_net (Net provides requires_ parts constraints))
is_net_is provides requires_ parts constraints = rw outs-Net refl

-- A typed net's parts, and their required ports, can be counted in 32 bits.
pub typed_net_is_few : (t : Types) (d : Design) → IsTyped t d → IsTrue (is_net d) → IsFew (net_in d).parts × Each HasFewPorts (net_in d).parts
typed_net_is_few t d typed net = at (out-Design d) (rw IsTyped-out at typed) net
  where
    at : (x : Design-F Design Part) → IsTypedAt t Design Part (λ d. d) (λ p. p) (IsTyped t) (λ p. IsTyped t p.design) x → IsTrue (is_net_at x) → IsFew (net_at x).parts × Each HasFewPorts (net_at x).parts
    at (Design-F.Net provides requires_ parts constraints) k h =
        (subst (λ (ps : List Part). IsFew ps) (map-id parts) k.few_parts, each_weaker (λ p. IsTyped t p.design) HasFewPorts parts (λ p m is. (typed_ports t p.design is).1.few) k.typed)
    at (Design-F.Cat provides requires_ rows) k h = absurd (cc)
    at (Design-F.Choice provides requires_ branches) k h = absurd (cc)
