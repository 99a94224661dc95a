-- A design as a net.
use Rattle.std.specs.Prelude.{Bool, true, false, []}
use Rattle.design_model.specs.declared.design.Design.{Design, out-Design}
use Rattle.design_model.specs.declared.design.Design.TheOpen.{Design-F}
use Rattle.design_model.specs.declared.design.Part.{Part}
use Rattle.design_model.specs.Parts.{required_ports}
use Rattle.design_model.specs.Steady.{NetOf, net_of}
use Rattle.design_model.specs.Typed.{IsFew}

abbrev pub is_net_at : Design-F Design Part → Bool
is_net_at (Design-F.Net provides requires_ parts constraints) = true
is_net_at _ = false

abbrev pub is_net : Design → Bool
is_net d = is_net_at (out-Design d)

abbrev pub net_at : Design-F Design Part → NetOf
net_at (Design-F.Net provides requires_ parts constraints) = net_of provides requires_ parts constraints
net_at _ = net_of [] [] [] []

-- the design as a net; an empty net where it is none
abbrev pub net_in : Design → NetOf
net_in d = net_at (out-Design d)

-- The part has fewer than 2^32 required ports.
abbrev pub HasFewPorts : Part → Type 0
HasFewPorts p = IsFew (required_ports p.design)
