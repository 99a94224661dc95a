use Rattle.std.proofs.Common.{◌≡◌, take, map}
use Rattle.expr_residual.specs.Moved.{moved}
use Rattle.expr_residual.proofs.moving.+moved.Given as goal

-- The expressions so far are over the other ports.
abbrev pub invariant-moved_parts-loop-part : goal.invariant-moved_parts-loop-part
invariant-moved_parts-loop-part g l = l.made.items ≡ map (moved (g.L.Leads.own_lead l.leads) (g.L.Leads.wire l.leads)) (take l.part-index l.parts)
