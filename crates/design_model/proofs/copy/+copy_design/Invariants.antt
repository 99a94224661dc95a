use Rattle.std.proofs.Common.{◌≡◌, take}
use Rattle.design_model.proofs.copy.+copy_design.Given as goal

-- The parts so far are copied.
abbrev pub invariant-copy_parts-loop-part : goal.invariant-copy_parts-loop-part
invariant-copy_parts-loop-part l = l.made.items ≡ take l.part-index l.parts
