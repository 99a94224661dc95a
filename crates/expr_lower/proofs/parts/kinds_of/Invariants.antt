use Rattle.std.proofs.Common.{◌≡◌, map, take}
use Rattle.expr_lower.specs.declared.meaning.Lower.{Lower}
use Rattle.expr_lower.proofs.parts.kinds_of.Given as goal

-- The types so far are copied.
abbrev pub invariant-loop-part : goal.invariant-loop-part
invariant-loop-part l = l.kinds.items ≡ map (λ (part : Lower). part.kind) (take l.part-index l.parts)
