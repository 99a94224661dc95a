use Rattle.std.proofs.Common.{◌≡◌, take}
use Rattle.value_type.proofs.copy.+copy_kind.Given as goal

-- The types so far are copied.
abbrev pub invariant-copy_all_kinds-loop-kind : goal.invariant-copy_all_kinds-loop-kind
invariant-copy_all_kinds-loop-kind l = l.made.items ≡ take l.kind-index l.kinds
