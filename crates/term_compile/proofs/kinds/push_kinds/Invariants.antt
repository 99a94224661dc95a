use Rattle.std.proofs.Common.{◌≡◌, ◌++◌, take}
use Rattle.term_compile.proofs.kinds.push_kinds.Given as goal

-- The types so far are added.
abbrev pub invariant-loop-kind : goal.invariant-loop-kind
invariant-loop-kind l = l.into.items ≡ l.initial.into.items ++ take l.kind-index l.kinds
