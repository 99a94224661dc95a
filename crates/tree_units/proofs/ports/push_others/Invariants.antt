use Rattle.std.proofs.Common.{◌≡◌, ◌++◌, drop, string_bytes}
use Rattle.std.specs.List.{flat_map}
use Rattle.tree_units.specs.Ports.{joined_text}
use Rattle.tree_units.proofs.ports.push_others.Given as goal

-- With what is left all of it was added.
abbrev pub invariant-loop-factor : goal.invariant-loop-factor
invariant-loop-factor l = string_bytes l.text ++ flat_map joined_text (drop l.factor-index l.factors) ≡ string_bytes l.initial.text ++ flat_map joined_text l.factors
