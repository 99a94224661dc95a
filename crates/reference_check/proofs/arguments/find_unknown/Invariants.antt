use Rattle.std.proofs.Common.{◌≡◌, drop, map}
use Rattle.std.specs.List.{flat_map}
use Rattle.design_lexer.specs.declared.tree.ArgTree.{out-ArgTree}
use Rattle.reference_check.specs.Fronts.{wanted_held}
use Rattle.reference_rules.specs.ReferenceFaults.{unknown}
use Rattle.reference_check.proofs.arguments.find_unknown.Given as goal

-- What is left decides.
abbrev pub invariant-loop-argument : goal.invariant-loop-argument
invariant-loop-argument l =
    flat_map (λ a. unknown (map wanted_held l.wanted.wanted) (out-ArgTree a).name) l.arguments ≡ flat_map (λ a. unknown (map wanted_held l.wanted.wanted) (out-ArgTree a).name) (drop l.argument-index l.arguments)
