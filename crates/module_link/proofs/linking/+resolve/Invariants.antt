use Rattle.std.proofs.Common.{◌≡◌, ◌++◌, drop, map}
use Rattle.std.specs.Prelude.{option_map}
use Rattle.module_link.specs.Contents.{bare_sources}
use Rattle.reference_meaning.specs.Linking.{filled}
use Rattle.reference_meaning.specs.LinkingLaws.{fill}
use Rattle.tree_units.specs.Together.{together}
use Rattle.module_link.proofs.linking.+resolve.Given as goal

-- What is made so far, and what is found for the parameters left.
abbrev pub invariant-resolve_arguments-loop-parameter : goal.invariant-resolve_arguments-loop-parameter
invariant-resolve_arguments-loop-parameter l =
    let found = filled (map (fill (bare_sources l.names.files) (map (λ p. p.name.name) l.params.trees.now)) l.arguments) in
    together (map (λ p. found p.name.name) l.wanted) ≡ option_map (λ rest. l.made.items ++ rest) (together (map (λ p. found p.name.name) (drop l.parameter-index l.wanted)))
