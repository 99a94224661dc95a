use Rattle.std.proofs.Common.{◌≡◌, ◌++◌, drop, map}
use Rattle.std.specs.Prelude.{option_map}
use Rattle.module_link.specs.Links.{link_of, links_of}
use Rattle.tree_units.specs.Together.{together}
use Rattle.module_link.proofs.linking.links_of.Given as goal

-- The links so far, and those of the branches left.
abbrev pub invariant-loop-branch : goal.invariant-loop-branch
invariant-loop-branch l =
    let params = map (λ p. p.name.name) l.params.trees.now in
    links_of l.names.files params l.branches ≡ option_map (λ rest. l.made.items ++ rest) (together (map (link_of l.names.files params) (drop l.branch-index l.branches)))
