-- The names that references name.
use Rattle.std.specs.Prelude.{List, ◌∷◌}
use Rattle.std.specs.List.{flat_map}
use Rattle.design_lexer.specs.declared.tree.NameAt.{NameAt}
use Rattle.design_lexer.specs.declared.tree.RefTree.{RefTree, fold-RefTree}

-- the name of a reference, and then those in its arguments, in order
abbrev pub reference_names : RefTree → List NameAt
reference_names = fold-RefTree (List NameAt) (List NameAt) (λ a. a.reference) (λ r. r.name ∷ flat_map (λ names. names) r.arguments)
