-- The names of a reference, one level at a time.
use Rattle.std.proofs.Common.{◌≡◌, ◌∙◌, refl, ap, List, [], ◌∷◌, map}
use Rattle.std.specs.List.{flat_map}
use Rattle.design_lexer.specs.declared.tree.ArgTree.{ArgTree, fold-ArgTree, fold_out-ArgTree, out-ArgTree}
use Rattle.design_lexer.specs.declared.tree.NameAt.{NameAt}
use Rattle.design_lexer.specs.declared.tree.RefTree.{RefTree, fold_out-RefTree, out-RefTree}
use Rattle.name_rules.specs.References.{reference_names}

of_argument : ArgTree → List NameAt
of_argument = fold-ArgTree (List NameAt) (List NameAt) (λ a. a.reference) (λ r. r.name ∷ flat_map (λ names. names) r.arguments)

argument_is : (a : ArgTree) → of_argument a ≡ reference_names (out-ArgTree a).reference
unfolding of_argument
argument_is a = fold_out-ArgTree (List NameAt) (List NameAt) (λ a. a.reference) (λ r. r.name ∷ flat_map (λ names. names) r.arguments) a

arguments_are : (xs : List ArgTree) → flat_map (λ (names : List NameAt). names) (map of_argument xs) ≡ flat_map (λ a. reference_names (out-ArgTree a).reference) xs
arguments_are [] = refl
arguments_are (a ∷ xs) = rw (argument_is a, arguments_are xs) refl

pub reference_names_is : (r : RefTree) → reference_names r ≡ (out-RefTree r).name ∷ flat_map (λ a. reference_names (out-ArgTree a).reference) (out-RefTree r).arguments
unfolding of_argument
reference_names_is r =
    fold_out-RefTree (List NameAt) (List NameAt) (λ a. a.reference) (λ r. r.name ∷ flat_map (λ names. names) r.arguments) r
    ∙ ap (λ (names : List NameAt). (out-RefTree r).name ∷ names) (arguments_are (out-RefTree r).arguments)
