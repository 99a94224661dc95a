-- What stands twice in a reference: among its arguments, and within each.
use Rattle.std.proofs.Common.{◌≡◌, ◌∙◌, refl, List, [], ◌∷◌, ◌++◌, map}
use Rattle.std.specs.List.{flat_map}
use Rattle.design_lexer.specs.declared.tree.ArgTree.{ArgTree, fold-ArgTree, fold_out-ArgTree, out-ArgTree}
use Rattle.design_lexer.specs.declared.tree.NameAt.{NameAt}
use Rattle.design_lexer.specs.declared.tree.RefTree.{RefTree, fold_out-RefTree, out-RefTree}
use Rattle.fault_list.specs.declared.fault.Fault.{Fault}
use Rattle.name_rules.specs.Twice.{reference_repeats, repeats}

of_argument : ArgTree → NameAt × List Fault
of_argument = fold-ArgTree (NameAt × List Fault) (List Fault) (λ a. (a.name, a.reference)) (λ r. repeats [] (map (λ a. a.0) r.arguments) ++ flat_map (λ a. a.1) r.arguments)

argument_is : (a : ArgTree) → of_argument a ≡ ((out-ArgTree a).name, reference_repeats (out-ArgTree a).reference)
unfolding of_argument
argument_is a = fold_out-ArgTree (NameAt × List Fault) (List Fault) (λ a. (a.name, a.reference)) (λ r. repeats [] (map (λ a. a.0) r.arguments) ++ flat_map (λ a. a.1) r.arguments) a

names_are : (xs : List ArgTree) → map (λ (p : NameAt × List Fault). p.0) (map of_argument xs) ≡ map (λ a. (out-ArgTree a).name) xs
names_are [] = refl
names_are (a ∷ xs) = rw (argument_is a, names_are xs) refl

faults_are : (xs : List ArgTree) → flat_map (λ (p : NameAt × List Fault). p.1) (map of_argument xs) ≡ flat_map (λ a. reference_repeats (out-ArgTree a).reference) xs
faults_are [] = refl
faults_are (a ∷ xs) = rw (argument_is a, faults_are xs) refl

pub reference_is : (r : RefTree) → reference_repeats r ≡ repeats [] (map (λ a. (out-ArgTree a).name) (out-RefTree r).arguments) ++ flat_map (λ a. reference_repeats (out-ArgTree a).reference) (out-RefTree r).arguments
unfolding of_argument
reference_is r =
    fold_out-RefTree (NameAt × List Fault) (List Fault) (λ a. (a.name, a.reference)) (λ r. repeats [] (map (λ a. a.0) r.arguments) ++ flat_map (λ a. a.1) r.arguments) r
    ∙ both (names_are (out-RefTree r).arguments) (faults_are (out-RefTree r).arguments)
  where
    both : {a b : List NameAt} {x y : List Fault} → a ≡ b → x ≡ y → repeats [] a ++ x ≡ repeats [] b ++ y
    both e f = rw (e, f) refl
