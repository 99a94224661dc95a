-- What leads nowhere in types, expressions and references, one level at a time.
use Rattle.std.proofs.Common.{◌≡◌, ◌∙◌, ◌<◌, ◌+◌, ◌⊎◌, inl, inr, refl, sym, ap, ℕ, Bool, List, [], ◌∷◌, ◌++◌, map, take, length, get_or}
use Rattle.std.proofs.lemmas.List.{map-append, take_more}
use Rattle.std.proofs.lemmas.List.Concat.{flat_map-append}
use Rattle.std.proofs.lemmas.List.Folds.{flat_map-map}
use Rattle.std.specs.List.{flat_map}
use Rattle.std.specs.Prelude.{is_some}
use Rattle.design_lexer.specs.declared.tree.ArgTree.{ArgTree, out-ArgTree}
use Rattle.design_lexer.specs.declared.tree.ExprTree.{ExprTree, fold_out-ExprTree}
use Rattle.design_lexer.specs.declared.tree.ExprTree.TheVariants as expr
use Rattle.design_lexer.specs.declared.tree.NameAt.{NameAt}
use Rattle.design_lexer.specs.declared.tree.RefTree.{RefTree, out-RefTree}
use Rattle.design_lexer.specs.declared.tree.TypeTree.{TypeTree, fold_out-TypeTree}
use Rattle.design_lexer.specs.declared.tree.TypeTree.TheVariants as type
use Rattle.fault_list.specs.declared.fault.Fault.{Fault}
use Rattle.name_index.specs.Names.{number_of, with_name}
use Rattle.name_rules.specs.Known.{Known}
use Rattle.name_rules.specs.ReferenceNamesLaws.{reference_names_is}
use Rattle.name_rules.specs.References.{reference_names}
use Rattle.name_rules.specs.Twice.{is_listed}
use Rattle.name_rules.specs.Unknown.{expr_step, expr_unknown, type_unknown, unknown_names, unknown_unless}
use Rattle.name_rules.proofs.TwiceLemmas.{listed_more}

module _ (known : Known) where
  pub of-Product : (parts : List TypeTree) → type_unknown known (type.Product parts) ≡ flat_map (type_unknown known) parts
  of-Product parts = rw (fold_out-TypeTree, type.outs-Product) (flat_map-map (λ (faults : List Fault). faults) (type_unknown known) parts)

  pub of-Tuple : (parts : List ExprTree) (at : ℕ) → expr_unknown known (expr.Tuple parts at) ≡ flat_map (expr_unknown known) parts
  of-Tuple parts at = rw (fold_out-ExprTree, expr.outs-Tuple) (flat_map-map (λ (faults : List Fault). faults) (expr_unknown known) parts)

  -- What is wrong with the operands of an operator is wrong with the whole.
  pub of_operands : (e left right : ExprTree)
      → ((at : ℕ) × (e ≡ expr.Sum left right at)) ⊎ (((at : ℕ) × (e ≡ expr.Product left right at)) ⊎ (((at : ℕ) × (e ≡ expr.Greatest left right at)) ⊎ ((at : ℕ) × (e ≡ expr.Lesser left right at))))
      → expr_unknown known e ≡ expr_unknown known left ++ expr_unknown known right
  of_operands e left right (inl w) = ap (expr_unknown known) w.1 ∙ rw (fold_out-ExprTree (List Fault) (expr_step known) (expr.Sum left right w.0), expr.outs-Sum) refl
  of_operands e left right (inr (inl w)) = ap (expr_unknown known) w.1 ∙ rw (fold_out-ExprTree (List Fault) (expr_step known) (expr.Product left right w.0), expr.outs-Product) refl
  of_operands e left right (inr (inr (inl w))) = ap (expr_unknown known) w.1 ∙ rw (fold_out-ExprTree (List Fault) (expr_step known) (expr.Greatest left right w.0), expr.outs-Greatest) refl
  of_operands e left right (inr (inr (inr w))) = ap (expr_unknown known) w.1 ∙ rw (fold_out-ExprTree (List Fault) (expr_step known) (expr.Lesser left right w.0), expr.outs-Lesser) refl

flat_map_joined : {A B C : Type 0} (f : B → List C) (g : A → List B) (xs : List A) → flat_map f (flat_map g xs) ≡ flat_map (λ x. flat_map f (g x)) xs
flat_map_joined f g [] = refl
flat_map_joined f g (x ∷ xs) = rw (flat_map-append, flat_map_joined f g xs) refl

-- The names of a reference, tested one level at a time.
pub reference_unknown_is : (finds : List ℕ → Bool) (r : RefTree) → unknown_names finds (reference_names r)
    ≡ unknown_unless finds (out-RefTree r).name ++ flat_map (λ a. unknown_names finds (reference_names (out-ArgTree a).reference)) (out-RefTree r).arguments
reference_unknown_is finds r =
    ap (unknown_names finds) (reference_names_is r)
    ∙ ap (λ (faults : List Fault). unknown_unless finds (out-RefTree r).name ++ faults) (flat_map_joined (unknown_unless finds) (λ (a : ArgTree). reference_names (out-ArgTree a).reference) (out-RefTree r).arguments)

-- Functions that agree everywhere are one.
pub same_function : {A B : Type 0} {f g : A → B} → ((x : A) → f x ≡ g x) → f ≡ g
same_function h = λ i x. h x i

-- One item more in the index of names.
pub listed_next : {A : Type 0} (named : A → NameAt) (items : List A) (i : ℕ) (x : A) → i < length items → x ≡ get_or items i x → (names : List (List ℕ × ℕ))
    → ((name : List ℕ) → is_some (number_of names name) ≡ is_listed (map named (take i items)) name)
    → (name : List ℕ) → is_some (number_of (with_name names (named x).name 0) name) ≡ is_listed (map named (take (i + 1) items)) name
listed_next {A = A} named items i x inside is names h name =
    listed_more (map named (take i items)) (named x) names 0 h name
    ∙ ap (λ (ns : List NameAt). is_listed ns name) (sym (ap (map named) (take_more items i x inside ∙ ap (λ (y : A). take i items ++ y ∷ []) (sym is)) ∙ map-append named (take i items) (x ∷ [])))
