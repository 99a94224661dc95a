-- What each form of expression is read as.
use Rattle.std.proofs.Common.{◌≡◌, ◌∙◌, refl, ap, ℕ, List}
use Rattle.std.specs.Prelude.{map, Option}
use Rattle.design_lexer.specs.declared.tree.ConstantTree.{ConstantTree}
use Rattle.design_lexer.specs.declared.tree.ExprTree.{ExprTree, fold_out-ExprTree, map-ExprTree, out-ExprTree}
use Rattle.design_lexer.specs.declared.tree.ExprTree.TheOpen.{ExprTree-F}
use Rattle.design_lexer.specs.declared.tree.ExprTree.TheVariants as tree
use Rattle.design_lexer.specs.declared.tree.NameAt.{NameAt}
use Rattle.design_lexer.specs.declared.tree.PlaceTree.{PlaceTree}
use Rattle.design_model.specs.declared.expr.Expr.TheVariants as expr
use Rattle.expr_lower.specs.Reading.{Reading, constant_read, element_read, joining_read, place_at, place_of, port_read, product_read, read_step, reading, tuple_read, upper_read}
use Rattle.expr_lower.specs.declared.meaning.Lower.{Lower}
use Rattle.value_type.specs.declared.poset.Types.{Types}

module _ (types : Types) (ports : PlaceTree → Option Lower) where
  pub reading-Constant : (c : ConstantTree) → reading types ports (tree.Constant c) ≡ constant_read c
  reading-Constant c = rw (fold_out-ExprTree, tree.outs-Constant) refl

  pub reading-Place : (place : PlaceTree) → reading types ports (tree.Place place) ≡ port_read place (ports place)
  reading-Place place = rw (fold_out-ExprTree, tree.outs-Place) refl

  pub reading-Element : (poset element : NameAt) → reading types ports (tree.Element poset element) ≡ element_read types poset element
  reading-Element poset element = rw (fold_out-ExprTree, tree.outs-Element) refl

  pub reading-Upper : (poset : NameAt) (elements : List NameAt) → reading types ports (tree.Upper poset elements) ≡ upper_read types poset elements
  reading-Upper poset elements = rw (fold_out-ExprTree, tree.outs-Upper) refl

  pub reading-Sum : (left right : ExprTree) (at : ℕ) → reading types ports (tree.Sum left right at) ≡ joining_read expr.Sum at (reading types ports left) (reading types ports right)
  reading-Sum left right at = rw (fold_out-ExprTree Reading (read_step types ports) (tree.Sum left right at), tree.outs-Sum) refl

  pub reading-Product : (left right : ExprTree) (at : ℕ) → reading types ports (tree.Product left right at) ≡ product_read at (reading types ports left) (reading types ports right)
  reading-Product left right at = rw (fold_out-ExprTree Reading (read_step types ports) (tree.Product left right at), tree.outs-Product) refl

  pub reading-Greatest : (left right : ExprTree) (at : ℕ)
      → reading types ports (tree.Greatest left right at) ≡ joining_read expr.Greatest at (reading types ports left) (reading types ports right)
  reading-Greatest left right at = rw (fold_out-ExprTree Reading (read_step types ports) (tree.Greatest left right at), tree.outs-Greatest) refl

  pub reading-Lesser : (left right : ExprTree) (at : ℕ) → reading types ports (tree.Lesser left right at) ≡ joining_read expr.Lesser at (reading types ports left) (reading types ports right)
  reading-Lesser left right at = rw (fold_out-ExprTree Reading (read_step types ports) (tree.Lesser left right at), tree.outs-Lesser) refl

  pub reading-Tuple : (parts : List ExprTree) (at : ℕ) → reading types ports (tree.Tuple parts at) ≡ tuple_read at (map (reading types ports) parts)
  reading-Tuple parts at = rw (fold_out-ExprTree, tree.outs-Tuple) refl

  step_at : (x : ExprTree-F ExprTree) → (read_step types ports (map-ExprTree ExprTree Reading (reading types ports) x)).at ≡ place_at x
  step_at (ExprTree-F.Constant c) = refl
  step_at (ExprTree-F.Place place) = refl
  step_at (ExprTree-F.Element poset element) = refl
  step_at (ExprTree-F.Upper poset elements) = refl
  step_at (ExprTree-F.Sum left right at) = refl
  step_at (ExprTree-F.Product left right at) = refl
  step_at (ExprTree-F.Greatest left right at) = refl
  step_at (ExprTree-F.Lesser left right at) = refl
  step_at (ExprTree-F.Tuple parts at) = refl

  -- A reading has the place of the expression's first token.
  pub reading_at : (tree : ExprTree) → (reading types ports tree).at ≡ place_of tree
  reading_at tree = ap (λ (r : Reading). r.at) (fold_out-ExprTree Reading (read_step types ports) tree) ∙ step_at (out-ExprTree tree)
