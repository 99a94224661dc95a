-- Sums and products with constants, worked out.
use Rattle.std.proofs.Common.{◌≡◌, ◌∙◌, refl, ap, ℕ, Bool}
use Rattle.std.specs.Prelude.{cond, Option, Some, None, option_map}
use Rattle.design_lexer.specs.declared.tree.ExprTree.{ExprTree}
use Rattle.design_lexer.specs.declared.tree.ExprTree.TheVariants as tree
use Rattle.design_lexer.specs.declared.tree.PlaceTree.{PlaceTree}
use Rattle.design_model.specs.declared.expr.Expr.TheVariants as expr
use Rattle.expr_lower.specs.Meanings.{common_dim, dimension, dims_product, joining_of, lowered, number, rounded_up, times}
use Rattle.expr_lower.specs.Reading.{Means, Reading, meaning_of_both, reading}
use Rattle.expr_lower.specs.ReadingLaws.{reading-Product, reading-Sum}
use Rattle.expr_lower.specs.declared.meaning.Lower.{Lower}
use Rattle.expr_lower.specs.declared.meaning.Meaning.{Meaning}
use Rattle.expr_lower.specs.declared.meaning.Meaning.TheVariants as meaning
use Rattle.tree_units.specs.Constants.{product_of}
use Rattle.tree_units.specs.declared.constant.Constant.{Constant}
use Rattle.unit_core.specs.DimensionLaws.{same_dim_itself}
use Rattle.unit_core.specs.declared.dim.Dim.{Dim}
use Rattle.value_type.specs.declared.poset.Types.{Types}

own_dim : (dim : Dim) → common_dim (Some dim) (Some dim) ≡ Some dim
own_dim dim = ap (λ (b : Bool). cond b (Some dim) None) (same_dim_itself dim)

module _ (types : Types) (ports : PlaceTree → Option Lower) (a b : ExprTree) (at : ℕ) where
  both : (made : Meaning → Meaning → Option Meaning) (x y : Meaning) → Means types ports a x → Means types ports b y → meaning_of_both made (reading types ports a).meaning (reading types ports b).meaning ≡ made x y
  both made x y e f = ap (λ (o : Option Meaning). meaning_of_both made o (reading types ports b).meaning) e ∙ ap (λ (o : Option Meaning). meaning_of_both made (Some x) o) f

  sum_of : (x y : Meaning) → Means types ports a x → Means types ports b y → (reading types ports (tree.Sum a b at)).meaning ≡ joining_of expr.Sum x y
  sum_of x y e f = ap (λ (r : Reading). r.meaning) (reading-Sum types ports a b at) ∙ both (joining_of expr.Sum) x y e f

  product_is : (x y : Meaning) → Means types ports a x → Means types ports b y → (reading types ports (tree.Product a b at)).meaning ≡ times x y
  product_is x y e f = ap (λ (r : Reading). r.meaning) (reading-Product types ports a b at) ∙ both times x y e f

  -- The sum of two numbers of one dimension.
  sum_in : (x y : Meaning) (dim : Dim) → Means types ports a x → Means types ports b y → dimension x ≡ Some dim → dimension y ≡ Some dim → Means types ports (tree.Sum a b at) (number dim (expr.Sum (lowered x).expr (lowered y).expr))
  sum_in x y dim e f g h =
      sum_of x y e f
      ∙ ap (option_map (λ (d : Dim). number d (expr.Sum (lowered x).expr (lowered y).expr))) (ap (λ (o : Option Dim). common_dim o (dimension y)) g ∙ (ap (common_dim (Some dim)) h ∙ own_dim dim))

  module _ (c : Constant) (l : Lower) where
    pub sum_left : Means types ports a (meaning.Constant c) → Means types ports b (meaning.Expression l) → dimension (meaning.Expression l) ≡ Some c.dim → Means types ports (tree.Sum a b at) (number c.dim (expr.Sum (rounded_up c).expr l.expr))
    sum_left e f g = sum_in (meaning.Constant c) (meaning.Expression l) c.dim e f refl g

    pub sum_right : Means types ports a (meaning.Expression l) → Means types ports b (meaning.Constant c) → dimension (meaning.Expression l) ≡ Some c.dim → Means types ports (tree.Sum a b at) (number c.dim (expr.Sum l.expr (rounded_up c).expr))
    sum_right e f g = sum_in (meaning.Expression l) (meaning.Constant c) c.dim e f g refl

    module _ (dim : Dim) where
      pub scaled_left : Means types ports a (meaning.Constant c) → Means types ports b (meaning.Expression l) → dims_product (Some c.dim) (dimension (meaning.Expression l)) ≡ Some dim → Means types ports (tree.Product a b at) (number dim (expr.Scale c.fraction l.expr))
      scaled_left e f g = product_is (meaning.Constant c) (meaning.Expression l) e f ∙ ap (option_map (λ (d : Dim). number d (expr.Scale c.fraction l.expr))) g

      pub scaled_right : Means types ports a (meaning.Expression l) → Means types ports b (meaning.Constant c) → dims_product (dimension (meaning.Expression l)) (Some c.dim) ≡ Some dim → Means types ports (tree.Product a b at) (number dim (expr.Scale c.fraction l.expr))
      scaled_right e f g = product_is (meaning.Expression l) (meaning.Constant c) e f ∙ ap (option_map (λ (d : Dim). number d (expr.Scale c.fraction l.expr))) g

  pub constants_multiplied : (c d k : Constant) → Means types ports a (meaning.Constant c) → Means types ports b (meaning.Constant d) → product_of c d ≡ Some k → Means types ports (tree.Product a b at) (meaning.Constant k)
  constants_multiplied c d k e f g = product_is (meaning.Constant c) (meaning.Constant d) e f ∙ ap (option_map meaning.Constant) g
