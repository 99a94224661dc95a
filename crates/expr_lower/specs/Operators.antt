-- What the operators and the products of the code stand for.
use Rattle.design_model.specs.declared.expr.Expr.{Expr}
use Rattle.design_model.specs.declared.expr.Expr.TheVariants as expr
use Rattle.expr_lower.specs.Meanings.{multiplied, number}
use Rattle.expr_lower.specs.declared.meaning.Meaning.{Meaning}
use Rattle.expr_lower.specs.declared.meaning.Meaning.TheVariants as meaning
use Rattle.expr_lower.specs.declared.operand.ProductKind.{ProductKind}
use Rattle.expr_lower.specs.declared.operand.ProductKind.TheVariants as product
use Rattle.expr_lower.specs.declared.operator.Joining.{Joining}
use Rattle.expr_lower.specs.declared.operator.Joining.TheVariants as joining

-- the operation that the operator stands for
abbrev pub operation : Joining → Expr → Expr → Expr
operation joining.Sum = expr.Sum
operation joining.Greatest = expr.Greatest
operation joining.Lesser = expr.Lesser

-- what a product is, from its constant or its dimension
abbrev pub product_by : ProductKind → Meaning → Meaning → Meaning
product_by (product.Constant c) a b = meaning.Constant c
product_by (product.Number dim) a b = number dim (multiplied a b)
