-- What expressions mean, and what operators make of their operands.
use Rattle.std.specs.Prelude.{cond, Option, Some, None, option_and_then, option_map}
use Rattle.design_model.specs.declared.expr.Expr.{Expr}
use Rattle.design_model.specs.declared.expr.Expr.TheVariants as expr
use Rattle.expr_lower.specs.declared.meaning.Lower.{Lower}
use Rattle.expr_lower.specs.declared.meaning.Meaning.{Meaning}
use Rattle.expr_lower.specs.declared.meaning.Meaning.TheVariants as meaning
use Rattle.tree_units.specs.Constants.{dim_product, product_of}
use Rattle.tree_units.specs.declared.constant.Constant.{Constant}
use Rattle.unit_core.specs.Dimension.{same_dim}
use Rattle.unit_core.specs.Rounding.{ceiling}
use Rattle.unit_core.specs.declared.dim.Dim.{Dim}
use Rattle.value_type.specs.declared.kind.Kind.{Kind, out-Kind}
use Rattle.value_type.specs.declared.kind.Kind.TheOpen.{Kind-F}
use Rattle.value_type.specs.declared.kind.Kind.TheVariants as kind
use Rattle.value_type.specs.declared.value.Value.TheVariants as value

-- the constant, rounded up to a whole count
abbrev pub rounded_up : Constant → Lower
rounded_up c = record { kind = kind.Num c.dim; expr = expr.Constant (value.Num (ceiling c.fraction.num c.fraction.den)) }

-- the expression and its type, where it stands alone
abbrev pub lowered : Meaning → Lower
lowered (meaning.Constant c) = rounded_up c
lowered (meaning.Expression l) = l

-- the dimension of a type of numbers
abbrev pub number_dim : Kind-F Kind → Option Dim
number_dim (Kind-F.Num dim) = Some dim
number_dim _ = None

-- the dimension, if it is a number
abbrev pub dimension : Meaning → Option Dim
dimension (meaning.Constant c) = Some c.dim
dimension (meaning.Expression l) = number_dim (out-Kind l.kind)

-- a number of this dimension
abbrev pub number : Dim → Expr → Meaning
number dim e = meaning.Expression (record { kind = kind.Num dim; expr = e })

-- the dimension, if both have it
abbrev pub common_dim : Option Dim → Option Dim → Option Dim
common_dim (Some a) (Some b) = cond (same_dim a b) (Some a) None
common_dim (Some a) None = None
common_dim None b = None

-- two numbers of one dimension, put together by the operation
abbrev pub joining_of : (Expr → Expr → Expr) → Meaning → Meaning → Option Meaning
joining_of joined a b = option_map (λ dim. number dim (joined (lowered a).expr (lowered b).expr)) (common_dim (dimension a) (dimension b))

-- the dimension of a product, if both are numbers and its exponents are in range
abbrev pub dims_product : Option Dim → Option Dim → Option Dim
dims_product a b = option_and_then (λ x. option_and_then (dim_product x) b) a

-- A constant scales a port expression by its exact fraction, whichever side it stands on.
abbrev pub multiplied : Meaning → Meaning → Expr
multiplied (meaning.Constant a) b = expr.Scale a.fraction (lowered b).expr
multiplied (meaning.Expression a) (meaning.Constant b) = expr.Scale b.fraction a.expr
multiplied (meaning.Expression a) (meaning.Expression b) = expr.Product a.expr b.expr

-- the product of two numbers of which one at least is no constant
abbrev pub times_numbers : Meaning → Meaning → Option Meaning
times_numbers a b = option_map (λ dim. number dim (multiplied a b)) (dims_product (dimension a) (dimension b))

-- The product of two constants is a constant, and every other product a number.
abbrev pub times : Meaning → Meaning → Option Meaning
times (meaning.Constant a) (meaning.Constant b) = option_map meaning.Constant (product_of a b)
times (meaning.Constant a) (meaning.Expression b) = times_numbers (meaning.Constant a) (meaning.Expression b)
times (meaning.Expression a) b = times_numbers (meaning.Expression a) b
