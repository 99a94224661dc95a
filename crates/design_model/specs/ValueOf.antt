-- The value of an expression.
use Rattle.std.specs.Prelude.{ℕ, List, [], ◌∷◌, Option, Some, None, slice_get, option_and_then}
use Rattle.order_core.specs.declared.num.Num.{Num as Number}
use Rattle.order_core.specs.declared.num.Num.TheVariants as number
use Rattle.order_core.specs.Num.{number_sum, number_product, greater_of, lesser_of}
use Rattle.unit_core.specs.Ratio.{ratio}
use Rattle.value_type.specs.declared.value.Value.{Value, out-Value}
use Rattle.value_type.specs.declared.value.Value.TheOpen.{Value-F}
use Rattle.value_type.specs.declared.value.Value.TheVariants.{Tup}
use Rattle.value_type.specs.Fits.{Layer}
use Rattle.value_type.specs.Forms.{number_value}
use Rattle.value_type.specs.Scale.{scaled}
use Rattle.design_model.specs.declared.expr.Expr.{Expr, fold-Expr}
use Rattle.design_model.specs.declared.expr.Expr.TheOpen.{Expr-F}
use Rattle.design_model.specs.Rows.{Row}

-- What an expression reads: the value of an own provided port, by its number, and that of a part's required port, by the part's number and the port's. A port that isn't there has none.
pub record Reads : Type 0 where
  pub own : ℕ → Option Value
  pub inner : ℕ → ℕ → Option Value

-- the value of a port of one of the rows
abbrev pub port_at : List Row → ℕ → ℕ → Option Value
port_at rows i j = option_and_then (λ row. slice_get row j) (slice_get rows i)

-- The own provided ports carry the first row, and the parts' required ports the others.
abbrev pub reads_of : Row → List Row → Reads
reads_of own inner = record { own = slice_get own; inner = port_at inner }

abbrev pub number_at : Layer → Option Number
number_at (Value-F.Num n) = Some (number.Count n)
number_at Value-F.Top = Some number.Top
number_at _ = None

-- the value as a number, if it is one
abbrev pub number_in : Option Value → Option Number
number_in (Some v) = number_at (out-Value v)
number_in None = None

-- of one number, if it is there
abbrev pub of_one : (Number → Number) → Option Number → Option Value
of_one op (Some a) = Some (number_value (op a))
of_one op None = None

-- of two numbers, if both are there
abbrev pub of_two : (Number → Number → Number) → Option Number → Option Number → Option Value
of_two op (Some a) (Some b) = Some (number_value (op a b))
of_two op (Some a) None = None
of_two op None b = None

abbrev pub with_first : Option Value → Option (List Value) → Option (List Value)
with_first (Some v) (Some vs) = Some (v ∷ vs)
with_first (Some v) None = None
with_first None vs = None

-- all the values, if each of them is there
abbrev pub together : List (Reads → Option Value) → Reads → Option (List Value)
together [] reads = Some []
together (part ∷ parts) reads = with_first (part reads) (together parts reads)

abbrev pub tuple_of : Option (List Value) → Option Value
tuple_of (Some vs) = Some (Tup vs)
tuple_of None = None

-- one level of an expression, with the values of its parts in their place
abbrev pub value_step : Expr-F (Reads → Option Value) → Reads → Option Value
value_step (Expr-F.Own j) reads = reads.own j
value_step (Expr-F.Inner i j) reads = reads.inner i j
value_step (Expr-F.Constant v) reads = Some v
value_step (Expr-F.Scale by a) reads = of_one (scaled (ratio by)) (number_in (a reads))
value_step (Expr-F.Sum a b) reads = of_two number_sum (number_in (a reads)) (number_in (b reads))
value_step (Expr-F.Product a b) reads = of_two number_product (number_in (a reads)) (number_in (b reads))
value_step (Expr-F.Greatest a b) reads = of_two greater_of (number_in (a reads)) (number_in (b reads))
value_step (Expr-F.Lesser a b) reads = of_two lesser_of (number_in (a reads)) (number_in (b reads))
value_step (Expr-F.Tuple parts) reads = tuple_of (together parts reads)

-- The value of the expression. It has none where it reads a port that isn't there, or where an operation on numbers gets a value that is no number.
abbrev pub value_of : Expr → Reads → Option Value
value_of = fold-Expr (Reads → Option Value) value_step
