-- When an expression is of a type.
use Rattle.std.specs.Prelude.{ℕ, Bool, true, false, ◌&&◌, List, Option, Some, None}
use Rattle.order_core.specs.Tuple.{are_values}
use Rattle.value_type.specs.declared.kind.Kind.{Kind, out-Kind}
use Rattle.value_type.specs.declared.kind.Kind.TheOpen.{Kind-F}
use Rattle.value_type.specs.declared.poset.Types.{Types}
use Rattle.value_type.specs.Fits.{fits}
use Rattle.value_type.specs.SameForm.{same_form}
use Rattle.design_model.specs.declared.expr.Expr.{Expr, fold-Expr}
use Rattle.design_model.specs.declared.expr.Expr.TheOpen.{Expr-F}

-- The types of the ports that an expression may read, by their numbers: own provided ports, and parts' required ports.
pub record PortTypes : Type 0 where
  pub own : ℕ → Option Kind
  pub inner : ℕ → ℕ → Option Kind

-- The port is there, and its type has the form of this one.
abbrev pub has_form : Option Kind → Kind → Bool
has_form (Some a) b = same_form a b
has_form None b = false

abbrev pub is_number_at : Kind-F Kind → Bool
is_number_at (Kind-F.Num dim) = true
is_number_at _ = false

-- a type of numbers
abbrev pub is_number_kind : Kind → Bool
is_number_kind k = is_number_at (out-Kind k)

-- Each part is of its type of the product.
abbrev pub parts_are : List (Kind → Bool) → Kind-F Kind → Bool
parts_are tests (Kind-F.Prod kinds) = are_values tests kinds
parts_are tests _ = false

-- one level of an expression, with the tests of its parts in their place
abbrev pub kind_step : Types → PortTypes → Expr-F (Kind → Bool) → Kind → Bool
kind_step t ports (Expr-F.Own j) k = has_form (ports.own j) k
kind_step t ports (Expr-F.Inner i j) k = has_form (ports.inner i j) k
kind_step t ports (Expr-F.Constant v) k = fits t k v
kind_step t ports (Expr-F.Scale by a) k = is_number_kind k && a k
kind_step t ports (Expr-F.Sum a b) k = is_number_kind k && (a k && b k)
kind_step t ports (Expr-F.Product a b) k = is_number_kind k && (a k && b k)
kind_step t ports (Expr-F.Greatest a b) k = is_number_kind k && (a k && b k)
kind_step t ports (Expr-F.Lesser a b) k = is_number_kind k && (a k && b k)
kind_step t ports (Expr-F.Tuple parts) k = parts_are parts (out-Kind k)

-- The expression is typed, and of this type, all number types taken as one: each port that it reads is there, each constant fits, operations on numbers get numbers, and a tuple's parts have the types of the product's.
abbrev pub is_of_kind : Types → PortTypes → Expr → Kind → Bool
is_of_kind t ports = fold-Expr (Kind → Bool) (kind_step t ports)
