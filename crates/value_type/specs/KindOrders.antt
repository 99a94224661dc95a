-- Orders on what each type has, that compare numbers by size and tuples part by part.
use Rattle.std.specs.Prelude.{◌≡◌, Bool, IsTrue, List, map}
use Rattle.order_core.specs.Embedding.{IsEmbedding}
use Rattle.order_core.specs.Num as numbers
use Rattle.order_core.specs.Order.{IsOrder}
use Rattle.order_core.specs.Tuple.{are_values, tuple_leq}
use Rattle.unit_core.specs.declared.dim.Dim.{Dim}
use Rattle.value_type.specs.declared.kind.Kind.{Kind}
use Rattle.value_type.specs.declared.kind.Kind.TheVariants as kind
use Rattle.value_type.specs.declared.poset.Types.{Types}
use Rattle.value_type.specs.declared.value.Value.{Value}
use Rattle.value_type.specs.declared.value.Value.TheVariants.{Tup}
use Rattle.value_type.specs.Fits.{fits}
use Rattle.value_type.specs.Forms.{number_value}
use Rattle.value_type.specs.SameForm.{same_form}

-- For each type an order on what the type has, its values among them. Numbers compare by size and tuples part by part, and types of one form have the same in the same order.
pub record AreKindOrders (t : Types) (has : Kind → Value → Bool) (order : Kind → Value → Value → Bool) : Type 0 where
  pub laws : (k : Kind) → IsOrder (has k) (order k)
  pub values : (k : Kind) (v : Value) → IsTrue (fits t k v) → IsTrue (has k v)
  pub numbers : (dim : Dim) → IsEmbedding numbers.is_number numbers.number_leq (has (kind.Num dim)) (order (kind.Num dim)) number_value
  pub tuples : (ks : List Kind) → IsEmbedding (are_values (map has ks)) (tuple_leq (map order ks)) (has (kind.Prod ks)) (order (kind.Prod ks)) Tup
  pub by_form : (a b : Kind) → IsTrue (same_form a b) → has a ≡ has b
  pub order_by_form : (a b : Kind) → IsTrue (same_form a b) → order a ≡ order b
