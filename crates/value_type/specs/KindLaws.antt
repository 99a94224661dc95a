-- What fits and leq are at each type. Each is an order that was there before, seen through a variant of Value.
use Rattle.std.specs.Prelude.{◌≡◌, ℕ, IsTrue, List, Option, Some, slice_get, map}
use Rattle.std.proofs.Common.{refl, sym, ap, ◌∙◌}
use Rattle.order_core.specs.declared.num.Num.{Num as Number}
use Rattle.order_core.specs.declared.num.Num.TheVariants as number
use Rattle.order_core.specs.Embedding.{IsEmbedding}
use Rattle.order_core.specs.Finite as finite
use Rattle.order_core.specs.Num as numbers
use Rattle.order_core.specs.Tuple.{are_values, tuple_leq}
use Rattle.order_core.specs.Upper as upper
use Rattle.unit_core.specs.declared.dim.Dim.{Dim}
use Rattle.value_type.specs.declared.kind.Kind.{Kind}
use Rattle.value_type.specs.declared.kind.Kind.TheFolds.{fold_out-Kind}
use Rattle.value_type.specs.declared.kind.Kind.TheVariants as kind
use Rattle.value_type.specs.declared.kind.Kind.TheVariants.{outs-Num, outs-Fin, outs-Prod, outs-Up}
use Rattle.value_type.specs.declared.poset.Poset.{Poset}
use Rattle.value_type.specs.declared.poset.Types.{Types}
use Rattle.value_type.specs.declared.value.Value.{Value, out-Value, roll-Value, roll-out-Value}
use Rattle.value_type.specs.declared.value.Value.TheOpen.{Value-F}
use Rattle.value_type.specs.declared.value.Value.TheVariants as value
use Rattle.value_type.specs.Fits.{Layer, fits, is_number, is_element, is_upper, is_tuple}
use Rattle.value_type.specs.Forms.{number_value}
use Rattle.value_type.specs.Leq.{leq, number_leq, element_leq, set_leq, parts_leq}

pub fits-Num : (t : Types) (dim : Dim) (v : Value) → fits t (kind.Num dim) v ≡ is_number (out-Value v)
fits-Num t dim v = rw (fold_out-Kind, outs-Num) refl

pub fits-Fin : (t : Types) (k : ℕ) (v : Value) → fits t (kind.Fin k) v ≡ is_element (slice_get t.posets k) (out-Value v)
fits-Fin t k v = rw (fold_out-Kind, outs-Fin) refl

pub fits-Prod : (t : Types) (ks : List Kind) (v : Value) → fits t (kind.Prod ks) v ≡ is_tuple (map (fits t) ks) (out-Value v)
fits-Prod t ks v = rw (fold_out-Kind, outs-Prod) refl

pub fits-Up : (t : Types) (k : ℕ) (v : Value) → fits t (kind.Up k) v ≡ is_upper (slice_get t.posets k) (out-Value v)
fits-Up t k v = rw (fold_out-Kind, outs-Up) refl

pub leq-Num : (t : Types) (dim : Dim) (v w : Value) → leq t (kind.Num dim) v w ≡ number_leq (out-Value v) (out-Value w)
leq-Num t dim v w = rw (fold_out-Kind, outs-Num) refl

pub leq-Fin : (t : Types) (k : ℕ) (v w : Value) → leq t (kind.Fin k) v w ≡ element_leq (slice_get t.posets k) (out-Value v) (out-Value w)
leq-Fin t k v w = rw (fold_out-Kind, outs-Fin) refl

pub leq-Prod : (t : Types) (ks : List Kind) (v w : Value) → leq t (kind.Prod ks) v w ≡ parts_leq (map (leq t) ks) (out-Value v) (out-Value w)
leq-Prod t ks v w = rw (fold_out-Kind, outs-Prod) refl

pub leq-Up : (t : Types) (k : ℕ) (v w : Value) → leq t (kind.Up k) v w ≡ set_leq (slice_get t.posets k) (out-Value v) (out-Value w)
leq-Up t k v w = rw (fold_out-Kind, outs-Up) refl

-- Two values are the same where their layers are.
pub out_same : (v w : Value) → out-Value v ≡ out-Value w → v ≡ w
out_same v w e = sym (roll-out-Value v) ∙ (ap roll-Value e ∙ roll-out-Value w)

module _ (t : Types) (dim : Dim) where
  number_layer : (l : Layer) → IsTrue (is_number l) → (n : Number) × (l ≡ out-Value (number_value n))
  number_layer (Value-F.Num n) h = (number.Count n, sym (value.outs-Num n))
  number_layer Value-F.Top h = (number.Top, sym value.outs-Top)
  number_layer _ h = absurd (cc)

  pub embeds-Num : IsEmbedding numbers.is_number numbers.number_leq (fits t (kind.Num dim)) (leq t (kind.Num dim)) number_value
  embeds-Num = record { value = values; order = orders; onto = λ v h. let r = number_layer (out-Value v) (sym (fits-Num t dim v) ∙ h) in (r.0, out_same v (number_value r.0) r.1) }
    where
      values : (n : Number) → fits t (kind.Num dim) (number_value n) ≡ numbers.is_number n
      values (number.Count n) = fits-Num t dim (value.Num n) ∙ ap is_number (value.outs-Num n)
      values number.Top = fits-Num t dim value.Top ∙ ap is_number value.outs-Top

      orders : (m n : Number) → leq t (kind.Num dim) (number_value m) (number_value n) ≡ numbers.number_leq m n
      orders (number.Count m) (number.Count n) = leq-Num t dim (value.Num m) (value.Num n) ∙ rw (value.outs-Num m, value.outs-Num n) refl
      orders (number.Count m) number.Top = leq-Num t dim (value.Num m) value.Top ∙ rw (value.outs-Num m, value.outs-Top) refl
      orders number.Top (number.Count n) = leq-Num t dim value.Top (value.Num n) ∙ rw (value.outs-Top, value.outs-Num n) refl
      orders number.Top number.Top = leq-Num t dim value.Top value.Top ∙ rw value.outs-Top refl

module _ (t : Types) (k : ℕ) (p : Poset) (there : slice_get t.posets k ≡ Some p) where
  element_layer : (l : Layer) → IsTrue (is_element (Some p) l) → (x : ℕ) × (l ≡ out-Value (value.El x))
  element_layer (Value-F.El x) h = (x, sym (value.outs-El x))
  element_layer _ h = absurd (cc)

  set_layer : (l : Layer) → IsTrue (is_upper (Some p) l) → (xs : List ℕ) × (l ≡ out-Value (value.Up xs))
  set_layer (Value-F.Up xs) h = (xs, sym (value.outs-Up xs))
  set_layer _ h = absurd (cc)

  pub embeds-Fin : IsEmbedding (finite.is_element p.order.table) (finite.is_below p.order.table) (fits t (kind.Fin k)) (leq t (kind.Fin k)) value.El
  embeds-Fin = record {
    value = λ x. fits-Fin t k (value.El x) ∙ rw (there, value.outs-El x) refl;
    order = λ x y. leq-Fin t k (value.El x) (value.El y) ∙ rw (there, value.outs-El x, value.outs-El y) refl;
    onto = λ v h.
        let r = element_layer (out-Value v) (sym (ap (λ (o : Option Poset). is_element o (out-Value v)) there) ∙ (sym (fits-Fin t k v) ∙ h)) in
        (r.0, out_same v (value.El r.0) r.1);
  }

  pub embeds-Up : IsEmbedding (upper.is_upper p.order.table) (upper.upper_leq p.order.table) (fits t (kind.Up k)) (leq t (kind.Up k)) value.Up
  embeds-Up = record {
    value = λ xs. fits-Up t k (value.Up xs) ∙ rw (there, value.outs-Up xs) refl;
    order = λ xs ys. leq-Up t k (value.Up xs) (value.Up ys) ∙ rw (there, value.outs-Up xs, value.outs-Up ys) refl;
    onto = λ v h.
        let r = set_layer (out-Value v) (sym (ap (λ (o : Option Poset). is_upper o (out-Value v)) there) ∙ (sym (fits-Up t k v) ∙ h)) in
        (r.0, out_same v (value.Up r.0) r.1);
  }

module _ (t : Types) (ks : List Kind) where
  tuple_layer : (l : Layer) → IsTrue (is_tuple (map (fits t) ks) l) → (xs : List Value) × (l ≡ out-Value (value.Tup xs))
  tuple_layer (Value-F.Tup xs) h = (xs, sym (value.outs-Tup xs))
  tuple_layer _ h = absurd (cc)

  pub embeds-Prod : IsEmbedding (are_values (map (fits t) ks)) (tuple_leq (map (leq t) ks)) (fits t (kind.Prod ks)) (leq t (kind.Prod ks)) value.Tup
  embeds-Prod = record {
    value = λ xs. fits-Prod t ks (value.Tup xs) ∙ rw (value.outs-Tup xs) refl;
    order = λ xs ys. leq-Prod t ks (value.Tup xs) (value.Tup ys) ∙ rw (value.outs-Tup xs, value.outs-Tup ys) refl;
    onto = λ v h. let r = tuple_layer (out-Value v) (sym (fits-Prod t ks v) ∙ h) in (r.0, out_same v (value.Tup r.0) r.1);
  }
