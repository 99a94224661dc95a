-- On the values of each type, leq is an order.
use Rattle.std.proofs.Common.{refl, sym, ap, subst, ◌∙◌}
use Rattle.std.proofs.lemmas.Simd.{map-map}
use Rattle.std.specs.Prelude.{◌≡◌, ℕ, Bool, IsTrue, List, Option, Some, None, slice_get, map}
use Rattle.order_core.specs.EmbeddingLaws.{embedded_laws}
use Rattle.order_core.specs.Finite as finite
use Rattle.order_core.specs.Num as numbers
use Rattle.order_core.specs.NumLaws as numbers_laws
use Rattle.order_core.specs.Order.{IsOrder}
use Rattle.order_core.specs.TupleLaws.{tuple_laws}
use Rattle.order_core.specs.Upper as upper
use Rattle.order_core.specs.UpperLaws.{upper_laws}
use Rattle.value_type.specs.Fits.{fits, is_element, is_upper, row_fits}
use Rattle.value_type.specs.Forms.{number_value}
use Rattle.value_type.specs.KindLaws.{fits-Fin, fits-Up, embeds-Num, embeds-Fin, embeds-Up, embeds-Prod}
use Rattle.value_type.specs.Leq.{leq, row_leq}
use Rattle.value_type.specs.declared.kind.Kind.TheFolds.{ind-Kind}
use Rattle.value_type.specs.declared.kind.Kind.TheOpen.{Kind-F}
use Rattle.value_type.specs.declared.kind.Kind.TheVariants as kind
use Rattle.value_type.specs.declared.kind.Kind.{Kind, roll-Kind, map-Kind}
use Rattle.value_type.specs.declared.poset.Poset.{Poset}
use Rattle.value_type.specs.declared.poset.Types.{Types}
use Rattle.value_type.specs.declared.value.Value.TheVariants as value
use Rattle.value_type.specs.declared.value.Value.{out-Value}

-- On no values every test is an order.
none_in_order : {A : Type 0} (is_value : A → Bool) (leq : A → A → Bool) → ((x : A) → IsTrue (is_value x) → ⊥) → IsOrder is_value leq
none_in_order is_value leq none = record {
  reflexive = λ x h. absurd (none x h);
  transitive = λ x y z h k l p q. absurd (none x h);
  antisymmetric = λ x y h k p q. absurd (none x h);
}

module _ (t : Types) where
  abbrev InOrder : Kind → Type 0
  InOrder k = IsOrder (fits t k) (leq t k)

  fin_in_order : (k : ℕ) (found : Option Poset) → slice_get t.posets k ≡ found → InOrder (kind.Fin k)
  fin_in_order k None e = none_in_order (fits t (kind.Fin k)) (leq t (kind.Fin k))
      (λ v h. let no : IsTrue (is_element None (out-Value v)) = ap (λ (o : Option Poset). is_element o (out-Value v)) (sym e) ∙ (sym (fits-Fin t k v) ∙ h) in cc)
  fin_in_order k (Some p) e =
      embedded_laws (finite.is_element p.order.table) (finite.is_below p.order.table) (fits t (kind.Fin k)) (leq t (kind.Fin k)) value.El (embeds-Fin t k p e) p.order.is_table.order

  up_in_order : (k : ℕ) (found : Option Poset) → slice_get t.posets k ≡ found → InOrder (kind.Up k)
  up_in_order k None e = none_in_order (fits t (kind.Up k)) (leq t (kind.Up k))
      (λ v h. let no : IsTrue (is_upper None (out-Value v)) = ap (λ (o : Option Poset). is_upper o (out-Value v)) (sym e) ∙ (sym (fits-Up t k v) ∙ h) in cc)
  up_in_order k (Some p) e =
      embedded_laws (upper.is_upper p.order.table) (upper.upper_leq p.order.table) (fits t (kind.Up k)) (leq t (kind.Up k)) value.Up (embeds-Up t k p e)
      (upper_laws p.order.table p.order.is_table.order)

  prod_in_order : (ks : List Kind) → IsOrder (row_fits t ks) (row_leq t ks) → InOrder (kind.Prod ks)
  prod_in_order ks h = embedded_laws (row_fits t ks) (row_leq t ks) (fits t (kind.Prod ks)) (leq t (kind.Prod ks)) value.Tup (embeds-Prod t ks) h

  abbrev Claimed : Type 0
  Claimed = (k : Kind) × InOrder k

  parts_in_order : (es : List Claimed) → IsOrder (row_fits t (map (λ e. e.0) es)) (row_leq t (map (λ e. e.0) es))
  parts_in_order es =
      rw (map-map (fits t) (λ (e : Claimed). e.0) es, map-map (leq t) (λ (e : Claimed). e.0) es)
      (tuple_laws (λ (e : Claimed). fits t e.0) (λ (e : Claimed). leq t e.0) (λ e. e.1) es)

  at : (y : Kind-F Claimed) → InOrder (roll-Kind (map-Kind Claimed Kind (λ e. e.0) y))
  at (Kind-F.Num dim) = subst InOrder (sym (kind.rolls-Num dim))
      (embedded_laws numbers.is_number numbers.number_leq (fits t (kind.Num dim)) (leq t (kind.Num dim)) number_value (embeds-Num t dim) numbers_laws.number_laws)
  at (Kind-F.Fin k) = subst InOrder (sym (kind.rolls-Fin k)) (fin_in_order k (slice_get t.posets k) refl)
  at (Kind-F.Prod es) = subst InOrder (sym (kind.rolls-Prod (map (λ e. e.0) es))) (prod_in_order (map (λ e. e.0) es) (parts_in_order es))
  at (Kind-F.Up k) = subst InOrder (sym (kind.rolls-Up k)) (up_in_order k (slice_get t.posets k) refl)

  pub kind_laws : (k : Kind) → IsOrder (fits t k) (leq t k)
  kind_laws = ind-Kind InOrder (λ x y is. subst (λ z. InOrder (roll-Kind z)) is (at y))

  pub row_laws : (ks : List Kind) → IsOrder (row_fits t ks) (row_leq t ks)
  row_laws ks = tuple_laws (fits t) (leq t) kind_laws ks
