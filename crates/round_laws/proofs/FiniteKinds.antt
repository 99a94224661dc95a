-- Each type has finitely many values.
use Rattle.std.specs.Prelude.{◌≡◌, ℕ, IsTrue, List, Option, Some, None, slice_get}
use Rattle.std.proofs.Common.{refl, sym, ap, ◌∙◌}
use Rattle.order_core.specs.Finite as finite
use Rattle.order_core.specs.Num as numbers
use Rattle.order_core.specs.Pointwise.{Each}
use Rattle.order_core.specs.PointwiseLaws.{each_made}
use Rattle.order_core.specs.Upper as upper
use Rattle.unit_core.specs.declared.dim.Dim.{Dim}
use Rattle.value_type.specs.declared.kind.Kind.{Kind}
use Rattle.value_type.specs.declared.kind.Kind.TheVariants as kind
use Rattle.value_type.specs.declared.poset.Poset.{Poset}
use Rattle.value_type.specs.declared.poset.Types.{Types}
use Rattle.value_type.specs.declared.value.Value.{out-Value}
use Rattle.value_type.specs.declared.value.Value.TheVariants as value
use Rattle.value_type.specs.Fits.{fits, is_element, is_upper, row_fits}
use Rattle.value_type.specs.Leq.{leq, row_leq}
use Rattle.value_type.specs.Forms.{number_value}
use Rattle.value_type.specs.KindLaws.{fits-Fin, fits-Up, embeds-Num, embeds-Fin, embeds-Up, embeds-Prod}
use Rattle.round_laws.proofs.FiniteValues.{IsFinite, finite_elements, finite_numbers, finite_upper_sets, finite_none, finite_images, finite_tuples}
use Rattle.round_laws.proofs.KindInduction.{for_each_kind}

module _ (t : Types) where
  abbrev HasFew : Kind → Type 0
  HasFew k = IsFinite (fits t k)

  few_numbers : (dim : Dim) → HasFew (kind.Num dim)
  few_numbers dim = finite_images numbers.is_number numbers.number_leq (fits t (kind.Num dim)) (leq t (kind.Num dim)) number_value (embeds-Num t dim) finite_numbers

  -- A poset that isn't there has no elements and no upper sets.
  few_elements : (k : ℕ) (found : Option Poset) → slice_get t.posets k ≡ found → HasFew (kind.Fin k)
  few_elements k None e = finite_none (fits t (kind.Fin k))
      (λ v h. let none : IsTrue (is_element None (out-Value v)) = ap (λ (o : Option Poset). is_element o (out-Value v)) (sym e) ∙ (sym (fits-Fin t k v) ∙ h) in cc)
  few_elements k (Some p) e =
      finite_images (finite.is_element p.order.table) (finite.is_below p.order.table) (fits t (kind.Fin k)) (leq t (kind.Fin k)) value.El (embeds-Fin t k p e) (finite_elements _)

  few_upper_sets : (k : ℕ) (found : Option Poset) → slice_get t.posets k ≡ found → HasFew (kind.Up k)
  few_upper_sets k None e = finite_none (fits t (kind.Up k))
      (λ v h. let none : IsTrue (is_upper None (out-Value v)) = ap (λ (o : Option Poset). is_upper o (out-Value v)) (sym e) ∙ (sym (fits-Up t k v) ∙ h) in cc)
  few_upper_sets k (Some p) e =
      finite_images (upper.is_upper p.order.table) (upper.upper_leq p.order.table) (fits t (kind.Up k)) (leq t (kind.Up k)) value.Up (embeds-Up t k p e) (finite_upper_sets p.order.table)

  few_tuples : (ks : List Kind) → Each HasFew ks → HasFew (kind.Prod ks)
  few_tuples ks each = finite_images (row_fits t ks) (row_leq t ks) (fits t (kind.Prod ks)) (leq t (kind.Prod ks)) value.Tup (embeds-Prod t ks) (finite_tuples (fits t) ks each)

  finite_kind : (k : Kind) → HasFew k
  finite_kind = for_each_kind HasFew few_numbers (λ k. few_elements k (slice_get t.posets k) refl) few_tuples (λ k. few_upper_sets k (slice_get t.posets k) refl)

  pub finite_rows : (ks : List Kind) → IsFinite (row_fits t ks)
  finite_rows ks = finite_tuples (fits t) ks (each_made HasFew ks (λ k m. finite_kind k))
