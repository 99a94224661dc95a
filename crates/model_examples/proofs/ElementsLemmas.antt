-- Designs over one finite poset.
use Rattle.std.proofs.Common.{refl, sym, ap, ◌∙◌}
use Rattle.std.specs.Ordering.{nat_cmp}
use Rattle.std.specs.Prelude.{◌≡◌, ℕ, IsTrue}
use Rattle.model_examples.specs.Elements.{elements, types_over}
use Rattle.order_core.specs.Finite.{is_element, is_below}
use Rattle.value_type.specs.Fits.{fits}
use Rattle.value_type.specs.KindLaws.{embeds-Fin}
use Rattle.value_type.specs.Leq.{leq}
use Rattle.value_type.specs.PrintOrder.{value_cmp}
use Rattle.value_type.specs.declared.poset.Poset.{Poset}
use Rattle.value_type.specs.declared.value.Value.TheFolds.{fold_out-Value}
use Rattle.value_type.specs.declared.value.Value.TheVariants as value
use Rattle.value_type.specs.declared.value.Value.{Value}

module _ (p : Poset) where
  pub element_fits : (x : ℕ) → fits (types_over p) elements (value.El x) ≡ is_element p.order.table x
  element_fits x = (embeds-Fin (types_over p) 0 p refl).value x

  pub element_leq : (x y : ℕ) → leq (types_over p) elements (value.El x) (value.El y) ≡ is_below p.order.table x y
  element_leq x y = (embeds-Fin (types_over p) 0 p refl).order x y

  -- A value that fits is an element.
  pub record IsElement (v : Value) : Type 0 where
    pub element : ℕ
    pub value_is : v ≡ value.El element
    pub valid : IsTrue (is_element p.order.table element)

  pub as_element : (v : Value) → IsTrue (fits (types_over p) elements v) → IsElement v
  as_element v h =
      let x = (embeds-Fin (types_over p) 0 p refl).onto v h in
      record { element = x.0; value_is = x.1; valid = sym (element_fits x.0) ∙ (ap (fits (types_over p) elements) (sym x.1) ∙ h) }

pub elements_cmp : (x y : ℕ) → value_cmp (value.El x) (value.El y) ≡ nat_cmp x y
elements_cmp x y = rw (fold_out-Value, value.outs-El, value.outs-El) refl
