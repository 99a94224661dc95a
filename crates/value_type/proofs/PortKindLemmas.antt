-- The types of ports.
use Rattle.std.proofs.Common.{sym, ◌∙◌}
use Rattle.std.proofs.lemmas.List.{length-map}
use Rattle.std.specs.Prelude.{◌≡◌, ◌≢◌, false, IsTrue, List, length}
use Rattle.order_core.specs.PartnerLaws.{are_values_length, are_values_unequal, unequal_lower, unequal_upper}
use Rattle.value_type.specs.Fits.{fits, row_fits}
use Rattle.value_type.specs.Leq.{leq, row_leq}
use Rattle.value_type.specs.PortKinds.{port_kinds}
use Rattle.value_type.specs.declared.port.Port.{Port}
use Rattle.value_type.specs.declared.poset.Types.{Types}
use Rattle.value_type.specs.declared.value.Value.{Value}

pub fits_unequal : (t : Types) (ports : List Port) (values : List Value) → length ports ≢ length values → row_fits t (port_kinds ports) values ≡ false
fits_unequal t ports values h = are_values_unequal (fits t) (port_kinds ports) values (λ e. h (sym (length-map ports (λ port. port.kind)) ∙ e))

pub fits_length : (t : Types) (ports : List Port) (values : List Value) → IsTrue (row_fits t (port_kinds ports) values) → length ports ≡ length values
fits_length t ports values h = sym (length-map ports (λ port. port.kind)) ∙ are_values_length (fits t) (port_kinds ports) values h

pub lower_unequal : (t : Types) (ports : List Port) (xs ys : List Value) → length ports ≢ length xs → row_leq t (port_kinds ports) xs ys ≡ false
lower_unequal t ports xs ys h = unequal_lower (leq t) (port_kinds ports) xs ys (λ e. h (sym (length-map ports (λ port. port.kind)) ∙ e))

pub upper_unequal : (t : Types) (ports : List Port) (xs ys : List Value) → length ports ≢ length ys → row_leq t (port_kinds ports) xs ys ≡ false
upper_unequal t ports xs ys h = unequal_upper (leq t) (port_kinds ports) xs ys (λ e. h (sym (length-map ports (λ port. port.kind)) ∙ e))
