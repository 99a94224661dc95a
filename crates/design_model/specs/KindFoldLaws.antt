-- What each test that goes by a type comes to at each form of type.
use Rattle.std.proofs.Common.{refl}
use Rattle.std.specs.Prelude.{◌≡◌, ℕ, ◌-◌, is_some, List, map, Option, option_map, slice_get}
use Rattle.design_model.specs.Heights.{height, part_heights, count_numbers, sum_all, size}
use Rattle.design_model.specs.Typed.{is_known}
use Rattle.unit_core.specs.declared.dim.Dim.{Dim}
use Rattle.value_type.specs.declared.kind.Kind.TheFolds.{fold_out-Kind}
use Rattle.value_type.specs.declared.kind.Kind.TheVariants as kind
use Rattle.value_type.specs.declared.kind.Kind.{Kind}
use Rattle.value_type.specs.declared.poset.Types.{Types}
use Rattle.value_type.specs.declared.value.Value.{Value}

pub known-Fin : (t : Types) (k : ℕ) → is_known t (kind.Fin k) ≡ is_some (slice_get t.posets k)
known-Fin t k = rw (fold_out-Kind, kind.outs-Fin) refl

pub height-Num : (t : Types) (dim : Dim) (values : Option (List Value)) → height t (kind.Num dim) values ≡ option_map count_numbers values
height-Num t dim values = rw (fold_out-Kind, kind.outs-Num) refl

pub height-Fin : (t : Types) (k : ℕ) (values : Option (List Value)) → height t (kind.Fin k) values ≡ option_map (λ p. size p - 1) (slice_get t.posets k)
height-Fin t k values = rw (fold_out-Kind, kind.outs-Fin) refl

pub height-Prod : (t : Types) (ks : List Kind) (values : Option (List Value)) → height t (kind.Prod ks) values ≡ sum_all (part_heights 0 (map (height t) ks) values)
height-Prod t ks values = rw (fold_out-Kind, kind.outs-Prod) refl

pub height-Up : (t : Types) (k : ℕ) (values : Option (List Value)) → height t (kind.Up k) values ≡ option_map size (slice_get t.posets k)
height-Up t k values = rw (fold_out-Kind, kind.outs-Up) refl
