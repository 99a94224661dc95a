-- What each test that goes by a type comes to at each form of type.
use Rattle.std.proofs.Common.{refl, ap}
use Rattle.std.specs.List.{list_all}
use Rattle.std.specs.Prelude.{◌≡◌, ℕ, true, ◌&&◌, is_some, List, [], ◌∷◌, map, slice_get}
use Rattle.design_model.specs.Typed.{is_known}
use Rattle.unit_core.specs.declared.dim.Dim.{Dim}
use Rattle.value_type.specs.declared.kind.Kind.TheFolds.{fold_out-Kind}
use Rattle.value_type.specs.declared.kind.Kind.TheVariants as kind
use Rattle.value_type.specs.declared.kind.Kind.{Kind}
use Rattle.value_type.specs.declared.poset.Types.{Types}

pub known-Num : (t : Types) (dim : Dim) → is_known t (kind.Num dim) ≡ true
known-Num t dim = rw (fold_out-Kind, kind.outs-Num) refl

all_parts : (t : Types) (ks : List Kind) → list_all (λ part. part) (map (is_known t) ks) ≡ list_all (is_known t) ks
all_parts t [] = refl
all_parts t (k ∷ ks) = ap (λ b. is_known t k && b) (all_parts t ks)

pub known-Prod : (t : Types) (ks : List Kind) → is_known t (kind.Prod ks) ≡ list_all (is_known t) ks
known-Prod t ks = rw (fold_out-Kind, kind.outs-Prod) (all_parts t ks)

pub known-Up : (t : Types) (k : ℕ) → is_known t (kind.Up k) ≡ is_some (slice_get t.posets k)
known-Up t k = rw (fold_out-Kind, kind.outs-Up) refl
