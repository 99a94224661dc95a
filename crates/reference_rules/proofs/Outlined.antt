-- Ports that compare as the same are the same.
use Rattle.std.proofs.Common.{◌≡◌, ◌&&◌, IsTrue, refl, Bool, true, false, List, [], ◌∷◌}
use Rattle.std.proofs.lemmas.Slice.Eq.{bytes_eq-Decides}
use Rattle.std.specs.Str.{bytes_eq}
use Rattle.reference_rules.specs.Outlines.{Outline, Outlines, same_list, same_outline, same_outlines}
use Rattle.value_type.specs.SameForm.{same_kind}
use Rattle.value_type.specs.SameFormLaws.{same_kind_is}

left_of : (a b : Bool) → a && b ≡ true → a ≡ true
left_of true b e = refl
left_of false b e = absurd (cc)

right_of : (a b : Bool) → a && b ≡ true → b ≡ true
right_of true b e = e
right_of false b e = absurd (cc)

is_true : (b : Bool) → b ≡ true → IsTrue b
is_true true e = refl
is_true false e = absurd (cc)

outline_same : (a b : Outline) → same_outline a b ≡ true → a ≡ b
outline_same a b e =
    let name = (bytes_eq-Decides a.name b.name).0 (left_of (bytes_eq a.name b.name) (same_kind a.kind b.kind) e) in
    let kind = same_kind_is a.kind b.kind (is_true (same_kind a.kind b.kind) (right_of (bytes_eq a.name b.name) (same_kind a.kind b.kind) e)) in
    λ i. record { name = name i; kind = kind i }

list_same : (xs ys : List Outline) → same_list xs ys ≡ true → xs ≡ ys
list_same [] [] e = refl
list_same [] (y ∷ ys) e = absurd (cc)
list_same (x ∷ xs) [] e = absurd (cc)
list_same (x ∷ xs) (y ∷ ys) e =
    let head = outline_same x y (left_of (same_outline x y) (same_list xs ys) e) in
    let tail = list_same xs ys (right_of (same_outline x y) (same_list xs ys) e) in λ i. head i ∷ tail i

pub outlines_same : (a b : Outlines) → same_outlines a b ≡ true → a ≡ b
outlines_same a b e =
    let provides = list_same a.provides b.provides (left_of (same_list a.provides b.provides) (same_list a.requires_ b.requires_) e) in
    let requires_ = list_same a.requires_ b.requires_ (right_of (same_list a.provides b.provides) (same_list a.requires_ b.requires_) e) in
    λ i. record { provides = provides i; requires_ = requires_ i }
