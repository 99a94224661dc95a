-- The test of equal dimensions.
use Rattle.std.specs.Prelude.{◌≡◌, ◌&&◌, ℤ, Bool, IsTrue}
use Rattle.std.specs.Ordering.{int_eq}
use Rattle.std.specs.Cmp.{signed_Decides}
use Rattle.std.proofs.Common.{refl, arith}
use Rattle.unit_core.specs.declared.dim.Dim.{Dim}
use Rattle.unit_core.specs.Dimension.{same_dim}
use Rattle.std.proofs.lemmas.Bool.{and_parts, and_from}

same : (x y : ℤ) → IsTrue (int_eq x y) → x ≡ y
same x y = (signed_Decides x y).0

itself : (x : ℤ) → IsTrue (int_eq x x)
itself x = (signed_Decides x x).1 refl

pub same_dim_is : (a b : Dim) → IsTrue (same_dim a b) → a ≡ b
same_dim_is a b h =
    let from_length = (and_parts (int_eq a.mass b.mass) _ h).1 in
    let from_time = (and_parts (int_eq a.length b.length) _ from_length).1 in
    let from_current = (and_parts (int_eq a.time b.time) _ from_time).1 in
    let from_money = (and_parts (int_eq a.current b.current) _ from_current).1 in
    let mass = same a.mass b.mass (and_parts _ _ h).0 in
    let length = same a.length b.length (and_parts _ _ from_length).0 in
    let time = same a.time b.time (and_parts _ _ from_time).0 in
    let current = same a.current b.current (and_parts _ _ from_current).0 in
    let money = same a.money b.money (and_parts _ _ from_money).0 in
    let bits = same a.bits b.bits (and_parts (int_eq a.money b.money) _ from_money).1 in
    λ i. record { mass = mass i; length = length i; time = time i; current = current i; money = money i; bits = bits i }

pub same_dim_itself : (a : Dim) → IsTrue (same_dim a a)
same_dim_itself a = and_from _ _ (itself a.mass) (and_from _ _ (itself a.length) (and_from _ _ (itself a.time) (and_from _ _ (itself a.current) (and_from _ _ (itself a.money) (itself a.bits)))))
