-- What is scaled is a number, and is the greater the greater it was.
use Rattle.std.specs.Prelude.{◌≡◌, ◌<◌, ◌≤◌, ◌*◌, ◌==◌, ℕ, Bool, true, false, cond, IsTrue}
use Rattle.std.proofs.Common.{refl, subst, sym, arith}
use Rattle.std.proofs.Math.Nat.{div-eq_of_lt, mul-le-mul_left}
use Rattle.std.proofs.lemmas.Bool.{leb-true, eqb-true}
use Rattle.order_core.specs.declared.num.Num.{Num}
use Rattle.order_core.specs.declared.num.Num.TheVariants.{Count, Top}
use Rattle.order_core.specs.Num.{is_number, number_leq, count_or_top}
use Rattle.order_core.specs.NumLaws.{count_or_top_number, count_or_top_monotone, leq_top}
use Rattle.unit_core.specs.Ratio.{Ratio}
use Rattle.unit_core.specs.Rounding.{ceiling}
use Rattle.unit_core.specs.RoundingLaws.{ceiling_is}
use Rattle.value_type.specs.Scale.{scaled}

pub scaled_number : (by : Ratio) (x : Num) → IsTrue (is_number (scaled by x))
scaled_number by (Count a) = count_or_top_number (ceiling (by.num * a) by.den)
scaled_number by Top = go (by.num == 0)
  where
    go : (b : Bool) → IsTrue (is_number (cond b (Count 0) Top))
    go true = refl
    go false = refl

ceiling_rises : (a b d : ℕ) → 0 < d → a ≤ b → ceiling a d ≤ ceiling b d
ceiling_rises a b d p l = let up = ceiling_is a d p in let more = ceiling_is b d p in up.1 (ceiling b d) (omega arith)

pub scaled_monotone : (by : Ratio) (x y : Num) → 0 < by.den → IsTrue (number_leq x y) → IsTrue (number_leq (scaled by x) (scaled by y))
scaled_monotone by (Count a) (Count b) p h =
    count_or_top_monotone (ceiling (by.num * a) by.den) (ceiling (by.num * b) by.den)
    (ceiling_rises (by.num * a) (by.num * b) by.den p (mul-le-mul_left by.num (leb-true a b h)))
scaled_monotone by (Count a) Top p h = go (by.num == 0) refl
  where
    go : (b : Bool) → by.num == 0 ≡ b → IsTrue (number_leq (scaled by (Count a)) (cond b (Count 0) Top))
    go true e =
        let none : by.num ≡ 0 = eqb-true by.num 0 e in
        let nothing : ceiling (0 * a) by.den ≡ 0 = div-eq_of_lt (omega arith) in
        subst (λ (n : ℕ). IsTrue (number_leq (count_or_top (ceiling (n * a) by.den)) (Count 0))) (sym none) (rw nothing refl)
    go false e = leq_top (scaled by (Count a))
scaled_monotone by Top (Count b) p h = absurd (cc)
scaled_monotone by Top Top p h = go (by.num == 0)
  where
    go : (b : Bool) → IsTrue (number_leq (cond b (Count 0) Top) (cond b (Count 0) Top))
    go true = refl
    go false = refl
