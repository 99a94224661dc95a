-- Constants have meanings exactly where they have no faults, and are exact.
use Rattle.std.proofs.Common.{◌≡◌, ◌∙◌, ◌*◌, ◌<◌, ◌≤◌, ℕ, Bool, true, false, [], ◌++◌, refl, sym, ap, subst, arith}
use Rattle.std.proofs.Math.Nat.{eq_of_mul-eq-mul_left}
use Rattle.std.proofs.lemmas.Bool.Decides.{nat_tests}
use Rattle.std.specs.Prelude.{cond, ◌^◌, Option, Some, None, Result, Ok, Err, option_and_then, option_map, unwrap_or}
use Rattle.design_lexer.specs.declared.tree.ConstantTree.{ConstantTree}
use Rattle.fault_list.specs.Faults.{fault_unless, faults_in}
use Rattle.fault_list.specs.declared.fault.Fault.{Fault}
use Rattle.fault_list.specs.declared.fault.FaultKind.TheVariants.{Exponent}
use Rattle.tree_units.specs.Constants.{IsConstant, IsProduct, constant_faults, constant_in, constant_of, dim_product, divisor_of, fraction_faults, fraction_product, of_dimension, product_faults, product_of, quotient_of, size_faults}
use Rattle.tree_units.specs.Units.{measure_of}
use Rattle.tree_units.specs.declared.constant.Constant.{Constant}
use Rattle.unit_core.specs.Dimension.{are_exponents, dim_times}
use Rattle.unit_core.specs.FractionLaws.{ratio_again}
use Rattle.unit_core.specs.Fractions.{fraction_if, fraction_of}
use Rattle.unit_core.specs.InRange.{is_fraction}
use Rattle.unit_core.specs.Measure.{Measure}
use Rattle.unit_core.specs.Ratio.{IsInLowestTerms, Ratio, greatest_part, quotient, ratio, times_ratio}
use Rattle.unit_core.specs.RatioLaws.{lowest_is, quotient_ok}
use Rattle.unit_core.specs.declared.dim.Dim.{Dim}
use Rattle.unit_core.specs.declared.fault.FractionFault.{FractionFault}
use Rattle.unit_core.specs.declared.fraction.Fraction.{Fraction}

fraction_there : (r : Ratio) → is_fraction r ≡ true → (f : Fraction) × (fraction_of r ≡ Some f)
fraction_there r h = go (is_fraction r) refl h
  where
    go : (b : Bool) (e : is_fraction r ≡ b) → b ≡ true → (f : Fraction) × (fraction_if r b e ≡ Some f)
    go true e k = (_, refl)
    go false e k = absurd (cc)

is_lowest : (a b : ℕ) (r : Ratio) → quotient a b ≡ Ok r → IsInLowestTerms a b r
is_lowest a b r e = let k = quotient_ok a b r (sym e) in subst (λ (q : Ratio). IsInLowestTerms a b q) (sym k.1) (lowest_is a b k.0)

-- A quotient that is in range is a fraction's ratio.
quotient_there : (a b : ℕ) (r : Ratio) → quotient a b ≡ Ok r → (f : Fraction) × (fraction_of r ≡ Some f)
quotient_there a b r e = fraction_there r (passes (is_lowest a b r e) (quotient_ok a b r (sym e)).2 (quotient_ok a b r (sym e)).3)
  where
    passes : IsInLowestTerms a b r → r.num ≤ greatest_part → r.den ≤ greatest_part → is_fraction r ≡ true
    passes l n d = let whole = l.whole in let reduced = l.reduced in grind (arith, nat_tests)

product_there : (x y r : Ratio) → times_ratio x y ≡ Ok r → (f : Fraction) × (fraction_of r ≡ Some f)
unfolding times_ratio
product_there x y r e = quotient_there (x.num * y.num) (x.den * y.den) r e

product_is : (x y r : Ratio) → times_ratio x y ≡ Ok r → IsInLowestTerms (x.num * y.num) (x.den * y.den) r
unfolding times_ratio
product_is x y r e = is_lowest (x.num * y.num) (x.den * y.den) r e

abbrev constant : Dim → Fraction → Constant
constant dim f = record { dim = dim; fraction = f }

dimension_there : (at : ℕ) (dim : Dim) (x y : Ratio) → fraction_faults at (times_ratio x y) ≡ [] → (k : Constant) × (of_dimension dim (times_ratio x y) ≡ Some k)
dimension_there at dim x y h = go (times_ratio x y) refl h
  where
    go : (z : Result Ratio FractionFault) → times_ratio x y ≡ z → fraction_faults at z ≡ [] → (k : Constant) × (of_dimension dim z ≡ Some k)
    go (Ok r) e k = let there = product_there x y r e in (constant dim there.0, ap (option_map (constant dim)) there.1)
    go (Err fault) e k = absurd (cc)

dimension_faultless : (at : ℕ) (dim : Dim) (z : Result Ratio FractionFault) (k : Constant) → of_dimension dim z ≡ Some k → fraction_faults at z ≡ []
dimension_faultless at dim (Ok r) k h = refl
dimension_faultless at dim (Err fault) k h = absurd (cc)

-- No fault, so a meaning; and a meaning, so no fault.
pub constant_meaning : (c : ConstantTree) → constant_faults c ≡ [] → (k : Constant) × (constant_of c ≡ Some k)
constant_meaning c h = go (quotient_of c) (measure_of c.at c.unit) h
  where
    go : (q : Result Ratio FractionFault) (u : Result Measure Fault) → fraction_faults c.at q ++ faults_in u ++ size_faults c.at q u ≡ [] → (k : Constant) × (constant_in q u ≡ Some k)
    go (Ok q) (Ok u) k = dimension_there c.at u.dim q u.size k
    go (Ok q) (Err fault) k = absurd (cc)
    go (Err fault) u k = absurd (cc)

pub product_meaning : (at : ℕ) (a b : Constant) → product_faults at a b ≡ [] → (k : Constant) × (product_of a b ≡ Some k)
product_meaning at a b h = go (dim_product a.dim b.dim) h
  where
    go : (d : Option Dim) → fault_unless d (record { kind = Exponent; at = at }) ++ fraction_faults at (fraction_product a b) ≡ [] → (k : Constant) × (option_and_then (λ dim. of_dimension dim (fraction_product a b)) d ≡ Some k)
    go (Some dim) k = dimension_there at dim (ratio a.fraction) (ratio b.fraction) k
    go None k = absurd (cc)

pub constant_faultless : (c : ConstantTree) (k : Constant) → constant_of c ≡ Some k → constant_faults c ≡ []
constant_faultless c k h = go (quotient_of c) (measure_of c.at c.unit) h
  where
    go : (q : Result Ratio FractionFault) (u : Result Measure Fault) → constant_in q u ≡ Some k → fraction_faults c.at q ++ faults_in u ++ size_faults c.at q u ≡ []
    go (Ok q) (Ok u) m = dimension_faultless c.at u.dim (times_ratio q u.size) k m
    go (Ok q) (Err fault) m = absurd (cc)
    go (Err fault) u m = absurd (cc)

pub product_faultless : (at : ℕ) (a b k : Constant) → product_of a b ≡ Some k → product_faults at a b ≡ []
product_faultless at a b k h = go (dim_product a.dim b.dim) h
  where
    go : (d : Option Dim) → option_and_then (λ dim. of_dimension dim (fraction_product a b)) d ≡ Some k → fault_unless d (record { kind = Exponent; at = at }) ++ fraction_faults at (fraction_product a b) ≡ []
    go (Some dim) m = dimension_faultless at dim (fraction_product a b) k m
    go None m = absurd (cc)

-- A quotient n/d of a by b, times s/t.
scaled : (a b n d s t k l : ℕ) → n * b ≡ a * d → 0 < d → k * (d * t) ≡ n * s * l → k * (b * t) ≡ a * s * l
scaled a b n d s t k l e p f =
    let forth : d * (k * (b * t)) ≡ b * (k * (d * t)) = omega arith in
    let turned : b * (n * s * l) ≡ n * b * (s * l) = omega arith in
    let back : a * d * (s * l) ≡ d * (a * s * l) = omega arith in
    eq_of_mul-eq-mul_left d p (k * (b * t)) (a * s * l) (forth ∙ (ap (λ v. b * v) f ∙ (turned ∙ (ap (λ v. v * (s * l)) e ∙ back))))

-- What a constant is that is so much of the dimension.
dimension_is : (dim : Dim) (x y : Ratio) (k : Constant) → of_dimension dim (times_ratio x y) ≡ Some k → (k.dim ≡ dim) × IsInLowestTerms (x.num * y.num) (x.den * y.den) (ratio k.fraction)
dimension_is dim x y k h = go (times_ratio x y) refl h
  where
    go : (z : Result Ratio FractionFault) → times_ratio x y ≡ z → of_dimension dim z ≡ Some k → (k.dim ≡ dim) × IsInLowestTerms (x.num * y.num) (x.den * y.den) (ratio k.fraction)
    go (Err fault) e m = absurd (cc)
    go (Ok r) e m = at (fraction_of r) refl m
      where
        at : (o : Option Fraction) → fraction_of r ≡ o → option_map (constant dim) o ≡ Some k → (k.dim ≡ dim) × IsInLowestTerms (x.num * y.num) (x.den * y.den) (ratio k.fraction)
        at None i n = absurd (cc)
        at (Some f) i n =
            let same : k ≡ constant dim f = ap (λ (o : Option Constant). unwrap_or o k) (sym n) in
            let there : ratio k.fraction ≡ r = ap (λ (q : Constant). ratio q.fraction) same ∙ ratio_again r f i in
            (ap (λ (q : Constant). q.dim) same, subst (λ (q : Ratio). IsInLowestTerms (x.num * y.num) (x.den * y.den) q) (sym there) (product_is x y r e))

pub constant_exact : (c : ConstantTree) (k : Constant) → constant_of c ≡ Some k → IsConstant c k
constant_exact c k h = go (quotient_of c) refl (measure_of c.at c.unit) refl h
  where
    go : (q : Result Ratio FractionFault) → quotient_of c ≡ q → (u : Result Measure Fault) → measure_of c.at c.unit ≡ u → constant_in q u ≡ Some k → IsConstant c k
    go (Err fault) e u f m = absurd (cc)
    go (Ok q) e (Err fault) f m = absurd (cc)
    go (Ok q) e (Ok u) f m =
        let is = dimension_is u.dim q u.size k m in
        let written = is_lowest (c.over.digits * 10 ^ (divisor_of c.under).decimals) ((divisor_of c.under).digits * 10 ^ c.over.decimals) q e in
        record { unit = u; unit_is = f; dim = is.0; exact = scaled _ _ q.num q.den u.size.num u.size.den k.fraction.num k.fraction.den written.same written.whole is.1.same }

pub product_exact : (a b k : Constant) → product_of a b ≡ Some k → IsProduct a b k
product_exact a b k h = go (are_exponents (dim_times a.dim b.dim)) h
  where
    go : (t : Bool) → option_and_then (λ dim. of_dimension dim (fraction_product a b)) (cond t (Some (dim_times a.dim b.dim)) None) ≡ Some k → IsProduct a b k
    go false m = absurd (cc)
    go true m = let is = dimension_is (dim_times a.dim b.dim) (ratio a.fraction) (ratio b.fraction) k m in record { dim = is.0; exact = is.1.same }
