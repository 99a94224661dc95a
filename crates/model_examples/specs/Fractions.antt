-- Fractions to scale by.
use Rattle.std.specs.Prelude.{ℕ, nat_lt, nat_le, IsTrue}
use Rattle.std.proofs.Common.{refl}
use Rattle.std.proofs.lemmas.Bool.{leb-true, ltb-true}
use Rattle.unit_core.specs.declared.fraction.Fraction.{Fraction}
use Rattle.unit_core.specs.GcdLaws.{gcd-one_left, gcd-one_right}
use Rattle.unit_core.specs.Range.{greatest_part}

-- one of so many equal parts
abbrev pub one_over : (den : ℕ) → IsTrue (nat_lt 0 den) → IsTrue (nat_le den greatest_part) → Fraction
one_over den whole in_range =
    record { num = 1; den = den; whole = ltb-true 0 den whole; reduced = gcd-one_left den; num_in_range = leb-true 1 greatest_part refl; den_in_range = leb-true den greatest_part in_range }

-- so many times
abbrev pub times : (num : ℕ) → IsTrue (nat_le num greatest_part) → Fraction
times num in_range =
    record { num = num; den = 1; whole = ltb-true 0 1 refl; reduced = gcd-one_right num; num_in_range = leb-true num greatest_part in_range; den_in_range = leb-true 1 greatest_part refl }
