-- What the test of a fraction says of each part.
use Rattle.std.specs.Prelude.{◌≡◌, ◌<◌, ◌≤◌, true}
use Rattle.std.proofs.Common.{arith}
use Rattle.std.proofs.lemmas.Bool.Decides.{nat_tests}
use Rattle.unit_core.specs.Gcd.{gcd}
use Rattle.unit_core.specs.InRange.{is_fraction}
use Rattle.unit_core.specs.Range.{greatest_part}
use Rattle.unit_core.specs.Ratio.{Ratio}

pub whole : (r : Ratio) → is_fraction r ≡ true → 0 < r.den
whole r e = grind (arith, nat_tests)

pub reduced : (r : Ratio) → is_fraction r ≡ true → gcd r.num r.den ≡ 1
reduced r e = grind (arith, nat_tests)

pub num_in_range : (r : Ratio) → is_fraction r ≡ true → r.num ≤ greatest_part
num_in_range r e = grind (arith, nat_tests)

pub den_in_range : (r : Ratio) → is_fraction r ≡ true → r.den ≤ greatest_part
den_in_range r e = grind (arith, nat_tests)
