use Rattle.std.proofs.Common.{◌*◌, ap, refl, arith}
use Rattle.std.proofs.lemmas.Bool.Decides.{nat_tests}
use Rattle.order_core.specs.Num.{count_or_top}
use Rattle.unit_core.specs.RoundingLaws.{IsRoundedUp_only, ceiling_is}
use Rattle.unit_core.specs.Rounding.{ceiling}
use Rattle.value_type.proofs.laws.scaling_is_exact.Goals as goal

pub returns-clause-zero : goal.returns-clause-zero
returns-clause-zero c = λ by e. rw e refl

pub returns-clause-top : goal.returns-clause-top
returns-clause-top c = λ by h. grind (arith, nat_tests, h)

pub returns-clause-counts : goal.returns-clause-counts
returns-clause-counts c = λ by x y p h. ap count_or_top (IsRoundedUp_only (by.num * x) by.den (ceiling (by.num * x) by.den) y (ceiling_is (by.num * x) by.den p) h)
