use Rattle.std.proofs.Common.{◌≡◌, ◌+◌, ◌/◌, ◌%◌, ◌<◌, ℕ, min, ◌∙◌, ap, arith}
use Rattle.std.proofs.lemmas.Grind.{common_steps}
use Rattle.order_core.specs.Num.{count_or_top}
use Rattle.unit_core.specs.Rounding.{ceiling}
use Rattle.value_type.proofs.scaling.scale.Goals as goal

ceiling_by_remainder : (a d : ℕ) → 0 < d → a / d + min 1 (a % d) ≡ ceiling a d
ceiling_by_remainder a d p = grind (arith, common_steps)

pub returns-in-Count : goal.returns-in-Count
returns-in-Count c =
    rw c.in-Count.is (c.count_or_top.ensures ∙ ap count_or_top (c.div_ceil.ensures ∙ ceiling_by_remainder _ _ c.args.by.whole))
