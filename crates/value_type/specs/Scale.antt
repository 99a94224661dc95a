-- Scaling a number by a fraction, rounded up.
use Rattle.std.specs.Prelude.{◌*◌, ◌==◌, cond}
use Rattle.order_core.specs.declared.num.Num.{Num}
use Rattle.order_core.specs.declared.num.Num.TheVariants.{Count, Top}
use Rattle.order_core.specs.Num.{count_or_top}
use Rattle.unit_core.specs.Ratio.{Ratio}
use Rattle.unit_core.specs.Rounding.{ceiling}

-- For a count x, the least whole count y with den * y at least num * x, or Top where that is too great. Of Top, zero where the fraction is zero, and Top otherwise.
abbrev pub scaled : Ratio → Num → Num
scaled by (Count x) = count_or_top (ceiling (by.num * x) by.den)
scaled by Top = cond (by.num == 0) (Count 0) Top
