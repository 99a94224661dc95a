-- Depth and size as far as limits tell them apart.
use Rattle.std.specs.Prelude.{ℕ, zero, suc, ◌+◌, ◌*◌, min, max}
use Rattle.design_measure.specs.Scales.{Measure, Scale}

-- counts up to a limit
abbrev pub counts : ℕ → Scale
counts limit = record { plus = λ x y. min (x + y) limit; times = λ x y. min (x * y) limit }

-- the size, as far as the limit
abbrev pub sizes_to : ℕ → Measure
sizes_to limit = record { scale = counts limit; catalogue = λ n. min (1 + n) limit; choice = 1; net = λ n. 1 + n; step = 1 }

-- A depth that is there is one more than 0; two of them go together as their sum.
abbrev pub deepen : ℕ → ℕ → ℕ → ℕ
deepen limit zero y = 0
deepen limit (suc x) zero = 0
deepen limit (suc x) (suc y) = min (suc (x + y)) limit

-- depths up to a limit, where 0 stands for no depth at all, and each other number for the depth below it
abbrev pub depths_up_to : ℕ → Scale
depths_up_to limit = record { plus = λ x y. min (max x y) limit; times = deepen limit }

-- one more than the depth, as far as the limit
abbrev pub depths_to : ℕ → Measure
depths_to limit = record { scale = depths_up_to limit; catalogue = λ n. min 2 limit; choice = 2; net = λ n. 2; step = 2 }
