-- The range of fractions.
use Rattle.std.specs.Prelude.{ℕ, ◌^◌}

-- the greatest numerator and denominator, ten to the nineteenth
abbrev pub greatest_part : ℕ
greatest_part = 10 ^ 19
