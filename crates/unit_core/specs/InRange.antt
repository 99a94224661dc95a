-- Ratios that are fractions.
use Rattle.std.specs.Prelude.{Bool, ◌&&◌, nat_eq, nat_le, nat_lt}
use Rattle.unit_core.specs.Gcd.{gcd}
use Rattle.unit_core.specs.Range.{greatest_part}
use Rattle.unit_core.specs.Ratio.{Ratio}

-- in lowest terms, both parts in range
abbrev pub is_fraction : Ratio → Bool
is_fraction r = nat_lt 0 r.den && (nat_eq (gcd r.num r.den) 1 && (nat_le r.num greatest_part && nat_le r.den greatest_part))
