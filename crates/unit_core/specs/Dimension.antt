-- Dimensions: six exponents.
use Rattle.std.specs.Prelude.{ℤ, pos, negsuc, ◌+ℤ◌, ◌-ℤ◌, Bool, ◌&&◌, int_le}
use Rattle.std.specs.Ordering.{int_eq}
use Rattle.unit_core.specs.declared.dim.Dim.{Dim}

abbrev pub dim_times : Dim → Dim → Dim
dim_times a b = record {
  mass = a.mass +ℤ b.mass;
  length = a.length +ℤ b.length;
  time = a.time +ℤ b.time;
  current = a.current +ℤ b.current;
  money = a.money +ℤ b.money;
  bits = a.bits +ℤ b.bits;
}

abbrev pub dim_over : Dim → Dim → Dim
dim_over a b = record {
  mass = a.mass -ℤ b.mass;
  length = a.length -ℤ b.length;
  time = a.time -ℤ b.time;
  current = a.current -ℤ b.current;
  money = a.money -ℤ b.money;
  bits = a.bits -ℤ b.bits;
}

-- from -9 to 9
unfoldable pub is_exponent : ℤ → Bool
is_exponent n = int_le (negsuc 8) n && int_le n (pos 9)

abbrev pub are_exponents : Dim → Bool
are_exponents d = is_exponent d.mass && (is_exponent d.length && (is_exponent d.time && (is_exponent d.current && (is_exponent d.money && is_exponent d.bits))))

-- each exponent is the other's
abbrev pub same_dim : Dim → Dim → Bool
same_dim a b =
    int_eq a.mass b.mass && (int_eq a.length b.length && (int_eq a.time b.time && (int_eq a.current b.current && (int_eq a.money b.money && int_eq a.bits b.bits))))
