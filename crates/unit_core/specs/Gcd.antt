-- The greatest common divisor, by Euclid's steps.
use Rattle.std.specs.Prelude.{ℕ, zero, suc, ◌%◌}

-- At most n times, a and b become b and the remainder of a by b. Zero ends it.
unfoldable pub gcd_within : ℕ → ℕ → ℕ → ℕ
gcd_within zero a b = a
gcd_within (suc n) a zero = a
gcd_within (suc n) a (suc b) = gcd_within n (suc b) (a % suc b)

-- Each step makes b less, so b steps are enough.
unfoldable pub gcd : ℕ → ℕ → ℕ
gcd a b = gcd_within b a b
