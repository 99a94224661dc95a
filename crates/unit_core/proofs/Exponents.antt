-- Six exponents in range, as eight-bit numbers.
use Rattle.std.proofs.Common.{◌≡◌, ℤ, true, cond, arith, Some, None, to_z, of_z, w8}
use Rattle.std.proofs.lemmas.Int.{ints}
use Rattle.unit_core.specs.declared.dim.Dim.{Dim}
use Rattle.unit_core.specs.Dimension.{are_exponents, is_exponent}

-- The test passes, and this is the exponent.
abbrev pub Kept : ℤ → ℤ → Type 0
Kept n m = (is_exponent n ≡ true) × (m ≡ n)

stored : (n m : ℤ) → Kept n m → to_z w8 (of_z w8 m) ≡ n
unfolding is_exponent
stored n m k = grind (arith, ints)

pub all_kept : (d : Dim) (mass length time current money bits : ℤ)
    → Kept d.mass mass → Kept d.length length → Kept d.time time → Kept d.current current → Kept d.money money → Kept d.bits bits
    → Some (let made : Dim = record {
      mass = to_z w8 (of_z w8 mass);
      length = to_z w8 (of_z w8 length);
      time = to_z w8 (of_z w8 time);
      current = to_z w8 (of_z w8 current);
      money = to_z w8 (of_z w8 money);
      bits = to_z w8 (of_z w8 bits);
    } in made)
    ≡ cond (are_exponents d) (Some d) None
all_kept d mass length time current money bits p q r s t u =
    rw (
      stored d.mass mass p,
      stored d.length length q,
      stored d.time time r,
      stored d.current current s,
      stored d.money money t,
      stored d.bits bits u,
      p.0,
      q.0,
      r.0,
      s.0,
      t.0,
      u.0,
    )
