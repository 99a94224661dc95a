-- The two parts of a state.
use Rattle.std.specs.Prelude.{◌≡◌, ℕ, IsTrue, List, ◌++◌, map, length, take, drop}
use Rattle.std.proofs.Common.{subst}
use Rattle.std.proofs.lemmas.List.{length-map, take-append-drop}
use Rattle.value_type.specs.declared.kind.Kind.{Kind}
use Rattle.value_type.specs.declared.poset.Types.{Types}
use Rattle.value_type.specs.Fits.{row_fits}
use Rattle.value_type.specs.Leq.{row_leq}
use Rattle.value_type.specs.RowLaws.{fits_together, fits_apart, leq_together, leq_apart, taken, dropped}
use Rattle.design_model.specs.Cuts.{Signal}
use Rattle.design_model.specs.Rows.{Row}

module _ (t : Types) (signals : List Signal) where
  abbrev kinds : List Kind
  kinds = map (λ s. s.kind) signals

  many : length kinds ≡ length signals
  many = length-map signals (λ s. s.kind)

  pub split_fits : (own : List Kind) (xs : Row) → IsTrue (row_fits t (kinds ++ own) xs) → IsTrue (row_fits t kinds (take (length signals) xs)) × IsTrue (row_fits t own (drop (length signals) xs))
  split_fits own xs h = subst (λ (n : ℕ). IsTrue (row_fits t kinds (take n xs)) × IsTrue (row_fits t own (drop n xs))) many (fits_apart t kinds own xs h)

  pub split_leq : (own : List Kind) (xs ys : Row) → IsTrue (row_leq t (kinds ++ own) xs ys)
      → IsTrue (row_leq t kinds (take (length signals) xs) (take (length signals) ys)) × IsTrue (row_leq t own (drop (length signals) xs) (drop (length signals) ys))
  split_leq own xs ys h = subst (λ (n : ℕ). IsTrue (row_leq t kinds (take n xs) (take n ys)) × IsTrue (row_leq t own (drop n xs) (drop n ys))) many (leq_apart t kinds own xs ys h)

  pub join_fits : (own : List Kind) (xs ys : Row) → IsTrue (row_fits t kinds xs) → IsTrue (row_fits t own ys) → IsTrue (row_fits t (kinds ++ own) (xs ++ ys))
  join_fits own xs ys p q = fits_together t kinds own xs ys p q

  pub join_take : (xs ys : Row) → IsTrue (row_fits t kinds xs) → take (length signals) (xs ++ ys) ≡ xs
  join_take xs ys p = subst (λ (n : ℕ). take n (xs ++ ys) ≡ xs) many (taken t kinds xs ys p)

  pub join_drop : (xs ys : Row) → IsTrue (row_fits t kinds xs) → drop (length signals) (xs ++ ys) ≡ ys
  join_drop xs ys p = subst (λ (n : ℕ). drop n (xs ++ ys) ≡ ys) many (dropped t kinds xs ys p)

  -- A state with other own values is at least it where these are.
  pub own_leq : (own : List Kind) (xs ys : Row) → IsTrue (row_leq t kinds (take (length signals) xs) (take (length signals) xs))
      → IsTrue (row_fits t (kinds ++ own) xs) → IsTrue (row_leq t own (drop (length signals) xs) ys) → IsTrue (row_leq t (kinds ++ own) xs (take (length signals) xs ++ ys))
  own_leq own xs ys self p l =
      subst (λ (zs : Row). IsTrue (row_leq t (kinds ++ own) zs (take (length signals) xs ++ ys))) (take-append-drop (length signals) xs)
      (leq_together t kinds own (take (length signals) xs) (drop (length signals) xs) (take (length signals) xs) ys self l)
