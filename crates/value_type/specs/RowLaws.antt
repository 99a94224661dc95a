-- Rows of the types of one list and then of another.
use Rattle.std.specs.Prelude.{◌≡◌, ◌&&◌, IsTrue, List, [], ◌∷◌, ◌++◌, length, take, drop}
use Rattle.std.proofs.Common.{refl, sym, ap, ◌∙◌}
use Rattle.std.proofs.Math.Bool.{and_assoc}
use Rattle.order_core.specs.MemberLaws.{first, second, both}
use Rattle.value_type.specs.declared.kind.Kind.{Kind}
use Rattle.value_type.specs.declared.poset.Types.{Types}
use Rattle.value_type.specs.declared.value.Value.{Value}
use Rattle.value_type.specs.Fits.{fits, row_fits}
use Rattle.value_type.specs.Leq.{leq, row_leq}

module _ (t : Types) where
  pub fits_together : (ks ls : List Kind) (xs ys : List Value) → IsTrue (row_fits t ks xs) → IsTrue (row_fits t ls ys) → IsTrue (row_fits t (ks ++ ls) (xs ++ ys))
  fits_together [] ls [] ys p q = q
  fits_together [] ls (x ∷ xs) ys p q = absurd (cc)
  fits_together (k ∷ ks) ls [] ys p q = absurd (cc)
  fits_together (k ∷ ks) ls (x ∷ xs) ys p q = both _ _ (first _ _ p) (fits_together ks ls xs ys (second (fits t k x) _ p) q)

  pub fits_apart : (ks ls : List Kind) (xs : List Value) → IsTrue (row_fits t (ks ++ ls) xs) → IsTrue (row_fits t ks (take (length ks) xs)) × IsTrue (row_fits t ls (drop (length ks) xs))
  fits_apart [] ls xs h = (refl, h)
  fits_apart (k ∷ ks) ls [] h = absurd (cc)
  fits_apart (k ∷ ks) ls (x ∷ xs) h = let r = fits_apart ks ls xs (second (fits t k x) _ h) in (both _ _ (first _ _ h) r.0, r.1)

  -- To compare joined rows is to compare their parts.
  pub leq_joined : (ks ls : List Kind) (xs ys zs ws : List Value) → IsTrue (row_fits t ks xs) → IsTrue (row_fits t ks zs)
      → row_leq t (ks ++ ls) (xs ++ ys) (zs ++ ws) ≡ row_leq t ks xs zs && row_leq t ls ys ws
  leq_joined [] ls [] ys [] ws p q = refl
  leq_joined [] ls [] ys (z ∷ zs) ws p q = absurd (cc)
  leq_joined [] ls (x ∷ xs) ys zs ws p q = absurd (cc)
  leq_joined (k ∷ ks) ls [] ys zs ws p q = absurd (cc)
  leq_joined (k ∷ ks) ls (x ∷ xs) ys [] ws p q = absurd (cc)
  leq_joined (k ∷ ks) ls (x ∷ xs) ys (z ∷ zs) ws p q =
      ap (λ b. leq t k x z && b) (leq_joined ks ls xs ys zs ws (second (fits t k x) _ p) (second (fits t k z) _ q))
      ∙ sym (and_assoc (leq t k x z) (row_leq t ks xs zs) (row_leq t ls ys ws))

  pub leq_together : (ks ls : List Kind) (xs ys zs ws : List Value) → IsTrue (row_leq t ks xs zs) → IsTrue (row_leq t ls ys ws) → IsTrue (row_leq t (ks ++ ls) (xs ++ ys) (zs ++ ws))
  leq_together [] ls [] ys [] ws p q = q
  leq_together [] ls [] ys (z ∷ zs) ws p q = absurd (cc)
  leq_together [] ls (x ∷ xs) ys zs ws p q = absurd (cc)
  leq_together (k ∷ ks) ls [] ys zs ws p q = absurd (cc)
  leq_together (k ∷ ks) ls (x ∷ xs) ys [] ws p q = absurd (cc)
  leq_together (k ∷ ks) ls (x ∷ xs) ys (z ∷ zs) ws p q = both _ _ (first _ _ p) (leq_together ks ls xs ys zs ws (second (leq t k x z) _ p) q)

  pub leq_apart : (ks ls : List Kind) (xs ys : List Value) → IsTrue (row_leq t (ks ++ ls) xs ys)
      → IsTrue (row_leq t ks (take (length ks) xs) (take (length ks) ys)) × IsTrue (row_leq t ls (drop (length ks) xs) (drop (length ks) ys))
  leq_apart [] ls xs ys h = (refl, h)
  leq_apart (k ∷ ks) ls [] ys h = absurd (cc)
  leq_apart (k ∷ ks) ls (x ∷ xs) [] h = absurd (cc)
  leq_apart (k ∷ ks) ls (x ∷ xs) (y ∷ ys) h = let r = leq_apart ks ls xs ys (second (leq t k x y) _ h) in (both _ _ (first _ _ h) r.0, r.1)

  -- The parts of a joined row.
  pub taken : (ks : List Kind) (xs ys : List Value) → IsTrue (row_fits t ks xs) → take (length ks) (xs ++ ys) ≡ xs
  taken [] [] ys p = refl
  taken [] (x ∷ xs) ys p = absurd (cc)
  taken (k ∷ ks) [] ys p = absurd (cc)
  taken (k ∷ ks) (x ∷ xs) ys p = ap (λ zs. x ∷ zs) (taken ks xs ys (second (fits t k x) _ p))

  pub dropped : (ks : List Kind) (xs ys : List Value) → IsTrue (row_fits t ks xs) → drop (length ks) (xs ++ ys) ≡ ys
  dropped [] [] ys p = refl
  dropped [] (x ∷ xs) ys p = absurd (cc)
  dropped (k ∷ ks) [] ys p = absurd (cc)
  dropped (k ∷ ks) (x ∷ xs) ys p = dropped ks xs ys (second (fits t k x) _ p)
