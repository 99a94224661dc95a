-- A search that goes from the last item to the first.
use Rattle.std.proofs.Common.{◌≡◌, ◌∙◌, refl, sym, ap, ℕ, ◌+◌, ◌-◌, ◌<◌, Bool, true, false, ◌||◌, List, [], ◌∷◌, ◌++◌, take, length, get_or, arith}
use Rattle.std.proofs.lemmas.List.{take_more}
use Rattle.std.proofs.lemmas.List.Folds.{list_any-append}
use Rattle.std.specs.List.{list_any}

or_false : (a b : Bool) → b ≡ false → a || (b || false) ≡ a
or_false true b e = refl
or_false false b e = rw e refl

or_true : (a b : Bool) → b ≡ true → a || (b || false) ≡ true
or_true true b e = refl
or_true false b e = rw e refl

module _ {A : Type 0} (p : A → Bool) (xs : List A) (n : ℕ) (x : A) (some : 0 < n) (inside : n - 1 < length xs) (is : x ≡ get_or xs (n - 1) x) where
  last_decides : list_any p (take n xs) ≡ list_any p (take (n - 1) xs) || (p x || false)
  last_decides =
      let one_more : (n - 1) + 1 ≡ n = omega arith in
      ap (λ (k : ℕ). list_any p (take k xs)) (sym one_more) ∙ ap (list_any p) (take_more xs (n - 1) x inside)
      ∙ ap (λ (z : A). list_any p (take (n - 1) xs ++ z ∷ [])) (sym is) ∙ list_any-append p (take (n - 1) xs) (x ∷ [])

  -- Where the last item passes, some one does.
  pub last_passes : p x ≡ true → list_any p (take n xs) ≡ true
  last_passes e = last_decides ∙ or_true (list_any p (take (n - 1) xs)) (p x) e

  -- Where it does not, the items before it decide.
  pub last_fails : p x ≡ false → list_any p (take n xs) ≡ list_any p (take (n - 1) xs)
  last_fails e = last_decides ∙ or_false (list_any p (take (n - 1) xs)) (p x) e
