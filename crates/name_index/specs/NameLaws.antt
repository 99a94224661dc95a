-- The number of a name in longer lists of names.
use Rattle.std.proofs.Common.{◌≡◌, ◌∙◌, refl, sym, ap, subst, ℕ, Bool, true, false, cond, List, [], ◌∷◌, ◌++◌}
use Rattle.std.specs.Prelude.{Option, Some, None, is_some}
use Rattle.std.specs.Str.{bytes_eq}
use Rattle.std.proofs.lemmas.Slice.Eq.{bytes_eq-Decides}
use Rattle.name_index.specs.Names.{number_of, with_name, first_number}

pub number_joined : (xs : List (List ℕ × ℕ)) (name : List ℕ) (number : ℕ) (other : List ℕ) → number_of (xs ++ (name, number) ∷ []) other ≡ first_number (number_of xs other) other name number
number_joined [] name number other = refl
number_joined (x ∷ xs) name number other = go (bytes_eq other x.0) (number_joined xs name number other)
  where
    go : (t : Bool) → number_of (xs ++ (name, number) ∷ []) other ≡ first_number (number_of xs other) other name number
        → cond t (Some x.1) (number_of (xs ++ (name, number) ∷ []) other) ≡ first_number (cond t (Some x.1) (number_of xs other)) other name number
    go true later = refl
    go false later = later

-- A name that was there is found again, so another name with no number is another one.
unlike : (xs : List (List ℕ × ℕ)) (name other : List ℕ) → is_some (number_of xs name) ≡ true → number_of xs other ≡ None → bytes_eq other name ≡ false
unlike xs name other there none = go (bytes_eq other name) refl
  where
    go : (t : Bool) → bytes_eq other name ≡ t → t ≡ false
    go true e =
        let same : other ≡ name = (bytes_eq-Decides other name).0 e in
        let clash : true ≡ false = sym there ∙ ap is_some (subst (λ (z : List ℕ). number_of xs z ≡ None) same none) in absurd (cc)
    go false e = refl

pub number_with : (xs : List (List ℕ × ℕ)) (name : List ℕ) (number : ℕ) (other : List ℕ) → number_of (with_name xs name number) other ≡ first_number (number_of xs other) other name number
number_with xs name number other = go (is_some (number_of xs name)) refl
  where
    kept : is_some (number_of xs name) ≡ true → (o : Option ℕ) → number_of xs other ≡ o → o ≡ first_number o other name number
    kept there (Some before) e = refl
    kept there None e = rw (unlike xs name other there e) refl

    go : (t : Bool) → is_some (number_of xs name) ≡ t → number_of (cond t xs (xs ++ (name, number) ∷ [])) other ≡ first_number (number_of xs other) other name number
    go true e = kept e (number_of xs other) refl
    go false e = number_joined xs name number other
