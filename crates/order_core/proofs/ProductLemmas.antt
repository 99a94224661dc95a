-- What a product's members are, and what it keeps of its lists.
use Rattle.std.proofs.Common.{◌≡◌, ◌∙◌, refl, ap, IsTrue, List, [], ◌∷◌, map}
use Rattle.std.specs.List.{flat_map}
use Rattle.order_core.specs.Tuple.{product, has_empty}

-- With an empty list there is no tuple.
pub product_of_none : {A : Type 0} (cs : List (List A)) → IsTrue (has_empty cs) → product cs ≡ []
product_of_none [] h = absurd (cc)
product_of_none ([] ∷ cs) h = refl
product_of_none {A = A} ((c ∷ xs) ∷ cs) h =
    ap (λ (ts : List (List A)). flat_map (λ y. map (λ tail. y ∷ tail) ts) (c ∷ xs)) (product_of_none cs h) ∙ none (c ∷ xs)
  where
    none : (ys : List A) → flat_map (λ y. map (λ (tail : List A). y ∷ tail) []) ys ≡ []
    none [] = refl
    none (y ∷ ys) = none ys
