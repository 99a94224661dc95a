-- Partners of the items of a list.
use Rattle.std.proofs.Common.{◌≡◌, refl, List, [], ◌∷◌, ◌++◌}
use Rattle.order_core.specs.Pointwise.{Pointwise}

-- Where each item has one partner at most, the items have one list of partners at most.
pub partners_same : {A B : Type 0} (R : A → B → Type 0) → ((x : A) (y z : B) → R x y → R x z → y ≡ z) → (xs : List A) (ys zs : List B) → Pointwise R xs ys → Pointwise R xs zs → ys ≡ zs
partners_same R one [] [] [] h k = refl
partners_same R one [] [] (z ∷ zs) h k = absurd k
partners_same R one [] (y ∷ ys) zs h k = absurd h
partners_same R one (x ∷ xs) [] zs h k = absurd h
partners_same R one (x ∷ xs) (y ∷ ys) [] h k = absurd k
partners_same R one (x ∷ xs) (y ∷ ys) (z ∷ zs) h k =
    let same : y ≡ z = one x y z h.0 k.0 in
    let rest : ys ≡ zs = partners_same R one xs ys zs h.1 k.1 in
    λ i. same i ∷ rest i

-- One pair of partners more.
pub pointwise_push : {A B : Type 0} (R : A → B → Type 0) (xs : List A) (ys : List B) (x : A) (y : B) → Pointwise R xs ys → R x y → Pointwise R (xs ++ x ∷ []) (ys ++ y ∷ [])
pointwise_push R [] [] x y p r = (r, tt)
pointwise_push R [] (z ∷ ys) x y p r = absurd p
pointwise_push R (w ∷ xs) [] x y p r = absurd p
pointwise_push R (w ∷ xs) (z ∷ ys) x y p r = (p.0, pointwise_push R xs ys x y p.1 r)
