-- A list has the members of the reversed one.
use Rattle.std.proofs.Common.{sym, subst, List, [], ◌∷◌, ◌⊎◌, inl, inr, reverse}
use Rattle.std.proofs.lemmas.List.{reverse-append}
use Rattle.order_core.specs.Members.{IsMember}
use Rattle.order_core.specs.MemberLaws.{mem-left, mem-right, mem-split}

pub mem-reverse : {A : Type 0} (xs : List A) (t : A) → IsMember t (reverse xs) → IsMember t xs
mem-reverse [] t m = m
mem-reverse {A = A} (x ∷ xs) t m = at (mem-split (reverse xs) (x ∷ []) t (subst (λ (zs : List A). IsMember t zs) (reverse-append (x ∷ []) xs) m)) (mem-reverse xs t)
  where
    at : IsMember t (reverse xs) ⊎ IsMember t (x ∷ []) → (IsMember t (reverse xs) → IsMember t xs) → IsMember t (x ∷ xs)
    at (inl k) f = inr (f k)
    at (inr (inl e)) f = inl e
    at (inr (inr k)) f = absurd k

pub reverse-mem : {A : Type 0} (xs : List A) (t : A) → IsMember t xs → IsMember t (reverse xs)
reverse-mem [] t m = m
reverse-mem {A = A} (x ∷ xs) t (inl e) = subst (λ (zs : List A). IsMember t zs) (sym (reverse-append (x ∷ []) xs)) (mem-right (reverse xs) (x ∷ []) t (inl e))
reverse-mem {A = A} (x ∷ xs) t (inr m) = subst (λ (zs : List A). IsMember t zs) (sym (reverse-append (x ∷ []) xs)) (mem-left (reverse xs) (x ∷ []) t (reverse-mem xs t m))
