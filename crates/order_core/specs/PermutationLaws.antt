-- A list in another order has the same members.
use Rattle.std.proofs.Common.{Bool, IsTrue, List}
use Rattle.std.proofs.lemmas.List.Sorted.{All-permutation, IsPermutation-sym}
use Rattle.std.specs.List.Sorted.{IsPermutation}
use Rattle.std.specs.List.{list_all}
use Rattle.order_core.specs.MemberLaws.{all_intro, all_elim}
use Rattle.order_core.specs.Members.{IsMember}
use Rattle.order_core.specs.PointwiseLaws.{each_got, each_made, each_all, all_each}

pub members_permuted : {A : Type 0} (xs ys : List A) (x : A) → IsPermutation xs ys → IsMember x ys → IsMember x xs
members_permuted xs ys x p m = each_got (λ y. IsMember y xs) ys x (all_each (λ y. IsMember y xs) ys (All-permutation (λ y. IsMember y xs) xs ys p (each_all (λ y. IsMember y xs) xs (each_made (λ y. IsMember y xs) xs (λ y k. k))))) m

pub members_before : {A : Type 0} (xs ys : List A) (x : A) → IsPermutation xs ys → IsMember x xs → IsMember x ys
members_before xs ys x p m = members_permuted ys xs x (IsPermutation-sym xs ys p) m

pub all_permuted : {A : Type 0} (p : A → Bool) (xs ys : List A) → IsPermutation xs ys → IsTrue (list_all p xs) → IsTrue (list_all p ys)
all_permuted p xs ys e h = all_intro p ys (λ y m. all_elim p xs y h (members_permuted xs ys y e m))
