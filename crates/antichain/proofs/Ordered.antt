-- Where no item is strictly below one before it, no member is ever taken out again.
use Rattle.std.proofs.Common.{◌≡◌, ◌∙◌, refl, sym, ap, subst, ℕ, zero, suc, ◌+◌, ◌<◌, Bool, true, false, ◌&&◌, not, IsTrue, List, [], ◌∷◌, ◌++◌, take, length, get_or, arith, ◌⊎◌, inl, inr}
use Rattle.std.specs.List.{list_all, list_any}
use Rattle.std.proofs.lemmas.List.{take_more}
use Rattle.order_core.specs.Order.{IsOrder}
use Rattle.order_core.specs.Members.{IsMember}
use Rattle.order_core.specs.MemberLaws.{first, second, both, all_at, none_elim, filter_same}
use Rattle.antichain.specs.Basis.{AreApart}
use Rattle.antichain.specs.InsertedLaws.{all_apart, all_from}
use Rattle.antichain.specs.Minima.{is_less, are_in_order, inserted, inserted_all}
use Rattle.antichain.proofs.MinimaLemmas.{filter_all, inserted_all-snoc}

-- the first items of a list of values
pub all-take : {A : Type 0} (p : A → Bool) (n : ℕ) (xs : List A) → IsTrue (list_all p xs) → IsTrue (list_all p (take n xs))
all-take p zero xs h = refl
all-take p (suc n) [] h = refl
all-take p (suc n) (x ∷ xs) h = both _ _ (first _ _ h) (all-take p n xs (second (p x) _ h))

module _ {A : Type 0} (leq : A → A → Bool) where
  -- An item is strictly below none of those before it.
  not_less : (xs : List A) (n : ℕ) (d m : A) → IsTrue (are_in_order leq xs) → n < length xs → IsMember m (take n xs) → IsTrue (not (is_less leq (get_or xs n d) m))
  not_less [] n d m h l k = absurd (omega arith)
  not_less (x ∷ xs) zero d m h l k = absurd k
  not_less (x ∷ xs) (suc n) d m h l (inl e) = rw e (all_at (λ y. not (is_less leq y x)) xs n d (first _ _ h) (omega arith))
  not_less (x ∷ xs) (suc n) d m h l (inr k) = not_less xs n d m (second (list_all (λ y. not (is_less leq y x)) xs) _ h) (omega arith) k

  -- What no member is at most and is strictly below none goes last.
  insert_last : (members : List A) (x : A) → list_any (λ m. leq m x) members ≡ false → ((m : A) → IsMember m members → IsTrue (not (is_less leq x m))) → inserted leq members x ≡ members ++ x ∷ []
  insert_last members x e h = rw (e) (ap (λ (ys : List A). ys ++ x ∷ []) (filter_same (λ m. not (leq x m)) (λ m. true) members (λ m k. stays (leq x m) (leq m x) (h m k) (λ t. none_elim (λ y. leq y x) members m e k t)) ∙ filter_all members))
    where
      stays : (a b : Bool) → IsTrue (not (a && not b)) → (IsTrue b → ⊥) → not a ≡ true
      stays false b t n = refl
      stays true true t n = absurd (n refl)
      stays true false t n = t

module _ {A : Type 0} (is_value : A → Bool) (leq : A → A → Bool) (laws : IsOrder is_value leq) (items : List A) (values : IsTrue (list_all is_value items)) (n : ℕ) where
  -- the members after the first items
  abbrev so_far : List A
  so_far = inserted_all leq [] (take n items)

  pub so_far_apart : AreApart is_value leq (inserted_all leq [] (take n items))
  so_far_apart = all_apart is_value leq laws (take n items) [] (all-take is_value n items values) (refl, refl)

  -- Each member is one of the first items.
  pub seen : (m : A) → IsMember m (inserted_all leq [] (take n items)) → IsMember m (take n items)
  seen m k = listed (all_from is_value leq laws (take n items) [] (all-take is_value n items values) (refl, refl) m k)
    where
      listed : IsMember m (take n items) ⊎ ⊥ → IsMember m (take n items)
      listed (inl l) = l
      listed (inr l) = absurd l

  module _ (x : A) (inside : n < length items) (is : x ≡ get_or items n x) where
    next : inserted_all leq [] (take (n + 1) items) ≡ inserted leq so_far x
    next = ap (inserted_all leq []) (take_more items n x inside ∙ ap (λ (z : A). take n items ++ z ∷ []) (sym is)) ∙ inserted_all-snoc leq [] (take n items) x

    pub stays_out : list_any (λ m. leq m x) (inserted_all leq [] (take n items)) ≡ true → inserted_all leq [] (take n items) ≡ inserted_all leq [] (take (n + 1) items)
    stays_out e = sym (next ∙ rw e refl)

    pub goes_last : IsTrue (are_in_order leq items) → list_any (λ m. leq m x) (inserted_all leq [] (take n items)) ≡ false
        → inserted_all leq [] (take n items) ++ x ∷ [] ≡ inserted_all leq [] (take (n + 1) items)
    goes_last ordered e = sym (next ∙ insert_last leq so_far x e (λ m k. at m (seen m k)))
      where
        at : (m : A) → IsMember m (take n items) → IsTrue (not (is_less leq x m))
        at m k = subst (λ (z : A). IsTrue (not (is_less leq z m))) (sym is) (not_less leq items n x m ordered inside k)
