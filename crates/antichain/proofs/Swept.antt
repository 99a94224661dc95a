-- Where each item hands on, the last member decides for all members.
use Rattle.std.proofs.Common.{◌≡◌, ◌∙◌, refl, sym, ap, subst, ℕ, zero, suc, ◌+◌, ◌-◌, ◌<◌, ◌≤◌, Bool, true, false, ◌||◌, not, IsTrue, List, [], ◌∷◌, ◌++◌, drop, take, length, get_or, arith, add-one, ◌⊎◌, inl, inr}
use Rattle.std.proofs.lemmas.List.{length-append, length-drop, take_all}
use Rattle.std.specs.List.{list_all, list_any}
use Rattle.order_core.specs.Members.{IsMember}
use Rattle.order_core.specs.MemberLaws.{first, second, all_elim, all_intro, any_elim, any_intro, mem-split}
use Rattle.antichain.specs.Minima.{hands_on, each_hands_on}

-- the last member, if there is one
abbrev pub last_of : {A : Type 0} → List A → List A
last_of members = drop (length members - 1) members

pub last_of-snoc : {A : Type 0} (members : List A) (b : A) → last_of (members ++ b ∷ []) ≡ b ∷ []
last_of-snoc {A = A} members b =
    let size : length (members ++ b ∷ []) - 1 ≡ length members = omega (arith, length-append members (b ∷ [])) in
    ap (λ (n : ℕ). drop n (members ++ b ∷ [])) size ∙ go members
  where
    go : (ms : List A) → drop (length ms) (ms ++ b ∷ []) ≡ b ∷ []
    go [] = refl
    go (m ∷ ms) = go ms

pub last_in : {A : Type 0} (members : List A) (n : ℕ) (x : A) → IsMember x (drop n members) → IsMember x members
last_in members zero x m = m
last_in [] (suc n) x m = m
last_in (y ∷ ys) (suc n) x m = inr (last_in ys n x m)

-- the slice of the last member alone
pub window_is : {A : Type 0} (members : List A) (n : ℕ) → n ≡ length members - 1 → take (length members - n) (drop n members) ≡ last_of members
window_is members n e =
    let within : length (drop n members) ≤ length members - n = omega (arith, length-drop n members) in
    take_all (length members - n) (drop n members) within ∙ ap (λ (k : ℕ). drop k members) e

pub all-last : {A : Type 0} (p : A → Bool) (members : List A) → IsTrue (list_all p members) → IsTrue (list_all p (last_of members))
all-last p members h = all_intro p (last_of members) (λ x m. all_elim p members x h (last_in members (length members - 1) x m))

-- an item, among those from its place on
pub here : {A : Type 0} (items : List A) (n : ℕ) (d : A) → n < length items → IsMember (get_or items n d) (drop n items)
here [] n d l = absurd (omega arith)
here (x ∷ xs) zero d l = inl refl
here (x ∷ xs) (suc n) d l = here xs n d (omega arith)

later : {A : Type 0} (items : List A) (n : ℕ) (x : A) → IsMember x (drop (suc n) items) → IsMember x (drop n items)
later [] zero x m = m
later [] (suc n) x m = m
later (y ∷ ys) zero x m = inr m
later (y ∷ ys) (suc n) x m = later ys n x m

module _ {A : Type 0} (leq : A → A → Bool) where
  hands_at : (a : A) (xs : List A) (n : ℕ) (d x : A) → IsTrue (hands_on leq a xs) → n < length xs → IsMember x (drop (suc n) xs) → IsTrue (not (leq a x) || leq a (get_or xs n d) || leq (get_or xs n d) x)
  hands_at a [] n d x h l m = absurd (omega arith)
  hands_at a (b ∷ xs) zero d x h l m = all_elim (λ x. not (leq a x) || leq a b || leq b x) xs x (first _ _ h) m
  hands_at a (b ∷ xs) (suc n) d x h l m = hands_at a xs n d x (second (list_all (λ x. not (leq a x) || leq a b || leq b x) xs) _ h) (omega arith) m

  each_at : (items : List A) (n : ℕ) (d a x : A) → IsTrue (each_hands_on leq items) → n < length items → IsMember a (take n items) → IsMember x (drop (suc n) items)
      → IsTrue (not (leq a x) || leq a (get_or items n d) || leq (get_or items n d) x)
  each_at [] n d a x h l k m = absurd (omega arith)
  each_at (y ∷ ys) zero d a x h l k m = absurd k
  each_at (y ∷ ys) (suc n) d a x h l (inl e) m =
      let p : A → Type 0 = λ z. IsTrue (not (leq z x) || leq z (get_or ys n d) || leq (get_or ys n d) x) in
      subst p (sym e) (hands_at y ys n d x (first _ _ h) (omega arith) m)
  each_at (y ∷ ys) (suc n) d a x h l (inr k) m = each_at ys n d a x (second (hands_on leq y ys) _ h) (omega arith) k m

  -- Of what is to come, the last member is at most all that some member is at most.
  abbrev pub LastDecides : List A → List A → Type 0
  LastDecides members rest = (x : A) → IsMember x rest → list_any (λ m. leq m x) members ≡ true → list_any (λ m. leq m x) (last_of members) ≡ true

  pub last_decides : (members : List A) (x : A) (rest : List A) → LastDecides members rest → IsMember x rest → list_any (λ m. leq m x) (last_of members) ≡ list_any (λ m. leq m x) members
  last_decides members x rest h k = go (list_any (λ m. leq m x) members) refl
    where
      none : (b : Bool) → list_any (λ m. leq m x) (last_of members) ≡ b → list_any (λ m. leq m x) members ≡ false → b ≡ false
      none true e f =
          let w = any_elim (λ m. leq m x) (last_of members) e in
          let some : list_any (λ m. leq m x) members ≡ true = any_intro (λ m. leq m x) members w.0 (last_in members (length members - 1) w.0 w.1) w.2 in absurd (cc)
      none false e f = refl

      go : (b : Bool) → list_any (λ m. leq m x) members ≡ b → list_any (λ m. leq m x) (last_of members) ≡ list_any (λ m. leq m x) members
      go true e = h x k e ∙ sym e
      go false e = none _ refl e ∙ sym e

  pub decides_later : (members items : List A) (n : ℕ) → LastDecides members (drop n items) → LastDecides members (drop (n + 1) items)
  decides_later members items n h = rw add-one (λ x m. h x (later items n x m))

  -- A new member decides from then on.
  pub decides_new : (members items : List A) (n : ℕ) (b : A) → n < length items → b ≡ get_or items n b → IsTrue (each_hands_on leq items) → ((m : A) → IsMember m members → IsMember m (take n items))
      → list_any (λ m. leq m b) members ≡ false → LastDecides (members ++ b ∷ []) (drop (n + 1) items)
  decides_new members items n b inside is each seen none = rw (add-one, last_of-snoc members b) decides
    where
      no : (m : A) → IsMember m members → leq m b ≡ true → ⊥
      no m k e = let some : list_any (λ z. leq z b) members ≡ true = any_intro (λ z. leq z b) members m k e in cc

      third : (p q r : Bool) → IsTrue (not p || q || r) → p ≡ true → (q ≡ true → ⊥) → r ≡ true
      third true true r h e f = absurd (f refl)
      third true false r h e f = h
      third false q r h e f = absurd (cc)

      by : (x : A) → IsMember x (drop (suc n) items) → (m : A) → leq m x ≡ true → IsMember m members ⊎ IsMember m (b ∷ []) → leq b x ≡ true
      by x k m l (inl in_old) =
          let at : IsTrue (not (leq m x) || leq m b || leq b x) = subst (λ (z : A). IsTrue (not (leq m x) || leq m z || leq z x)) (sym is) (each_at items n b m x each inside (seen m in_old) k) in
          third (leq m x) (leq m b) (leq b x) at l (no m in_old)
      by x k m l (inr (inl e)) = sym (ap (λ (z : A). leq z x) e) ∙ l
      by x k m l (inr (inr f)) = absurd f

      decides : (x : A) → IsMember x (drop (suc n) items) → list_any (λ m. leq m x) (members ++ b ∷ []) ≡ true → list_any (λ m. leq m x) (b ∷ []) ≡ true
      decides x k some =
          let w = any_elim (λ m. leq m x) (members ++ b ∷ []) some in
          any_intro (λ m. leq m x) (b ∷ []) b (inl refl) (by x k w.0 w.2 (mem-split members (b ∷ []) w.0 w.1))
