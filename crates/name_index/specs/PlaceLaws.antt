-- The first place of a name in a list: one more item, and where it may be.
use Rattle.std.proofs.Common.{◌≡◌, ◌∙◌, ◌<◌, ◌≤◌, ◌+◌, ◌||◌, refl, sym, ap, arith, ℕ, suc, Bool, true, false, cond, List, [], ◌∷◌, ◌++◌, take, length, get_or}
use Rattle.std.proofs.lemmas.List.{take_more, length-take-le}
use Rattle.std.specs.List.{list_any, position_from}
use Rattle.std.specs.Prelude.{Option, Some, None, is_some, option_and_then, option_map, slice_get}
use Rattle.std.specs.Str.{bytes_eq}
use Rattle.name_index.specs.NameLaws.{number_with}
use Rattle.name_index.specs.Names.{number_of, with_name, first_number}
use Rattle.name_index.specs.Places.{named_item, place_of}

-- the first of two that is there
abbrev pub else : Option ℕ → Option ℕ → Option ℕ
else (Some k) o = Some k
else None o = o

pub position_more : {A : Type 0} (p : A → Bool) (s : ℕ) (xs : List A) (x : A) → position_from p s (xs ++ x ∷ []) ≡ else (position_from p s xs) (cond (p x) (Some (s + length xs)) None)
position_more p s [] x = let same : s ≡ s + 0 = omega arith in ap (λ (k : ℕ). cond (p x) (Some k) None) same
position_more {A = A} p s (y ∷ ys) x = go (p y) (position_more p (s + 1) ys x)
  where
    go : (t : Bool) → position_from p (s + 1) (ys ++ x ∷ []) ≡ else (position_from p (s + 1) ys) (cond (p x) (Some (s + 1 + length ys)) None)
        → cond t (Some s) (position_from p (s + 1) (ys ++ x ∷ [])) ≡ else (cond t (Some s) (position_from p (s + 1) ys)) (cond (p x) (Some (s + length (y ∷ ys))) None)
    go true later = refl
    go false later = let same : s + 1 + length ys ≡ s + length (y ∷ ys) = omega arith in later ∙ ap (λ (k : ℕ). else (position_from p (s + 1) ys) (cond (p x) (Some k) None)) same

module _ {A : Type 0} (named : A → List ℕ) (items : List A) (i : ℕ) (x : A) (inside : i < length items) (is : x ≡ get_or items i x) where
  -- One item more in the index.
  pub places_more : (names : List (List ℕ × ℕ)) → ((name : List ℕ) → number_of names name ≡ place_of named (take i items) name)
      → (name : List ℕ) → number_of (with_name names (named x) i) name ≡ place_of named (take (i + 1) items) name
  places_more names h name =
      number_with names (named x) i name ∙ ap (λ (o : Option ℕ). first_number o name (named x) i) (h name) ∙ go (place_of named (take i items) name)
      ∙ ap (λ (k : ℕ). else (place_of named (take i items) name) (cond (bytes_eq name (named x)) (Some k) None)) (sym size)
      ∙ sym (position_more (λ y. bytes_eq name (named y)) 0 (take i items) x) ∙ ap (λ (ys : List A). place_of named ys name) (sym (take_more items i x inside ∙ ap (λ (y : A). take i items ++ y ∷ []) (sym is)))
    where
      size : 0 + length (take i items) ≡ i
      size = let within : i ≤ length items = omega arith in omega (arith, length-take-le i items within)

      go : (o : Option ℕ) → first_number o name (named x) i ≡ else o (cond (bytes_eq name (named x)) (Some i) None)
      go (Some k) = refl
      go None = refl

pub position_below : {A : Type 0} (p : A → Bool) (s : ℕ) (xs : List A) (k : ℕ) → position_from p s xs ≡ Some k → k < s + length xs
position_below p s [] k e = absurd (cc)
position_below {A = A} p s (x ∷ xs) k e = go (p x) (position_below p (s + 1) xs k) e
  where
    go : (t : Bool) → (position_from p (s + 1) xs ≡ Some k → k < s + 1 + length xs) → cond t (Some s) (position_from p (s + 1) xs) ≡ Some k → k < s + length (x ∷ xs)
    go true later f = let same : s ≡ k = cc in omega (arith, same)
    go false later f = omega (arith, later f)

-- A place in a list is one of its items.
pub place_below : {A : Type 0} (named : A → List ℕ) (items : List A) (name : List ℕ) (k : ℕ) → place_of named items name ≡ Some k → k < length items
place_below named items name k e = let l = position_below (λ y. bytes_eq name (named y)) 0 items k e in omega (arith, l)

-- There is a place exactly where some item passes.
pub position_there : {A : Type 0} (p : A → Bool) (s : ℕ) (xs : List A) → is_some (position_from p s xs) ≡ list_any p xs
position_there p s [] = refl
position_there p s (x ∷ xs) = go (p x) (position_there p (s + 1) xs)
  where
    go : (t : Bool) → is_some (position_from p (s + 1) xs) ≡ list_any p xs → is_some (cond t (Some s) (position_from p (s + 1) xs)) ≡ t || list_any p xs
    go true later = refl
    go false later = later

-- The first one of two, where the second is there or not.
pub first_else : (o : Option ℕ) (other name : List ℕ) (n : ℕ) → first_number o other name n ≡ else o (cond (bytes_eq other name) (Some n) None)
first_else (Some k) other name n = refl
first_else None other name n = refl

pub else_none : (o : Option ℕ) → else o None ≡ o
else_none (Some k) = refl
else_none None = refl

-- Places in a list that begins one later are one greater.
position_later : {A : Type 0} (p : A → Bool) (s : ℕ) (xs : List A) → position_from p (s + 1) xs ≡ option_map (λ k. k + 1) (position_from p s xs)
position_later p s [] = refl
position_later p s (x ∷ xs) = go (p x) (position_later p (s + 1) xs)
  where
    go : (t : Bool) → position_from p (s + 1 + 1) xs ≡ option_map (λ k. k + 1) (position_from p (s + 1) xs) → cond t (Some (s + 1)) (position_from p (s + 1 + 1) xs) ≡ option_map (λ k. k + 1) (cond t (Some s) (position_from p (s + 1) xs))
    go true later = refl
    go false later = later

-- The first item of a name, of a list that is gone through.
pub named_item_next : {A : Type 0} (named : A → List ℕ) (x : A) (xs : List A) (name : List ℕ) → named_item named (x ∷ xs) name ≡ cond (bytes_eq name (named x)) (Some x) (named_item named xs name)
named_item_next {A = A} named x xs name = ap (λ o. option_and_then (slice_get (x ∷ xs)) (cond (bytes_eq name (named x)) (Some 0) o)) (position_later (λ y. bytes_eq name (named y)) 0 xs) ∙ go (bytes_eq name (named x)) (position_from (λ y. bytes_eq name (named y)) 0 xs)
  where
    go : (t : Bool) (o : Option ℕ) → option_and_then (slice_get (x ∷ xs)) (cond t (Some 0) (option_map (λ k. k + 1) o)) ≡ cond t (Some x) (option_and_then (slice_get xs) o)
    go true o = refl
    go false None = refl
    go false (Some k) = let next : k + 1 ≡ suc k = omega arith in ap (slice_get (x ∷ xs)) next
