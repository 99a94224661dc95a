-- The minimal items of a list.
use Rattle.std.specs.Prelude.{Bool, true, ◌&&◌, ◌||◌, not, cond, List, [], ◌∷◌, ◌++◌, filter}
use Rattle.std.specs.List.{list_all, list_any}

-- x is strictly below y
abbrev pub is_less : {A : Type 0} → (A → A → Bool) → A → A → Bool
is_less leq x y = leq x y && not (leq y x)

-- An item is kept where no item before it is at most it and no item after it is strictly below it.
abbrev pub kept : {A : Type 0} → (A → A → Bool) → List A → List A → List A
kept leq before [] = []
kept leq before (x ∷ after) =
    cond (list_any (λ y. leq y x) before || list_any (λ y. is_less leq y x) after) (kept leq (x ∷ before) after) (x ∷ kept leq (x ∷ before) after)

-- the minimal items, each once, in order of first appearance
abbrev pub minima : {A : Type 0} → (A → A → Bool) → List A → List A
minima leq xs = kept leq [] xs

-- No item is strictly below one that stands before it.
abbrev pub are_in_order : {A : Type 0} → (A → A → Bool) → List A → Bool
are_in_order leq [] = true
are_in_order leq (x ∷ xs) = list_all (λ y. not (is_less leq y x)) xs && are_in_order leq xs

-- Where a is at most a later item, it is at most each item between them, or that one is at most the later one.
abbrev pub hands_on : {A : Type 0} → (A → A → Bool) → A → List A → Bool
hands_on leq a [] = true
hands_on leq a (b ∷ after) = list_all (λ x. not (leq a x) || leq a b || leq b x) after && hands_on leq a after

-- So it is with each item.
abbrev pub each_hands_on : {A : Type 0} → (A → A → Bool) → List A → Bool
each_hands_on leq [] = true
each_hands_on leq (a ∷ xs) = hands_on leq a xs && each_hands_on leq xs

-- the members after an insert
abbrev pub inserted : {A : Type 0} → (A → A → Bool) → List A → A → List A
inserted leq members x = cond (list_any (λ member. leq member x) members) members (filter (λ member. not (leq x member)) members ++ x ∷ [])

-- the members after inserting each item in turn
abbrev pub inserted_all : {A : Type 0} → (A → A → Bool) → List A → List A → List A
inserted_all leq members [] = members
inserted_all leq members (x ∷ xs) = inserted_all leq (inserted leq members x) xs
