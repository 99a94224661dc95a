-- Tuples, part by part, and all tuples of given choices.
use Rattle.std.specs.List.{flat_map}
use Rattle.std.specs.Prelude.{Bool, true, false, ◌&&◌, List, [], ◌∷◌, ◌++◌, map}
use Rattle.order_core.specs.Order.{IsLeast, AreBounds}

-- There is one item for each test, and it passes.
abbrev pub are_values : {A : Type 0} → List (A → Bool) → List A → Bool
are_values [] [] = true
are_values (f ∷ fs) (x ∷ xs) = f x && are_values fs xs
are_values _ _ = false

-- There are two items for each test, and they pass.
abbrev pub tuple_leq : {A : Type 0} → List (A → A → Bool) → List A → List A → Bool
tuple_leq [] [] [] = true
tuple_leq (f ∷ fs) (x ∷ xs) (y ∷ ys) = f x y && tuple_leq fs xs ys
tuple_leq _ _ _ = false

-- each tuple with one item of each list, the first item slowest
abbrev pub product : {A : Type 0} → List (List A) → List (List A)
product [] = [] ∷ []
product (xs ∷ rest) = flat_map (λ x. map (λ tail. x ∷ tail) (product rest)) xs

-- the tuple followed by each of the items
abbrev pub with_each : {A : Type 0} → List A → List A → List (List A)
with_each items tuple = map (λ item. tuple ++ item ∷ []) items

-- One of the lists has no items.
abbrev pub has_empty : {A : Type 0} → List (List A) → Bool
has_empty [] = false
has_empty ([] ∷ rest) = true
has_empty ((x ∷ xs) ∷ rest) = has_empty rest

-- There is one list for each part, of its least items.
abbrev pub AreAllLeast : {P A : Type 0} → (P → A → Bool) → (P → A → A → Bool) → List P → List (List A) → Type 0
AreAllLeast is_value leq [] [] = Unit {0}
AreAllLeast is_value leq (p ∷ ps) (c ∷ cs) = IsLeast (is_value p) (leq p) c × AreAllLeast is_value leq ps cs
AreAllLeast _ _ _ _ = ⊥

-- There is one list for each part, of the bounds of its two items.
abbrev pub AreAllBounds : {P A : Type 0} → (P → A → Bool) → (P → A → A → Bool) → List P → List A → List A → List (List A) → Type 0
AreAllBounds is_value leq [] [] [] [] = Unit {0}
AreAllBounds is_value leq (p ∷ ps) (a ∷ as_) (b ∷ bs) (c ∷ cs) = AreBounds (is_value p) (leq p) a b c × AreAllBounds is_value leq ps as_ bs cs
AreAllBounds _ _ _ _ _ _ = ⊥
