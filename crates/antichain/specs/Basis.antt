-- Bases: the minimal elements of a set, as a list.
use Rattle.std.specs.Prelude.{◌↔◌, ◌&&◌, Bool, IsTrue, List}
use Rattle.std.specs.List.{list_all, list_any}
use Rattle.order_core.specs.Order.{are_incomparable}
use Rattle.order_core.specs.Members.{IsMember}

-- some element of the list is at most y
abbrev pub Below : {A : Type 0} → (A → A → Bool) → List A → A → Type 0
Below {A = A} leq xs y = (x : A) × IsMember x xs × IsTrue (leq x y)

-- Incomparable elements of the set, one of them below each element.
pub record IsBasis {A : Type 0} (leq : A → A → Bool) (U : A → Type 0) (xs : List A) : Type 0 where
  pub elements : (x : A) → IsMember x xs → U x
  pub incomparable : IsTrue (are_incomparable leq xs)
  pub complete : (y : A) → U y → Below leq xs y

-- incomparable values
abbrev pub AreApart : {A : Type 0} → (A → Bool) → (A → A → Bool) → List A → Type 0
AreApart is_value leq members = IsTrue (list_all is_value members) × IsTrue (are_incomparable leq members)

-- a value above x and above a listed item
pub record IsRaise {A : Type 0} (is_value : A → Bool) (leq : A → A → Bool) (x : A) (items : List A) (t : A) : Type 0 where
  pub value : IsTrue (is_value t)
  pub above : IsTrue (leq x t)
  pub below : Below leq items t

-- Both lists have the same members, in any order.
abbrev pub SameMembers : {A : Type 0} → List A → List A → Type 0
SameMembers {A = A} xs ys = (x : A) → IsMember x xs ↔ IsMember x ys

-- x and an item are at most each other
abbrev pub has_equal : {A : Type 0} → (A → A → Bool) → List A → A → Bool
has_equal leq ys x = list_any (λ y. leq x y && leq y x) ys
