-- Covers: elements of a set with one of them below each element, which need not be minimal.
use Rattle.std.specs.Prelude.{◌≡◌, Bool, IsTrue, List, map}
use Rattle.std.specs.List.{flat_map}
use Rattle.order_core.specs.Members.{IsMember}
use Rattle.antichain.specs.Basis.{Below}

-- Elements of the set, one of them below each element.
pub record IsCover {A : Type 0} (leq : A → A → Bool) (U : A → Type 0) (xs : List A) : Type 0 where
  pub elements : (x : A) → IsMember x xs → U x
  pub complete : (y : A) → U y → Below leq xs y

-- what V relates to some item of the list
abbrev pub FromSome : {A B : Type 0} → (A → B → Type 0) → List A → B → Type 0
FromSome {A = A} V xs y = (x : A) × IsMember x xs × V x y

-- what V relates to some element of the set
abbrev pub Through : {A B : Type 0} → (A → Type 0) → (A → B → Type 0) → B → Type 0
Through {A = A} U V y = (x : A) × U x × V x y

-- a value above the image of an element
pub record IsAboveImage {A B : Type 0} (is_value : B → Bool) (leq : B → B → Bool) (f : A → B) (U : A → Type 0) (t : B) : Type 0 where
  pub value : IsTrue (is_value t)
  pub origin : A
  pub element : U origin
  pub above : IsTrue (leq (f origin) t)

-- each item of the first list joined with each of the second
abbrev pub joins : {A B C : Type 0} → (A → B → C) → List A → List B → List C
joins join xs ys = flat_map (λ x. map (join x) ys) xs

-- an element of each set, joined
abbrev pub JoinOf : {A B C : Type 0} → (A → B → C) → (A → Type 0) → (B → Type 0) → C → Type 0
JoinOf {A = A} {B = B} join U V z = (x : A) × (y : B) × (z ≡ join x y) × U x × V y
