-- Orders as tests, and what their least items and bounds are.
use Rattle.std.specs.Prelude.{◌≡◌, Bool, true, ◌&&◌, not, List, [], ◌∷◌, IsTrue}
use Rattle.std.specs.List.{list_all, list_any}

-- On the values, the test is an order.
pub record IsOrder {A : Type 0} (is_value : A → Bool) (leq : A → A → Bool) : Type 0 where
  pub reflexive : (x : A) → IsTrue (is_value x) → IsTrue (leq x x)
  pub transitive : (x y z : A) → IsTrue (is_value x) → IsTrue (is_value y) → IsTrue (is_value z) → IsTrue (leq x y) → IsTrue (leq y z) → IsTrue (leq x z)
  pub antisymmetric : (x y : A) → IsTrue (is_value x) → IsTrue (is_value y) → IsTrue (leq x y) → IsTrue (leq y x) → x ≡ y

-- neither is at most the other
abbrev pub apart : {A : Type 0} → (A → A → Bool) → A → A → Bool
apart leq x y = not (leq x y) && not (leq y x)

-- No item is at most one at another place.
abbrev pub are_incomparable : {A : Type 0} → (A → A → Bool) → List A → Bool
are_incomparable leq [] = true
are_incomparable leq (x ∷ xs) = list_all (apart leq x) xs && are_incomparable leq xs

-- Incomparable values, one of them below each value.
pub record IsLeast {A : Type 0} (is_value : A → Bool) (leq : A → A → Bool) (xs : List A) : Type 0 where
  pub values : IsTrue (list_all is_value xs)
  pub incomparable : IsTrue (are_incomparable leq xs)
  pub complete : (x : A) → IsTrue (is_value x) → IsTrue (list_any (λ y. leq y x) xs)

-- Incomparable values above both, one of them below each value above both.
pub record AreBounds {A : Type 0} (is_value : A → Bool) (leq : A → A → Bool) (a b : A) (xs : List A) : Type 0 where
  pub values : IsTrue (list_all is_value xs)
  pub incomparable : IsTrue (are_incomparable leq xs)
  pub above : IsTrue (list_all (λ x. leq a x && leq b x) xs)
  pub complete : (x : A) → IsTrue (is_value x) → IsTrue (leq a x) → IsTrue (leq b x) → IsTrue (list_any (λ y. leq y x) xs)
