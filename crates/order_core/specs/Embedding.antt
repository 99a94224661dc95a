-- An order seen through a function: what holds in the one order holds in the other.
use Rattle.std.specs.Prelude.{◌≡◌, Bool, IsTrue}

-- The values of the second order are what the function gives of those of the first, in the same order.
pub record IsEmbedding {A B : Type 0} (is_value : A → Bool) (leq : A → A → Bool) (is_image : B → Bool) (image_leq : B → B → Bool) (f : A → B) : Type 0 where
  pub value : (x : A) → is_image (f x) ≡ is_value x
  pub order : (x y : A) → image_leq (f x) (f y) ≡ leq x y
  pub onto : (z : B) → IsTrue (is_image z) → (x : A) × (z ≡ f x)
