-- The minimal elements of a set.
use Rattle.std.specs.Prelude.{◌≡◌, Bool, IsTrue}

-- An element of the set with no other one below it.
pub record IsMinimal {A : Type 0} (leq : A → A → Bool) (U : A → Type 0) (x : A) : Type 0 where
  pub element : U x
  pub least : (y : A) → U y → IsTrue (leq y x) → y ≡ x
