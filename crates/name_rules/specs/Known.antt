-- The names that a library has.
use Rattle.std.specs.Prelude.{ℕ, Bool, List}

pub record Known : Type 0 where
  -- Some design or template has this name.
  pub design : List ℕ → Bool
  pub interface : List ℕ → Bool
  pub table : List ℕ → Bool
  pub poset : List ℕ → Bool
  -- The poset of the first name has an element of the second.
  pub element : List ℕ → List ℕ → Bool
