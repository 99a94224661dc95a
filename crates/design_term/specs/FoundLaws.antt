-- An item that stands at a place of a list.
use Rattle.std.specs.Prelude.{◌≡◌, ℕ, zero, suc, IsSomeAnd, List, [], ◌∷◌, Some, slice_get}
use Rattle.std.proofs.Common.{refl}
use Rattle.order_core.specs.Pointwise.{Each}

-- The item that stands at the place, with what holds of it as of each item, and what holds of it beside that.
pub record Found {A : Type 0} (P Q : A → Type 0) (xs : List A) (i : ℕ) : Type 0 where
  pub item : A
  pub is : slice_get xs i ≡ Some item
  pub each : P item
  pub holds : Q item

-- Where something holds of each item and something of the one at a place, that one is found.
pub each_found : {A : Type 0} (P Q : A → Type 0) (xs : List A) (i : ℕ) → Each P xs → IsSomeAnd (slice_get xs i) Q → Found P Q xs i
each_found P Q [] i each h = absurd h
each_found P Q (x ∷ xs) zero each h = record { item = x; is = refl; each = each.0; holds = h }
each_found P Q (x ∷ xs) (suc i) each h =
    let found = each_found P Q xs i each.1 h in record { item = found.item; is = found.is; each = found.each; holds = found.holds }
