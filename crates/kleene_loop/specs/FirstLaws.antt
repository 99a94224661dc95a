-- A list of which a look-up of the first item gave none has no item.
use Rattle.std.specs.Prelude.{◌≡◌, List, [], ◌∷◌, Option, Some, None, slice_get}
use Rattle.std.specs.Borrow.{Bor}
use Rattle.std.specs.Option.{is_some, option_copied}
use Rattle.std.proofs.Common.{refl, false}

pub empty_of_no_first : {A : Type 0} (xs : List A) → None ≡ slice_get xs 0 → xs ≡ []
empty_of_no_first [] e = refl
empty_of_no_first (y ∷ ys) e = absurd (cc)

-- the same of a look-up that lends the item
pub empty_of_none : {A : Type 0} (xs : List A) (look : Option (Bor A)) → option_copied look ≡ slice_get xs 0 → is_some look ≡ false → xs ≡ []
empty_of_none xs None e n = empty_of_no_first xs e
empty_of_none xs (Some x) e n = absurd (cc)
