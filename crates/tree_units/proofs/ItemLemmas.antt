-- What holds of the items of lists, and of what each of them gives.
use Rattle.std.proofs.Common.{◌≡◌, Bool, false, List, [], ◌∷◌, map, refl, subst}
use Rattle.std.specs.List.{flat_map, list_all, list_any}
use Rattle.std.specs.Prelude.{IsTrue, Option, Some, None, option_map}
use Rattle.fault_list.specs.FaultLaws.{none_left}
use Rattle.fault_list.specs.RestLaws.{none_right}
use Rattle.order_core.specs.MemberLaws.{both}
use Rattle.order_core.specs.Pointwise.{Each, Pointwise}
use Rattle.order_core.specs.Tuple.{are_values}
use Rattle.tree_units.proofs.PortParts.{neither}
use Rattle.tree_units.specs.Together.{together, with_first}

abbrev pub IsThere : {A : Type 0} → Option A → Type 0
IsThere {A = A} o = (x : A) × (o ≡ Some x)

pub map_there : {A B : Type 0} (f : A → B) (o : Option A) (y : B) → option_map f o ≡ Some y → (x : A) × (o ≡ Some x) × (f x ≡ y)
map_there f None y h = absurd (cc)
map_there f (Some x) y h = (x, refl, cc)

pub none_each : {A B : Type 0} (f : A → List B) (xs : List A) → flat_map f xs ≡ [] → Each (λ x. f x ≡ []) xs
none_each f [] h = tt
none_each f (x ∷ xs) h = (none_left (f x) (flat_map f xs) h, none_each f xs (none_right (f x) (flat_map f xs) h))

pub each_none : {A B : Type 0} (f : A → List B) (xs : List A) → Each (λ x. f x ≡ []) xs → flat_map f xs ≡ []
each_none f [] h = refl
each_none f (x ∷ xs) h = rw h.0 (each_none f xs h.1)

pub false_each : {A : Type 0} (test : A → Bool) (xs : List A) → list_any (λ part. part) (map test xs) ≡ false → Each (λ x. test x ≡ false) xs
false_each test [] h = tt
false_each test (x ∷ xs) h = let k = neither (test x) (list_any (λ part. part) (map test xs)) h in (k.0, false_each test xs k.1)

pub each_false : {A : Type 0} (test : A → Bool) (xs : List A) → Each (λ x. test x ≡ false) xs → list_any (λ part. part) (map test xs) ≡ false
each_false test [] h = refl
each_false test (x ∷ xs) h = rw h.0 (each_false test xs h.1)

pub each_applied : {A : Type 0} (P Q : A → Type 0) (xs : List A) → Each (λ x. P x → Q x) xs → Each P xs → Each Q xs
each_applied P Q [] f h = tt
each_applied P Q (x ∷ xs) f h = (f.0 h.0, each_applied P Q xs f.1 h.1)

pub all_of_each : {A B : Type 0} (f : A → Option B) (xs : List A) → Each (λ x. IsThere (f x)) xs → IsThere (together (map f xs))
all_of_each f [] h = ([], refl)
all_of_each f (x ∷ xs) h = let rest = all_of_each f xs h.1 in (h.0.0 ∷ rest.0, rw (h.0.1, rest.1) refl)

pub each_of_all : {A B : Type 0} (f : A → Option B) (xs : List A) (ys : List B) → together (map f xs) ≡ Some ys → Pointwise (λ x y. f x ≡ Some y) xs ys
each_of_all f [] [] h = tt
each_of_all f [] (y ∷ ys) h = absurd (cc)
each_of_all {A = A} {B = B} f (x ∷ xs) ys h = go (f x) (together (map f xs)) refl h (each_of_all f xs)
  where
    go : (o : Option B) (q : Option (List B)) → f x ≡ o → with_first o q ≡ Some ys → ((zs : List B) → q ≡ Some zs → Pointwise (λ (a : A) (b : B). f a ≡ Some b) xs zs)
        → Pointwise (λ (a : A) (b : B). f a ≡ Some b) (x ∷ xs) ys
    go None q e k later = absurd (cc)
    go (Some y) None e k later = absurd (cc)
    go (Some y) (Some zs) e k later = let same : y ∷ zs ≡ ys = cc in subst (λ (ws : List B). Pointwise (λ (a : A) (b : B). f a ≡ Some b) (x ∷ xs) ws) same (e, later zs refl)

-- what follows for each item of what it gives
pub each_given : {A B : Type 0} (f : A → Option B) (P : A → Type 0) (xs : List A) (ys : List B) → Each (λ x. (y : B) → f x ≡ Some y → P x) xs → Pointwise (λ x y. f x ≡ Some y) xs ys → Each P xs
each_given f P [] [] h k = tt
each_given f P [] (y ∷ ys) h k = absurd k
each_given f P (x ∷ xs) [] h k = absurd k
each_given f P (x ∷ xs) (y ∷ ys) h k = (h.0 y k.0, each_given f P xs ys h.1 k.1)

pub each_gives : {A B : Type 0} (f : A → Option B) (test : B → Bool) (xs : List A) (ys : List B) → Each (λ x. (y : B) → f x ≡ Some y → IsTrue (test y)) xs → Pointwise (λ x y. f x ≡ Some y) xs ys
    → IsTrue (list_all (λ passes. passes) (map test ys))
each_gives f test [] [] h k = refl
each_gives f test [] (y ∷ ys) h k = absurd k
each_gives f test (x ∷ xs) [] h k = absurd k
each_gives f test (x ∷ xs) (y ∷ ys) h k = both _ _ (h.0 y k.0) (each_gives f test xs ys h.1 k.1)

pub each_fits : {A B C : Type 0} (f : A → Option B) (g : A → Option C) (fits : B → C → Bool) (xs : List A) (ys : List B) (zs : List C)
    → Each (λ x. (y : B) (z : C) → f x ≡ Some y → g x ≡ Some z → IsTrue (fits y z)) xs → Pointwise (λ x y. f x ≡ Some y) xs ys → Pointwise (λ x z. g x ≡ Some z) xs zs
    → IsTrue (are_values (map fits ys) zs)
each_fits f g fits [] [] [] h k l = refl
each_fits f g fits [] [] (z ∷ zs) h k l = absurd l
each_fits f g fits [] (y ∷ ys) zs h k l = absurd k
each_fits f g fits (x ∷ xs) [] zs h k l = absurd k
each_fits f g fits (x ∷ xs) (y ∷ ys) [] h k l = absurd l
each_fits f g fits (x ∷ xs) (y ∷ ys) (z ∷ zs) h k l = both _ _ (h.0 y z k.0 l.0) (each_fits f g fits xs ys zs h.1 k.1 l.1)
