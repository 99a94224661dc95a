-- Statements that are made of decided ones are decided.
use Rattle.std.specs.Prelude.{ℕ, zero, suc, Bool, true, false, IsTrue, IsSomeAnd, List, [], ◌∷◌, Option, Some, None, slice_get}
use Rattle.std.proofs.Common.{refl, subst, inl, inr}
use Rattle.order_core.specs.Members.{IsMember}
use Rattle.order_core.specs.Pointwise.{Each, Pointwise}
use Rattle.round_laws.specs.Decided.{Decided}

pub decided_test : (b : Bool) → Decided (IsTrue b)
decided_test true = inl refl
decided_test false = inr (λ wrong. cc)

-- A statement that means the same.
pub decided_as : (P Q : Type 0) → (P → Q) → (Q → P) → Decided P → Decided Q
decided_as P Q to from (inl p) = inl (to p)
decided_as P Q to from (inr never) = inr (λ q. never (from q))

pub decided_not : (P : Type 0) → Decided P → Decided (P → ⊥)
decided_not P (inl p) = inr (λ never. never p)
decided_not P (inr never) = inl never

pub decided_both : (P Q : Type 0) → Decided P → Decided Q → Decided (P × Q)
decided_both P Q (inr never) second = inr (λ both. never both.0)
decided_both P Q (inl p) (inr never) = inr (λ both. never both.1)
decided_both P Q (inl p) (inl q) = inl (p, q)

-- What can only hold where a decided premise does need be decided there alone.
pub decided_under : (Premise Q : Type 0) → (Q → Premise) → Decided Premise → (Premise → Decided Q) → Decided Q
decided_under Premise Q needs (inl p) there = there p
decided_under Premise Q needs (inr never) there = inr (λ q. never (needs q))

pub decided_option : {A : Type 0} (P : A → Type 0) (o : Option A) → ((x : A) → Decided (P x)) → Decided (IsSomeAnd o P)
decided_option P None decided = inr (λ nothing. nothing)
decided_option P (Some x) decided = decided x

pub decided_each : {A : Type 0} (P : A → Type 0) (xs : List A) → ((x : A) → IsMember x xs → Decided (P x)) → Decided (Each P xs)
decided_each P [] decided = inl tt
decided_each P (x ∷ xs) decided = decided_both (P x) (Each P xs) (decided x (inl refl)) (decided_each P xs (λ y m. decided y (inr m)))

pub decided_pointwise : {A B : Type 0} (R : A → B → Type 0) (xs : List A) (ys : List B) → ((x : A) (y : B) → IsMember x xs → Decided (R x y)) → Decided (Pointwise R xs ys)
decided_pointwise R [] [] decided = inl tt
decided_pointwise R [] (y ∷ ys) decided = inr (λ unequal. unequal)
decided_pointwise R (x ∷ xs) [] decided = inr (λ unequal. unequal)
decided_pointwise R (x ∷ xs) (y ∷ ys) decided =
    decided_both (R x y) (Pointwise R xs ys) (decided x y (inl refl)) (decided_pointwise R xs ys (λ z w m. decided z w (inr m)))

-- Whether some member of a list has the property.
pub decided_member : {A : Type 0} (P : A → Type 0) (xs : List A) → ((x : A) → Decided (P x)) → Decided ((x : A) × IsMember x xs × P x)
decided_member P [] decided = inr (λ found. absurd found.1)
decided_member {A = A} P (x ∷ xs) decided = first_or_later (decided x) (decided_member P xs decided)
  where
    first_or_later : Decided (P x) → Decided ((y : A) × IsMember y xs × P y) → Decided ((y : A) × IsMember y (x ∷ xs) × P y)
    first_or_later (inl p) rest = inl (x, inl refl, p)
    first_or_later (inr never) (inl found) = inl (found.0, inr found.1, found.2)
    first_or_later (inr never) (inr none) = inr (λ found. neither found.0 found.1 found.2)
      where
        neither : (y : A) → IsMember y (x ∷ xs) → P y → ⊥
        neither y (inl same) p = never (subst P same p)
        neither y (inr m) p = none (y, m, p)

-- Whether the item at some place of a list has the property.
pub decided_place : {A : Type 0} (P : A → Type 0) (xs : List A) → ((x : A) → IsMember x xs → Decided (P x)) → Decided ((i : ℕ) × IsSomeAnd (slice_get xs i) P)
decided_place P [] decided = inr (λ found. found.1)
decided_place {A = A} P (x ∷ xs) decided = first_or_later (decided x (inl refl)) (decided_place P xs (λ y m. decided y (inr m)))
  where
    first_or_later : Decided (P x) → Decided ((i : ℕ) × IsSomeAnd (slice_get xs i) P) → Decided ((i : ℕ) × IsSomeAnd (slice_get (x ∷ xs) i) P)
    first_or_later (inl p) rest = inl (zero, p)
    first_or_later (inr never) (inl found) = inl (suc found.0, found.1)
    first_or_later (inr never) (inr none) = inr (λ found. neither found.0 found.1)
      where
        neither : (i : ℕ) → IsSomeAnd (slice_get (x ∷ xs) i) P → ⊥
        neither zero p = never p
        neither (suc i) p = none (i, p)

-- the decision, as a test
abbrev pub is_so : {P : Type 0} → Decided P → Bool
is_so (inl p) = true
is_so (inr never) = false

pub so_holds : {P : Type 0} (d : Decided P) → IsTrue (is_so d) → P
so_holds (inl p) h = p
so_holds (inr never) h = absurd (cc)

pub holds_so : {P : Type 0} (d : Decided P) → P → IsTrue (is_so d)
holds_so (inl q) p = refl
holds_so (inr never) p = absurd (never p)
