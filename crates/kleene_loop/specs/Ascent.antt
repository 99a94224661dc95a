-- What an ascent holds between two calls.
use Rattle.std.specs.List.{list_all, list_any}
use Rattle.std.specs.Prelude.{◌≡◌, cond, ℕ, Bool, IsTrue, List, [], ◌∷◌, ◌++◌, ◌⊎◌, ◌↔◌}
use Rattle.std.proofs.Common.{suc}
use Rattle.order_core.specs.Order.{are_incomparable}
use Rattle.order_core.specs.Members.{IsMember}
use Rattle.antichain.specs.Basis.{Below, IsBasis}
use Rattle.order_core.specs.Chains.{IsMonotone, EndsChain, IsLeastEnd, IsSteady}
use Rattle.kleene_loop.specs.New.{IsNew}

-- The points to ask, those asked that stay, the new least points so far, and those asked that go, in round k.
pub record IsClimb {A : Type 0} (is_value : A → Bool) (leq : A → A → Bool) (leads : A → A → Type 0) (k : ℕ) (todo kept raised left : List A) : Type 0 where
  pub monotone : IsMonotone is_value leq leads
  pub basis : IsBasis leq (EndsChain is_value leq leads k) (todo ++ (kept ++ left))
  pub stays : (x : A) → IsMember x kept → leads x x
  pub goes : (x : A) → IsMember x left → EndsChain is_value leq leads (suc k) x → ⊥
  pub incomparable : IsTrue (are_incomparable leq (raised ++ kept))
  pub ends : (t : A) → IsMember t raised → EndsChain is_value leq leads (suc k) t
  pub above : (t : A) → IsMember t raised → Below leq left t
  pub covers : (x t : A) → IsMember x left → IsTrue (leq x t) → leads x t → Below leq (raised ++ kept) t
  pub new : (x : A) → IsMember x todo → IsNew is_value leq leads k x

-- The points that are raised after some were found: minimal ones of those raised before and of a set, none of them above a kept point, and each of the others above one of them or of the kept ones.
pub record IsRaisedBy {A : Type 0} (leq : A → A → Bool) (U : A → Type 0) (kept raised made : List A) : Type 0 where
  pub incomparable : IsTrue (are_incomparable leq made)
  pub from : (t : A) → IsMember t made → IsMember t raised ⊎ U t
  pub free : (t y : A) → IsMember t made → IsMember y kept → IsTrue (leq y t) → ⊥
  pub covers_old : (t : A) → IsMember t raised → Below leq (made ++ kept) t
  pub covers_new : (t : A) → U t → Below leq (made ++ kept) t

-- Outcomes at x above it, none of them above a kept point, and each other such outcome above one of them or of the kept ones.
pub record AreFound {A : Type 0} (is_value : A → Bool) (leq : A → A → Bool) (leads : A → A → Type 0) (x : A) (kept found : List A) : Type 0 where
  pub values : IsTrue (list_all is_value found)
  pub above : (t : A) → IsMember t found → IsTrue (leq x t) × leads x t
  pub free : (t y : A) → IsMember t found → IsMember y kept → IsTrue (leq y t) → ⊥
  pub complete : (t : A) → IsTrue (leq x t) → leads x t → Below leq (found ++ kept) t

-- What an ascent hands out at the end of round k. The fresh and the settled points are a basis of the ends of chains of k + 1 steps.
pub record IsAscent {A : Type 0} (is_value : A → Bool) (leq : A → A → Bool) (leads : A → A → Type 0) (k : ℕ) (settled fresh left : List A) : Type 0 where
  pub in_settled : (x : A) → IsMember x settled ↔ (IsLeastEnd is_value leq leads (suc k) x × IsLeastEnd is_value leq leads k x)
  pub in_fresh : (x : A) → IsMember x fresh ↔ (IsLeastEnd is_value leq leads (suc k) x × (IsLeastEnd is_value leq leads k x → ⊥))
  pub in_left : (x : A) → IsMember x left ↔ (IsLeastEnd is_value leq leads k x × (EndsChain is_value leq leads (suc k) x → ⊥))
  pub stays : (x : A) → IsMember x settled → leads x x
  pub once : IsTrue (are_incomparable leq (fresh ++ settled)) × IsTrue (are_incomparable leq left)
  pub complete : (t : A) → EndsChain is_value leq leads (suc k) t → Below leq (fresh ++ settled) t
  pub steady : (left ≡ []) ↔ IsSteady is_value leq leads k
  pub none_fresh : left ≡ [] → fresh ≡ []

-- P of the first item, and there is one
abbrev pub FirstHas : {A : Type 0} → List A → (A → Type 0) → Type 0
FirstHas [] P = ⊥
FirstHas (x ∷ xs) P = P x

-- The first point leaves those to ask, and joins the kept ones where some outcome is at most it, the others where none is.
abbrev pub IsAnswered : {A : Type 0} → (A → A → Bool) → List A → List A → List A → List A → List A → List A → List A → Type 0
IsAnswered leq outcomes [] kept left todo2 kept2 left2 = ⊥
IsAnswered leq outcomes (x ∷ todo) kept left todo2 kept2 left2 =
    (todo2 ≡ todo) × (kept2 ≡ cond (list_any (λ o. leq o x) outcomes) (kept ++ x ∷ []) kept) × (left2 ≡ cond (list_any (λ o. leq o x) outcomes) left (left ++ x ∷ []))

-- The first item of one list becomes the last of another.
abbrev pub Moves : {A : Type 0} → List A → List A → List A → List A → Type 0
Moves {A = A} from rest to longer = (x : A) × (from ≡ x ∷ rest) × (longer ≡ to ++ x ∷ [])
