-- Chains of a relation, and where they must close.
use Rattle.std.proofs.Common.{refl, subst, inl, inr}
use Rattle.std.specs.Prelude.{ℕ, zero, suc, List, [], ◌∷◌, ◌⊎◌}
use Rattle.model_laws.specs.Cycles.{Leads, LeadsTo}
use Rattle.order_core.specs.Members.{IsMember}

joined : {A : Type 0} (R : A → A → Type 0) (n : ℕ) (a b c : A) → Leads R n a b → LeadsTo R b c → LeadsTo R a c
joined R zero a b c h k = (suc k.0, (b, h, k.1))
joined R (suc n) a b c h k = let rest = joined R n h.0 b c h.2 k in (suc rest.0, (h.0, h.1, rest.1))

-- A step past x counts as one.
abbrev Past : {A : Type 0} → (A → A → Type 0) → A → A → A → Type 0
Past R x a b = R a b ⊎ (R a x × R x b)

past_leads : {A : Type 0} (R : A → A → Type 0) (x a b : A) → Past R x a b → LeadsTo R a b
past_leads R x a b (inl h) = (zero, h)
past_leads R x a b (inr h) = (suc zero, (x, h.0, h.1))

all_past : {A : Type 0} (R : A → A → Type 0) (x : A) (n : ℕ) (a b : A) → Leads (Past R x) n a b → LeadsTo R a b
all_past R x zero a b h = past_leads R x a b h
all_past R x (suc n) a b h = let one = past_leads R x a h.0 h.1 in joined R one.0 a h.0 b one.1 (all_past R x n h.0 b h.2)

-- Where each item of a list leads to one of the list, some chain closes.
pub closes : {A : Type 0} (xs : List A) (R : A → A → Type 0) (x : A) → IsMember x xs → ((a : A) → IsMember a xs → (b : A) × IsMember b xs × R a b) → (a : A) × LeadsTo R a a
closes [] R x m next = absurd m
closes {A = A} (y ∷ ys) R x m next = go (next y (inl refl)) (λ z k. closes ys (Past R y) z k)
  where
    after : (q : A) → IsMember q ys → R y q → (a : A) → (b : A) × IsMember b (y ∷ ys) × R a b → (b : A) × IsMember b ys × Past R y a b
    after q k r a (b, inl e, s) = (q, k, inr (subst (R a) e s, r))
    after q k r a (b, inr n, s) = (b, n, inl s)

    go : (b : A) × IsMember b (y ∷ ys) × R y b → ((z : A) → IsMember z ys → ((a : A) → IsMember a ys → (b : A) × IsMember b ys × Past R y a b) → (a : A) × LeadsTo (Past R y) a a) → (a : A) × LeadsTo R a a
    go (b, inl e, r) rest = (y, (zero, subst (R y) e r))
    go (b, inr k, r) rest =
        let found = rest b k (λ a n. after b k r a (next a (inr n))) in
        (found.0, all_past R y found.1.0 found.0 found.0 found.1.1)
