-- Each type has its own form, and types of one form and the same dimensions are one.
use Rattle.std.specs.Prelude.{◌≡◌, ℕ, Bool, true, IsTrue, List, [], ◌∷◌, map}
use Rattle.std.proofs.Common.{refl, sym, ap, subst, ◌∙◌}
use Rattle.std.proofs.lemmas.Bool.{eqb-true, eq-eqb}
use Rattle.order_core.specs.MemberLaws.{first, second, both}
use Rattle.order_core.specs.Tuple.{are_values}
use Rattle.unit_core.specs.declared.dim.Dim.{Dim}
use Rattle.unit_core.specs.Dimension.{same_dim}
use Rattle.unit_core.specs.DimensionLaws.{same_dim_is, same_dim_itself}
use Rattle.value_type.specs.declared.kind.Kind.{Kind, out-Kind, roll-Kind, roll-out-Kind, map-Kind}
use Rattle.value_type.specs.declared.kind.Kind.TheFolds.{fold-Kind, fold_out-Kind, ind-Kind}
use Rattle.value_type.specs.declared.kind.Kind.TheOpen.{Kind-F}
use Rattle.value_type.specs.declared.kind.Kind.TheVariants as kind
use Rattle.value_type.specs.SameForm.{form_step, forms_match, same_form, same_kind}

pub seen : (k : Kind) (x : Kind-F Kind) → out-Kind k ≡ x → k ≡ roll-Kind x
seen k x e = sym (roll-out-Kind k) ∙ ap roll-Kind e

module _ (dims : Dim → Dim → Bool) where
  pub match-Num : (dim : Dim) (b : Kind) → forms_match dims (kind.Num dim) b ≡ form_step dims (Kind-F.Num dim) (out-Kind b)
  match-Num dim b = rw (fold_out-Kind, kind.outs-Num) refl

  pub match-Fin : (k : ℕ) (b : Kind) → forms_match dims (kind.Fin k) b ≡ form_step dims (Kind-F.Fin k) (out-Kind b)
  match-Fin k b = rw (fold_out-Kind, kind.outs-Fin) refl

  pub match-Prod : (ks : List Kind) (b : Kind) → forms_match dims (kind.Prod ks) b ≡ form_step dims (Kind-F.Prod (map (forms_match dims) ks)) (out-Kind b)
  match-Prod ks b = rw (fold_out-Kind, kind.outs-Prod) refl

  pub match-Up : (k : ℕ) (b : Kind) → forms_match dims (kind.Up k) b ≡ form_step dims (Kind-F.Up k) (out-Kind b)
  match-Up k b = rw (fold_out-Kind, kind.outs-Up) refl

  module _ (itself : (dim : Dim) → IsTrue (dims dim dim)) where
    abbrev IsOwn : Kind → Type 0
    IsOwn k = IsTrue (forms_match dims k k)

    parts_own : (es : List ((k : Kind) × IsOwn k)) → IsTrue (are_values (map (forms_match dims) (map (λ e. e.0) es)) (map (λ e. e.0) es))
    parts_own [] = refl
    parts_own (e ∷ es) = both _ _ e.1 (parts_own es)

    own : (y : Kind-F ((k : Kind) × IsOwn k)) → IsOwn (roll-Kind (map-Kind ((k : Kind) × IsOwn k) Kind (λ e. e.0) y))
    own (Kind-F.Num dim) = subst IsOwn (sym (kind.rolls-Num dim)) (rw (match-Num, kind.outs-Num) (itself dim))
    own (Kind-F.Fin k) = subst IsOwn (sym (kind.rolls-Fin k)) (rw (match-Fin, kind.outs-Fin) (eq-eqb k k refl))
    own (Kind-F.Prod es) = subst IsOwn (sym (kind.rolls-Prod (map (λ e. e.0) es))) (rw (match-Prod, kind.outs-Prod) (parts_own es))
    own (Kind-F.Up k) = subst IsOwn (sym (kind.rolls-Up k)) (rw (match-Up, kind.outs-Up) (eq-eqb k k refl))

    -- Each type matches itself.
    pub match_itself : (k : Kind) → IsTrue (forms_match dims k k)
    match_itself = ind-Kind IsOwn (λ x y is. subst (λ z. IsOwn (roll-Kind z)) is (own y))

pub same_form_itself : (k : Kind) → IsTrue (same_form k k)
same_form_itself = match_itself (λ a b. true) (λ dim. refl)

pub same_kind_itself : (k : Kind) → IsTrue (same_kind k k)
same_kind_itself = match_itself same_dim same_dim_itself

abbrev IsOnly : Kind → Type 0
IsOnly a = (b : Kind) → IsTrue (same_kind a b) → a ≡ b

abbrev Claimed : Type 0
Claimed = (k : Kind) × IsOnly k

parts_only : (es : List Claimed) (ks : List Kind) → IsTrue (are_values (map same_kind (map (λ e. e.0) es)) ks) → map (λ e. e.0) es ≡ ks
parts_only [] [] h = refl
parts_only [] (k ∷ ks) h = absurd (cc)
parts_only (e ∷ es) [] h = absurd (cc)
parts_only (e ∷ es) (k ∷ ks) h =
    let head : e.0 ≡ k = e.1 k (first _ _ h) in
    let tail : map (λ e. e.0) es ≡ ks = parts_only es ks (second (same_kind e.0 k) _ h) in cc

num_only : (dim : Dim) → IsOnly (kind.Num dim)
num_only dim b h = go (out-Kind b) refl (rw match-Num at h)
  where
    go : (x : Kind-F Kind) → out-Kind b ≡ x → IsTrue (form_step same_dim (Kind-F.Num dim) x) → kind.Num dim ≡ b
    go (Kind-F.Num other) e k = ap kind.Num (same_dim_is dim other k) ∙ sym (seen b (Kind-F.Num other) e ∙ kind.rolls-Num other)
    go _ e k = absurd (cc)

fin_only : (n : ℕ) → IsOnly (kind.Fin n)
fin_only n b h = go (out-Kind b) refl (rw match-Fin at h)
  where
    go : (x : Kind-F Kind) → out-Kind b ≡ x → IsTrue (form_step same_dim (Kind-F.Fin n) x) → kind.Fin n ≡ b
    go (Kind-F.Fin other) e k = ap kind.Fin (eqb-true n other k) ∙ sym (seen b (Kind-F.Fin other) e ∙ kind.rolls-Fin other)
    go _ e k = absurd (cc)

up_only : (n : ℕ) → IsOnly (kind.Up n)
up_only n b h = go (out-Kind b) refl (rw match-Up at h)
  where
    go : (x : Kind-F Kind) → out-Kind b ≡ x → IsTrue (form_step same_dim (Kind-F.Up n) x) → kind.Up n ≡ b
    go (Kind-F.Up other) e k = ap kind.Up (eqb-true n other k) ∙ sym (seen b (Kind-F.Up other) e ∙ kind.rolls-Up other)
    go _ e k = absurd (cc)

prod_only : (es : List Claimed) → IsOnly (kind.Prod (map (λ e. e.0) es))
prod_only es b h = go (out-Kind b) refl (rw match-Prod at h)
  where
    go : (x : Kind-F Kind) → out-Kind b ≡ x → IsTrue (form_step same_dim (Kind-F.Prod (map same_kind (map (λ e. e.0) es))) x) → kind.Prod (map (λ e. e.0) es) ≡ b
    go (Kind-F.Prod ks) e k = ap kind.Prod (parts_only es ks k) ∙ sym (seen b (Kind-F.Prod ks) e ∙ kind.rolls-Prod ks)
    go _ e k = absurd (cc)

only : (y : Kind-F Claimed) → IsOnly (roll-Kind (map-Kind Claimed Kind (λ e. e.0) y))
only (Kind-F.Num dim) = subst IsOnly (sym (kind.rolls-Num dim)) (num_only dim)
only (Kind-F.Fin k) = subst IsOnly (sym (kind.rolls-Fin k)) (fin_only k)
only (Kind-F.Prod es) = subst IsOnly (sym (kind.rolls-Prod (map (λ e. e.0) es))) (prod_only es)
only (Kind-F.Up k) = subst IsOnly (sym (kind.rolls-Up k)) (up_only k)

-- Types of one form and the same dimensions are one.
pub same_kind_is : (a b : Kind) → IsTrue (same_kind a b) → a ≡ b
same_kind_is = ind-Kind IsOnly (λ x y is. subst (λ z. IsOnly (roll-Kind z)) is (only y))

-- What is worked out from a type, and takes all number types as one, is the same for types of one form.
module _ (X : Type 0) (step : Kind-F X → X) (one : (a b : Dim) → step (Kind-F.Num a) ≡ step (Kind-F.Num b)) where
  abbrev folded : Kind → X
  folded = fold-Kind X step

  at-Num : (dim : Dim) → folded (kind.Num dim) ≡ step (Kind-F.Num dim)
  at-Num dim = rw (fold_out-Kind, kind.outs-Num) refl

  at-Prod : (ks : List Kind) → folded (kind.Prod ks) ≡ step (Kind-F.Prod (map folded ks))
  at-Prod ks = rw (fold_out-Kind, kind.outs-Prod) refl

  abbrev IsShared : Kind → Type 0
  IsShared a = (b : Kind) → IsTrue (same_form a b) → folded a ≡ folded b

  abbrev Shared : Type 0
  Shared = (k : Kind) × IsShared k

  is : (b : Kind) (x : Kind-F Kind) (y : Kind) → out-Kind b ≡ x → roll-Kind x ≡ y → y ≡ b
  is b x y e f = sym f ∙ sym (seen b x e)

  num_shared : (dim : Dim) → IsShared (kind.Num dim)
  num_shared dim b h = go (out-Kind b) refl (rw match-Num at h)
    where
      go : (x : Kind-F Kind) → out-Kind b ≡ x → IsTrue (form_step (λ a b. true) (Kind-F.Num dim) x) → folded (kind.Num dim) ≡ folded b
      go (Kind-F.Num other) e k = at-Num dim ∙ (one dim other ∙ (sym (at-Num other) ∙ ap folded (is b (Kind-F.Num other) (kind.Num other) e (kind.rolls-Num other))))
      go _ e k = absurd (cc)

  fin_shared : (n : ℕ) → IsShared (kind.Fin n)
  fin_shared n b h = go (out-Kind b) refl (rw match-Fin at h)
    where
      go : (x : Kind-F Kind) → out-Kind b ≡ x → IsTrue (form_step (λ a b. true) (Kind-F.Fin n) x) → folded (kind.Fin n) ≡ folded b
      go (Kind-F.Fin other) e k = ap folded (ap kind.Fin (eqb-true n other k) ∙ is b (Kind-F.Fin other) (kind.Fin other) e (kind.rolls-Fin other))
      go _ e k = absurd (cc)

  up_shared : (n : ℕ) → IsShared (kind.Up n)
  up_shared n b h = go (out-Kind b) refl (rw match-Up at h)
    where
      go : (x : Kind-F Kind) → out-Kind b ≡ x → IsTrue (form_step (λ a b. true) (Kind-F.Up n) x) → folded (kind.Up n) ≡ folded b
      go (Kind-F.Up other) e k = ap folded (ap kind.Up (eqb-true n other k) ∙ is b (Kind-F.Up other) (kind.Up other) e (kind.rolls-Up other))
      go _ e k = absurd (cc)

  parts_shared : (es : List Shared) (ks : List Kind) → IsTrue (are_values (map same_form (map (λ e. e.0) es)) ks) → map folded (map (λ e. e.0) es) ≡ map folded ks
  parts_shared [] [] h = refl
  parts_shared [] (k ∷ ks) h = absurd (cc)
  parts_shared (e ∷ es) [] h = absurd (cc)
  parts_shared (e ∷ es) (k ∷ ks) h =
      let head : folded e.0 ≡ folded k = e.1 k (first _ _ h) in
      let tail : map folded (map (λ e. e.0) es) ≡ map folded ks = parts_shared es ks (second (same_form e.0 k) _ h) in
      λ i. head i ∷ tail i

  prod_shared : (es : List Shared) → IsShared (kind.Prod (map (λ e. e.0) es))
  prod_shared es b h = go (out-Kind b) refl (rw match-Prod at h)
    where
      go : (x : Kind-F Kind) → out-Kind b ≡ x → IsTrue (form_step (λ a b. true) (Kind-F.Prod (map same_form (map (λ e. e.0) es))) x) → folded (kind.Prod (map (λ e. e.0) es)) ≡ folded b
      go (Kind-F.Prod ks) e k = at-Prod (map (λ e. e.0) es)
          ∙ (ap (λ (ys : List X). step (Kind-F.Prod ys)) (parts_shared es ks k) ∙ (sym (at-Prod ks) ∙ ap folded (is b (Kind-F.Prod ks) (kind.Prod ks) e (kind.rolls-Prod ks))))
      go _ e k = absurd (cc)

  shared : (y : Kind-F Shared) → IsShared (roll-Kind (map-Kind Shared Kind (λ e. e.0) y))
  shared (Kind-F.Num dim) = subst IsShared (sym (kind.rolls-Num dim)) (num_shared dim)
  shared (Kind-F.Fin k) = subst IsShared (sym (kind.rolls-Fin k)) (fin_shared k)
  shared (Kind-F.Prod es) = subst IsShared (sym (kind.rolls-Prod (map (λ e. e.0) es))) (prod_shared es)
  shared (Kind-F.Up k) = subst IsShared (sym (kind.rolls-Up k)) (up_shared k)

  pub shared_by_form : (a b : Kind) → IsTrue (same_form a b) → folded a ≡ folded b
  shared_by_form = ind-Kind IsShared (λ x y is. subst (λ z. IsShared (roll-Kind z)) is (shared y))
