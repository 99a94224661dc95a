-- What is denoted stays the same along a trail.
use Rattle.std.specs.Prelude.{◌≡◌, ℕ, zero, suc, ◌<◌, List, [], ◌∷◌, length, option_and_then, slice_get, Option, Some, None}
use Rattle.std.proofs.Common.{refl, sym, ap, subst, ◌∙◌, get_or}
use Rattle.std.proofs.lemmas.Option.{slice_get-get_or}
use Rattle.order_core.specs.Pointwise.{Pointwise}
use Rattle.order_core.specs.PointwiseLaws.{pointwise_got}
use Rattle.design_model.specs.declared.design.Design.{Design}
use Rattle.design_model.specs.declared.design.Part.{Part}
use Rattle.reference_meaning.specs.Modules.{IsLinked, MakesAt, MakesIn, Modules, NamesModule}
use Rattle.reference_meaning.specs.declared.module.Link.{Link}
use Rattle.reference_meaning.specs.declared.module.Module.{Module}
use Rattle.reference_meaning.specs.declared.module.Resolved.{Resolved, out-Resolved}
use Rattle.reference_meaning.specs.declared.module.Resolved.TheOpen.{Resolved-F}
use Rattle.reference_meaning.specs.declared.module.Resolved.TheVariants as resolved
use Rattle.template_expand.specs.Trails.{BodyBeneath, MakesBeneath, PartsBeneath, StandFor, Stands, followed, given_for, original}

-- The partner of an item, found by its own partner.
partner_got : {A B : Type 0} (R : A → B → Type 0) (xs : List A) (ys : List B) (i : ℕ) (x : A) (y : B) → Pointwise R xs ys → slice_get xs i ≡ Some x → slice_get ys i ≡ Some y → R x y
partner_got R xs ys i x y p e f =
    let got = pointwise_got R xs ys i x p e in
    let same : got.0 ≡ y = some_same got.0 y (sym got.1 ∙ f) in subst (R x) same got.2
  where
    some_same : {A : Type 0} (x y : A) → Some x ≡ Some y → x ≡ y
    some_same x y e = cc

-- Nothing that the innermost arguments give is meant.
abbrev pub IsFree : List (List Resolved) → Resolved-F Resolved → Type 0
IsFree [] x = Unit {0}
IsFree (arguments ∷ outer) x = given_for arguments x ≡ None

partner_none : {A B : Type 0} (R : A → B → Type 0) (xs : List A) (ys : List B) (i : ℕ) (y : B) → Pointwise R xs ys → slice_get xs i ≡ None → slice_get ys i ≡ Some y → ⊥
partner_none R [] [] i y p e f = absurd (cc)
partner_none R [] (z ∷ ys) i y p e f = absurd p
partner_none R (x ∷ xs) [] i y p e f = absurd p
partner_none R (x ∷ xs) (z ∷ ys) zero y p e f = absurd (cc)
partner_none R (x ∷ xs) (z ∷ ys) (suc i) y p e f = partner_none R xs ys i y p.1 e f

module _ (modules : Modules) where
  -- An argument denotes, further out, what its parameter denotes.
  given_denotes : (arguments : List Resolved) (outer : List (List Resolved)) (r a : Resolved) (X : Design) → given_for arguments (out-Resolved r) ≡ Some a → MakesBeneath modules (arguments ∷ outer) r X → MakesBeneath modules outer a X
  unfolding StandFor MakesIn
  given_denotes arguments outer r a X e p = record { given = p.stand_for.0; stand_for = p.stand_for.1; steps = p.stand_for.2.0; holds = at p.steps (out-Resolved r) refl e p.holds }
    where
      at : (n : ℕ) (x : Resolved-F Resolved) → out-Resolved r ≡ x → given_for arguments x ≡ Some a → MakesIn modules n p.given r X → MakesIn modules p.stand_for.2.0 p.stand_for.0 a X
      at zero x is e h = absurd h
      at (suc n) (Resolved-F.Parameter k) is e h =
          partner_got (MakesIn modules p.stand_for.2.0 p.stand_for.0) arguments p.given k a X p.stand_for.2.1 e (subst (λ y. MakesAt modules (MakesIn modules n) p.given y X) is h)
      at (suc n) (Resolved-F.Module number inner) is e h = absurd (cc)

  -- A reference denotes what the reference that it leads to denotes.
  pub original_denotes : (trail : List (List Resolved)) (r : Resolved) (X : Design) → MakesBeneath modules trail r X → MakesBeneath modules (original trail r).trail (original trail r).reference X
  unfolding original
  original_denotes [] r X p = p
  original_denotes (arguments ∷ outer) r X p = at (given_for arguments (out-Resolved r)) refl (λ a. original_denotes outer a X)
    where
      at : (o : Option Resolved) → given_for arguments (out-Resolved r) ≡ o → ((a : Resolved) → MakesBeneath modules outer a X → MakesBeneath modules (original outer a).trail (original outer a).reference X)
          → MakesBeneath modules (followed o (record { trail = arguments ∷ outer; reference = r }) (original outer)).trail (followed o (record { trail = arguments ∷ outer; reference = r }) (original outer)).reference X
      at None e next = p
      at (Some a) e next = next a (given_denotes arguments outer r a X e p)

  pub original_is_free : (trail : List (List Resolved)) (r : Resolved) → IsFree (original trail r).trail (out-Resolved (original trail r).reference)
  unfolding original
  original_is_free [] r = tt
  original_is_free (arguments ∷ outer) r = at (given_for arguments (out-Resolved r)) refl (original_is_free outer)
    where
      at : (o : Option Resolved) → given_for arguments (out-Resolved r) ≡ o → ((a : Resolved) → IsFree (original outer a).trail (out-Resolved (original outer a).reference))
          → IsFree (followed o (record { trail = arguments ∷ outer; reference = r }) (original outer)).trail (out-Resolved (followed o (record { trail = arguments ∷ outer; reference = r }) (original outer)).reference)
      at None e next = e
      at (Some a) e next = next a

  -- A parameter that nothing is given for denotes nothing.
  never_parameter : (trail : List (List Resolved)) (r : Resolved) (k : ℕ) (X : Design) → r ≡ resolved.Parameter k → IsFree trail (out-Resolved r) → MakesBeneath modules trail r X → ⊥
  unfolding StandFor MakesIn
  never_parameter trail r k X is free p = at p.steps p.holds
    where
      out_is : out-Resolved r ≡ Resolved-F.Parameter k
      out_is = ap out-Resolved is ∙ resolved.outs-Parameter k

      none : (trail : List (List Resolved)) (given : List Design) → StandFor modules trail given → IsFree trail (Resolved-F.Parameter k) → slice_get given k ≡ Some X → ⊥
      none [] given s free e = let clash : slice_get [] k ≡ Some X = sym (ap (λ (ds : List Design). slice_get ds k) s) ∙ e in absurd (cc)
      none (arguments ∷ outer) given s free e = partner_none (MakesIn modules s.2.0 s.0) arguments given k X s.2.1 free e

      at : (n : ℕ) → MakesIn modules n p.given r X → ⊥
      at zero h = absurd h
      at (suc n) h = none trail p.given p.stand_for (subst (IsFree trail) out_is free) (subst (λ y. MakesAt modules (MakesIn modules n) p.given y X) out_is h)

  -- A reference to a module denotes what its body denotes, one list of arguments further in.
  pub record Entered (trail : List (List Resolved)) (number : ℕ) (arguments : List Resolved) (X : Design) : Type 0 where
    pub named : Module
    pub there : slice_get modules number ≡ Some (Some named)
    pub denotes : BodyBeneath modules (arguments ∷ trail) named X

  entered : (trail : List (List Resolved)) (r : Resolved) (number : ℕ) (arguments : List Resolved) (X : Design) → r ≡ resolved.Module number arguments → MakesBeneath modules trail r X → Entered trail number arguments X
  unfolding StandFor MakesIn
  entered trail r number arguments X is p = at p.steps p.holds
    where
      out_is : out-Resolved r ≡ Resolved-F.Module number arguments
      out_is = ap out-Resolved is ∙ resolved.outs-Module number arguments

      at : (n : ℕ) → MakesIn modules n p.given r X → Entered trail number arguments X
      at zero h = absurd h
      at (suc n) h =
          let w : NamesModule modules (MakesIn modules n) p.given number arguments X = subst (λ y. MakesAt modules (MakesIn modules n) p.given y X) out_is h in record {
            named = w.named;
            there = w.there;
            denotes = record { given = w.inner; stand_for = (p.given, p.stand_for, (n, w.bound)); steps = n; holds = w.denotes };
          }

  -- ---- along a trail

  module _ (trail : List (List Resolved)) (r : Resolved) (from : Stands) (from_is : from ≡ original trail r) (X : Design) (p : MakesBeneath modules trail r X) where
    here : MakesBeneath modules from.trail from.reference X
    here = subst (λ (s : Stands). MakesBeneath modules s.trail s.reference X) (sym from_is) (original_denotes trail r X p)

    free : IsFree from.trail (out-Resolved from.reference)
    free = subst (λ (s : Stands). IsFree s.trail (out-Resolved s.reference)) (sym from_is) (original_is_free trail r)

    pub leads_to_no_parameter : (k : ℕ) → from.reference ≡ resolved.Parameter k → ⊥
    leads_to_no_parameter k is = never_parameter from.trail from.reference k X is free here

    pub leads_somewhere : (number : ℕ) (arguments : List Resolved) → from.reference ≡ resolved.Module number arguments → option_and_then (λ named. named) (slice_get modules number) ≡ None → ⊥
    leads_somewhere number arguments is none =
        let e = entered from.trail from.reference number arguments X is here in
        let clash : Some e.named ≡ None = sym (ap (option_and_then (λ named. named)) e.there) ∙ none in absurd (cc)

    pub leads_into : (number : ℕ) (arguments : List Resolved) (named : Module) (inner : List (List Resolved)) → from.reference ≡ resolved.Module number arguments → option_and_then (λ named. named) (slice_get modules number) ≡ Some named
        → inner ≡ arguments ∷ from.trail → BodyBeneath modules inner named X
    leads_into number arguments named inner is there inner_is =
        let e = entered from.trail from.reference number arguments X is here in
        let same : Some e.named ≡ Some named = sym (ap (option_and_then (λ named. named)) e.there) ∙ there in
        let alike : e.named ≡ named = cc in
        subst (λ t. BodyBeneath modules t named X) (sym inner_is) (subst (λ (m : Module). BodyBeneath modules (arguments ∷ from.trail) m X) alike e.denotes)

-- The part that the link at a place denotes.
pub record PartAt (modules : Modules) (trail : List (List Resolved)) (ps : List Part) (i : ℕ) (l : Link) : Type 0 where
  pub part : Part
  pub there : slice_get ps i ≡ Some part
  pub name : part.name ≡ l.name
  pub denotes : MakesBeneath modules trail l.reference part.design

pub part_at : (modules : Modules) (trail : List (List Resolved)) (links : List Link) (ps : List Part) (i : ℕ) (l : Link) → PartsBeneath modules trail links ps → i < length links → l ≡ get_or links i l → PartAt modules trail ps i l
part_at modules trail links ps i l p inside is =
    let got = pointwise_got (IsLinked (MakesIn modules p.steps p.given)) links ps i l p.holds (slice_get-get_or links i l inside ∙ ap Some (sym is)) in
    record { part = got.0; there = got.1; name = got.2.name; denotes = record { given = p.given; stand_for = p.stand_for; steps = p.steps; holds = got.2.denotes } }
