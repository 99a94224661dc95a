-- What a reference denotes measures what its forms say.
use Rattle.std.specs.Prelude.{◌≡◌, ℕ, zero, suc, List, [], ◌∷◌, length, map, Option, Some, slice_get}
use Rattle.std.proofs.Common.{refl, sym, ap, ap₂, ◌∙◌}
use Rattle.order_core.specs.Pointwise.{Pointwise}
use Rattle.design_measure.proofs.MeasuredLemmas.{measured-Cat, measured-Net, measured-choice_of, measures}
use Rattle.design_measure.specs.Scales.{AreForms, Measure, Scale, body_value, links_value, measured, or_zero, refer_step, refer_value, total, value_in}
use Rattle.design_measure.specs.declared.form.Form.{Form}
use Rattle.design_model.specs.declared.design.Design.{Design}
use Rattle.design_model.specs.declared.design.Part.{Part}
use Rattle.reference_meaning.specs.Modules.{BodyMakes, IsLinked, MakesAt, MakesIn, Modules}
use Rattle.reference_meaning.specs.declared.module.Link.{Link}
use Rattle.reference_meaning.specs.declared.module.Module.{Module}
use Rattle.reference_meaning.specs.declared.module.ModuleBody.{ModuleBody}
use Rattle.reference_meaning.specs.declared.module.ModuleBody.TheVariants as body
use Rattle.reference_meaning.specs.declared.module.Resolved.{Resolved, fold_out-Resolved, map-Resolved, out-Resolved}
use Rattle.reference_meaning.specs.declared.module.Resolved.TheOpen.{Resolved-F}

-- one level of what a reference measures
abbrev pub refer_at : Scale → List Form → List ℕ → Resolved-F Resolved → ℕ
refer_at a forms values (Resolved-F.Parameter k) = or_zero (slice_get values k)
refer_at a forms values (Resolved-F.Module i arguments) = value_in a (slice_get forms i) (map (refer_value a forms values) arguments)

pub refer_value-out : (a : Scale) (forms : List Form) (values : List ℕ) (r : Resolved) → refer_value a forms values r ≡ refer_at a forms values (out-Resolved r)
refer_value-out a forms values r = fold_out-Resolved ℕ (refer_step a forms values) r ∙ go (out-Resolved r)
  where
    go : (x : Resolved-F Resolved) → refer_step a forms values (map-Resolved Resolved ℕ (refer_value a forms values) x) ≡ refer_at a forms values x
    go (Resolved-F.Parameter k) = refl
    go (Resolved-F.Module i arguments) = refl

module _ (m : Measure) (forms : List Form) (values : List ℕ) (S : Resolved → Design → Type 0)
    (says : (r : Resolved) (X : Design) → S r X → measured m X ≡ refer_value m.scale forms values r) where
  parts_total : (links : List Link) (parts : List Part) → Pointwise (IsLinked S) links parts → total m.scale (measures m parts) ≡ links_value m.scale forms values links
  parts_total [] [] h = refl
  parts_total [] (p ∷ ps) h = absurd h
  parts_total (l ∷ ls) [] h = absurd h
  parts_total (l ∷ ls) (p ∷ ps) h = ap₂ m.scale.plus (says l.reference p.design h.0.denotes) (parts_total ls ps h.1)

  pub body_says : (named : Module) (b : ModuleBody) (X : Design) → BodyMakes S named b X → measured m X ≡ body_value m forms values b
  body_says named (body.Catalogue rows) X h = ap (measured m) h ∙ measured-Cat m named.provides named.requires_ rows
  body_says named (body.Choice branches) X h = ap (measured m) h.2 ∙ measured-choice_of m h.0 ∙ ap (λ t. m.scale.plus m.choice (m.scale.times m.step t)) (parts_total branches h.0 h.1)
  body_says named (body.Net parts constraints) X h =
      ap (measured m) h.2 ∙ measured-Net m named.provides named.requires_ h.0 constraints ∙ ap (λ t. m.scale.plus (m.net (length constraints)) (m.scale.times m.step t)) (parts_total parts h.0 h.1)

given_measured : (m : Measure) (given : List Design) (k : ℕ) (X : Design) → slice_get given k ≡ Some X → or_zero (slice_get (map (measured m) given) k) ≡ measured m X
given_measured m [] k X e = absurd (cc)
given_measured m (d ∷ ds) zero X e = let same : d ≡ X = cc in ap (measured m) same
given_measured m (d ∷ ds) (suc k) X e = given_measured m ds k X e

module _ (m : Measure) (modules : Modules) (forms : List Form) (are : AreForms m modules forms) where
  arguments_say : (S : Resolved → Design → Type 0) (values : List ℕ) → ((r : Resolved) (X : Design) → S r X → measured m X ≡ refer_value m.scale forms values r)
      → (arguments : List Resolved) (inner : List Design) → Pointwise S arguments inner → map (measured m) inner ≡ map (refer_value m.scale forms values) arguments
  arguments_say S values says [] [] h = refl
  arguments_say S values says [] (d ∷ ds) h = absurd h
  arguments_say S values says (r ∷ rs) [] h = absurd h
  arguments_say S values says (r ∷ rs) (d ∷ ds) h = ap₂ (λ (x : ℕ) (xs : List ℕ). x ∷ xs) (says r d h.0) (arguments_say S values says rs ds h.1)

  pub denoted_says : (n : ℕ) (given : List Design) (r : Resolved) (X : Design) → MakesIn modules n given r X → measured m X ≡ refer_value m.scale forms (map (measured m) given) r
  unfolding MakesIn
  denoted_says zero given r X h = absurd h
  denoted_says (suc n) given r X h = at (out-Resolved r) h (λ g s Y. denoted_says n g s Y) ∙ sym (refer_value-out m.scale forms (map (measured m) given) r)
    where
      at : (x : Resolved-F Resolved) → MakesAt modules (MakesIn modules n) given x X → ((g : List Design) (s : Resolved) (Y : Design) → MakesIn modules n g s Y → measured m Y ≡ refer_value m.scale forms (map (measured m) g) s)
          → measured m X ≡ refer_at m.scale forms (map (measured m) given) x
      at (Resolved-F.Parameter k) e says = sym (given_measured m given k X e)
      at (Resolved-F.Module i arguments) w says =
          let form = are i w.named w.there in
          let inner = arguments_say (MakesIn modules n given) (map (measured m) given) (says given) arguments w.inner w.bound in
          body_says m forms (map (measured m) w.inner) (MakesIn modules n w.inner) (says w.inner) w.named w.named.body X w.denotes
          ∙ sym (form.2 (map (measured m) w.inner)) ∙ ap (value_in m.scale (Some form.0)) inner ∙ ap (λ (o : Option Form). value_in m.scale o (map (refer_value m.scale forms (map (measured m) given)) arguments)) (sym form.1)
