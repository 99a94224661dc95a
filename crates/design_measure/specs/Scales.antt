-- Ways to measure designs, and the linear forms of the measures.
use Rattle.std.specs.Prelude.{◌≡◌, ◌<◌, ℕ, List, [], ◌∷◌, length, map, Option, Some, None, set, slice_get}
use Rattle.design_measure.specs.declared.form.Form.{Form}
use Rattle.design_model.specs.declared.design.Design.{Design, fold-Design}
use Rattle.design_model.specs.declared.design.Design.TheOpen.{Design-F}
use Rattle.reference_meaning.specs.Modules.{Modules}
use Rattle.reference_meaning.specs.declared.module.Link.{Link}
use Rattle.reference_meaning.specs.declared.module.Module.{Module}
use Rattle.reference_meaning.specs.declared.module.ModuleBody.{ModuleBody}
use Rattle.reference_meaning.specs.declared.module.ModuleBody.TheVariants as body
use Rattle.reference_meaning.specs.declared.module.Resolved.{Resolved, fold-Resolved}
use Rattle.reference_meaning.specs.declared.module.Resolved.TheOpen.{Resolved-F}

-- How values are added, and multiplied by a factor.
pub record Scale : Type 0 where
  pub plus : ℕ → ℕ → ℕ
  pub times : ℕ → ℕ → ℕ

-- Sums may be taken in any order, a factor goes through a sum, and nothing times anything is nothing.
pub record IsScale (a : Scale) : Type 0 where
  pub swap : (x y : ℕ) → a.plus x y ≡ a.plus y x
  pub assoc : (x y z : ℕ) → a.plus (a.plus x y) z ≡ a.plus x (a.plus y z)
  pub zero_twice : a.plus 0 0 ≡ 0
  pub zero_plus : (x y : ℕ) → a.plus 0 (a.plus x y) ≡ a.plus x y
  pub zero_times : (x : ℕ) → a.times 0 x ≡ 0
  pub times_zero : (x : ℕ) → a.times x 0 ≡ 0
  pub factor_sum : (x y z : ℕ) → a.times (a.plus x y) z ≡ a.plus (a.times x z) (a.times y z)
  pub value_sum : (x y z : ℕ) → a.times x (a.plus y z) ≡ a.plus (a.times x y) (a.times x z)
  pub factors : (x y z : ℕ) → a.times (a.times x y) z ≡ a.times x (a.times y z)

-- A way to measure designs: how values go together, what a catalogue of so many rows measures, what a choice or a net of so many constraints has of its own, and the factor of its branches or parts.
pub record Measure : Type 0 where
  pub scale : Scale
  pub catalogue : ℕ → ℕ
  pub choice : ℕ
  pub net : ℕ → ℕ
  pub step : ℕ

-- Values go together as on a scale, and what a catalogue measures is a value.
pub record IsMeasure (m : Measure) : Type 0 where
  pub scale : IsScale m.scale
  pub catalogue : (n : ℕ) → m.scale.plus 0 (m.catalogue n) ≡ m.catalogue n

abbrev pub total : Scale → List ℕ → ℕ
total a [] = 0
total a (x ∷ xs) = a.plus x (total a xs)

-- one level of a design, with what its branches or parts measure in their place
abbrev pub measure_step : Measure → Design-F ℕ ℕ → ℕ
measure_step m (Design-F.Cat provides requires_ rows) = m.catalogue (length rows)
measure_step m (Design-F.Choice provides requires_ branches) = m.scale.plus m.choice (m.scale.times m.step (total m.scale branches))
measure_step m (Design-F.Net provides requires_ parts constraints) = m.scale.plus (m.net (length constraints)) (m.scale.times m.step (total m.scale parts))

-- what the design measures
abbrev pub measured : Measure → Design → ℕ
measured m = fold-Design ℕ ℕ (measure_step m) (λ p. p.design)

-- ---- forms

-- each parameter's value times its factor, added up; what is left over on either side counts nothing
abbrev pub weighed : Scale → List ℕ → List ℕ → ℕ
weighed a [] values = 0
weighed a (f ∷ fs) [] = 0
weighed a (f ∷ fs) (v ∷ vs) = a.plus (a.times f v) (weighed a fs vs)

-- the value of the form where the parameters have these values
abbrev pub value_of : Scale → Form → List ℕ → ℕ
value_of a form values = a.plus form.constant (weighed a form.factors.items values)

abbrev pub value_in : Scale → Option Form → List ℕ → ℕ
value_in a (Some form) values = value_of a form values
value_in a None values = 0

abbrev pub or_zero : Option ℕ → ℕ
or_zero (Some x) = x
or_zero None = 0

-- one level of a reference, with what its arguments measure in their place
abbrev pub refer_step : Scale → List Form → List ℕ → Resolved-F ℕ → ℕ
refer_step a forms values (Resolved-F.Parameter k) = or_zero (slice_get values k)
refer_step a forms values (Resolved-F.Module i arguments) = value_in a (slice_get forms i) arguments

-- what a reference measures, where the modules have these forms and the parameters these values
abbrev pub refer_value : Scale → List Form → List ℕ → Resolved → ℕ
refer_value a forms values = fold-Resolved ℕ (refer_step a forms values)

-- what the references of links measure together
abbrev pub links_value : Scale → List Form → List ℕ → List Link → ℕ
links_value a forms values links = total a (map (λ l. refer_value a forms values l.reference) links)

-- what a body measures
abbrev pub body_value : Measure → List Form → List ℕ → ModuleBody → ℕ
body_value m forms values (body.Catalogue rows) = m.catalogue (length rows)
body_value m forms values (body.Choice branches) = m.scale.plus m.choice (m.scale.times m.step (links_value m.scale forms values branches))
body_value m forms values (body.Net parts constraints) = m.scale.plus (m.net (length constraints)) (m.scale.times m.step (links_value m.scale forms values parts))

-- The form has the value of the body, whatever the parameters' values are.
abbrev pub IsFormOf : Measure → List Form → ModuleBody → Form → Type 0
IsFormOf m forms b form = (values : List ℕ) → value_of m.scale form values ≡ body_value m forms values b

-- Each module has its form, under its number.
abbrev pub AreForms : Measure → Modules → List Form → Type 0
AreForms m modules forms = (i : ℕ) (named : Module) → slice_get modules i ≡ Some (Some named) → (form : Form) × (slice_get forms i ≡ Some form) × IsFormOf m forms named.body form

-- The form of the module of this number is kept, if there is one.
abbrev pub IsFilled : Measure → Option Module → List Form → ℕ → List Form → Type 0
IsFilled m None before number after = after ≡ before
IsFilled m (Some named) before number after = (form : Form) × IsFormOf m before named.body form × (number < length before) × (after ≡ set before number form)
