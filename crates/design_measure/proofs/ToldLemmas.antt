-- What the forms of modules say of the designs that they denote.
use Rattle.std.specs.Prelude.{◌≡◌, ℕ, zero, suc, ◌+◌, ◌-◌, ◌<◌, ◌≤◌, List, [], ◌∷◌, ◌++◌, length, max, min, Some, slice_get}
use Rattle.std.proofs.Common.{refl, sym, ap, ◌∙◌, ◌⊎◌, inl, inr, arith}
use Rattle.std.proofs.lemmas.Bool.{cases_lt}
use Rattle.design_measure.proofs.DenotedLemmas.{body_says, denoted_says}
use Rattle.design_measure.proofs.LimitsFit.{depths_fit, sizes_fit}
use Rattle.design_measure.specs.Limits.{depths_to, sizes_to}
use Rattle.design_measure.specs.Measured.{AreMeasured, constant_in, told}
use Rattle.design_measure.specs.Measures.{depth_of, size_of}
use Rattle.design_measure.specs.Scales.{AreForms, Measure, measured, weighed}
use Rattle.design_measure.specs.declared.form.Form.{Form}
use Rattle.design_measure.specs.declared.measures.Measured.{Measured}
use Rattle.design_model.specs.declared.design.Design.{Design}
use Rattle.reference_meaning.specs.Modules.{MakesIn, ModuleMakes, Modules}
use Rattle.reference_meaning.specs.declared.module.Module.{Module}

none_weighed : (m : Measure) (fs : List ℕ) → weighed m.scale fs [] ≡ 0
none_weighed m [] = refl
none_weighed m (f ∷ fs) = refl

constant_got : (forms : List Form) (i : ℕ) (form : Form) → slice_get forms i ≡ Some form → constant_in (slice_get forms i) ≡ form.constant
constant_got forms i form e = ap constant_in e

-- A design measures the constant of its module's form.
says : (m : Measure) (modules : Modules) (forms : List Form) → AreForms m modules forms → (i : ℕ) (named : Module) (X : Design) → slice_get modules i ≡ Some (Some named) → ModuleMakes modules named X
    → measured m X ≡ m.scale.plus (constant_in (slice_get forms i)) 0
says m modules forms are i named X there h =
    let form = are i named there in
    body_says m forms [] (MakesIn modules h.0 []) (λ r Y. denoted_says m modules forms are h.0 [] r Y) named named.body X h.1
    ∙ sym (form.2 []) ∙ ap (m.scale.plus form.0.constant) (none_weighed m form.0.factors.items) ∙ ap (λ c. m.scale.plus c 0) (sym (constant_got forms i form.0 form.1))

depth_told : (c d : ℕ) → min (suc d) 66 ≡ min (max c 0) 66 → min c 66 - 1 ≡ min d 65
depth_told c d e = omega arith

size_told : (c s : ℕ) → min s 10001 ≡ min (c + 0) 10001 → min c 10001 ≡ min s 10001
size_told c s e = omega arith

pub all_told : (modules : Modules) (depths sizes : List Form) (made : List Measured) (n : ℕ) → AreForms (depths_to 66) modules depths → AreForms (sizes_to 10001) modules sizes → length modules ≤ n
    → ((j : ℕ) → j < n → slice_get made j ≡ Some (told depths sizes j)) → AreMeasured modules made
all_told modules depths sizes made n are_depths are_sizes end h i named X there makes = (
  told depths sizes i,
  h i (omega (arith, inside modules i named there, end)),
  depth_told (constant_in (slice_get depths i)) (depth_of X) (sym (depths_fit 66 (omega arith) X) ∙ says (depths_to 66) modules depths are_depths i named X there makes),
  size_told (constant_in (slice_get sizes i)) (size_of X) (sym (sizes_fit 10001 X) ∙ says (sizes_to 10001) modules sizes are_sizes i named X there makes),
)
  where
    inside : (xs : Modules) (i : ℕ) (named : Module) → slice_get xs i ≡ Some (Some named) → i < length xs
    inside [] i named e = absurd (cc)
    inside (x ∷ xs) zero named e = omega arith
    inside (x ∷ xs) (suc i) named e = let l = inside xs i named e in omega (arith, l)

-- One more is made.
pub told_more : (depths sizes : List Form) (made : List Measured) (n : ℕ) (next : Measured) → length made ≡ n → next ≡ told depths sizes n → ((j : ℕ) → j < n → slice_get made j ≡ Some (told depths sizes j))
    → (j : ℕ) → j < n + 1 → slice_get (made ++ next ∷ []) j ≡ Some (told depths sizes j)
told_more depths sizes made n next size is h j l = go made j size_or
  where
    go : (xs : List Measured) (k : ℕ) → (k < length xs × (slice_get xs k ≡ Some (told depths sizes j))) ⊎ ((k ≡ length xs) × (next ≡ told depths sizes j)) → slice_get (xs ++ next ∷ []) k ≡ Some (told depths sizes j)
    go [] zero (inl p) = absurd (omega (arith, p.0))
    go [] zero (inr p) = ap Some p.1
    go [] (suc k) (inl p) = absurd (omega (arith, p.0))
    go [] (suc k) (inr p) = absurd (omega (arith, p.0))
    go (x ∷ xs) zero (inl p) = p.1
    go (x ∷ xs) zero (inr p) = absurd (omega (arith, p.0))
    go (x ∷ xs) (suc k) (inl p) = let l = p.0 in go xs k (inl (omega (arith, l), p.1))
    go (x ∷ xs) (suc k) (inr p) = let l = p.0 in go xs k (inr (omega (arith, l), p.1))

    size_or : (j < length made × (slice_get made j ≡ Some (told depths sizes j))) ⊎ ((j ≡ length made) × (next ≡ told depths sizes j))
    size_or = at (cases_lt j n)
      where
        at : (j < n) ⊎ (n ≤ j) → (j < length made × (slice_get made j ≡ Some (told depths sizes j))) ⊎ ((j ≡ length made) × (next ≡ told depths sizes j))
        at (inl less) = inl (omega (arith, less, size), h j less)
        at (inr more) = let here : n ≡ j = omega (arith, l, more) in inr (omega (arith, here, size), is ∙ ap (told depths sizes) here)
