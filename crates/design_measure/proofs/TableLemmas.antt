-- A table of forms that is filled in order.
use Rattle.std.specs.Prelude.{◌≡◌, ℕ, zero, suc, ◌+◌, ◌<◌, List, [], ◌∷◌, ◌++◌, drop, get_or, length, map, Option, Some, None, option_and_then, slice_get, take}
use Rattle.std.specs.List.{flat_map}
use Rattle.std.proofs.Common.{refl, sym, ap, ap₂, ◌∙◌, ◌⊎◌, inl, inr, arith, set, subst}
use Rattle.std.proofs.lemmas.List.{drop_more, length-set, take_more}
use Rattle.order_core.specs.MemberLaws.{mem-left, mem-split}
use Rattle.order_core.specs.Members.{IsMember}
use Rattle.order_core.specs.Pointwise.{Each}
use Rattle.order_core.specs.PointwiseLaws.{each_weaker}
use Rattle.design_measure.proofs.DenotedLemmas.{refer_at, refer_value-out}
use Rattle.design_measure.specs.Orders.{InOrder, body_modules, links_modules, modules_in, named_by}
use Rattle.design_measure.specs.Scales.{AreForms, IsFilled, IsFormOf, Measure, Scale, body_value, links_value, or_zero, refer_value, value_in}
use Rattle.design_measure.specs.declared.form.Form.{Form}
use Rattle.reference_meaning.specs.Modules.{Modules}
use Rattle.reference_meaning.specs.declared.module.Link.{Link}
use Rattle.reference_meaning.specs.declared.module.Module.{Module}
use Rattle.reference_meaning.specs.declared.module.ModuleBody.{ModuleBody}
use Rattle.reference_meaning.specs.declared.module.ModuleBody.TheVariants as body
use Rattle.reference_meaning.specs.declared.module.Resolved.{Resolved, fold_out-Resolved, map-Resolved, roll-Resolved}
use Rattle.reference_meaning.specs.declared.module.Resolved.TheFolds.{ind-Resolved}
use Rattle.reference_meaning.specs.declared.module.Resolved.TheOpen.{Resolved-F}
use Rattle.reference_meaning.specs.declared.module.Resolved.TheVariants as resolved

-- ---- references measure the same where the forms of the modules that they name are the same

each_apart : {A : Type 0} (P : A → Type 0) (xs ys : List A) → Each P (xs ++ ys) → Each P xs × Each P ys
each_apart P [] ys h = (tt, h)
each_apart P (x ∷ xs) ys h = let rest = each_apart P xs ys h.1 in ((h.0, rest.0), rest.1)

modules-Module : (number : ℕ) (arguments : List Resolved) → modules_in (resolved.Module number arguments) ≡ number ∷ flat_map (λ xs. xs) (map modules_in arguments)
modules-Module number arguments = rw (fold_out-Resolved, resolved.outs-Module) refl

module _ (a : Scale) (f g : List Form) where
  abbrev Same : ℕ → Type 0
  Same j = slice_get f j ≡ slice_get g j

  abbrev Agrees : Resolved → Type 0
  Agrees r = (values : List ℕ) → Each Same (modules_in r) → refer_value a f values r ≡ refer_value a g values r

  abbrev Claimed : Type 0
  Claimed = (r : Resolved) × Agrees r

  refer-Parameter : (forms : List Form) (values : List ℕ) (k : ℕ) → refer_value a forms values (resolved.Parameter k) ≡ or_zero (slice_get values k)
  refer-Parameter forms values k = refer_value-out a forms values (resolved.Parameter k) ∙ ap (refer_at a forms values) (resolved.outs-Parameter k)

  refer-Module : (forms : List Form) (values : List ℕ) (number : ℕ) (arguments : List Resolved) → refer_value a forms values (resolved.Module number arguments) ≡ value_in a (slice_get forms number) (map (refer_value a forms values) arguments)
  refer-Module forms values number arguments = refer_value-out a forms values (resolved.Module number arguments) ∙ ap (refer_at a forms values) (resolved.outs-Module number arguments)

  arguments_agree : (values : List ℕ) (es : List Claimed) → Each Same (flat_map (λ xs. xs) (map modules_in (map (λ e. e.0) es))) → map (refer_value a f values) (map (λ e. e.0) es) ≡ map (refer_value a g values) (map (λ e. e.0) es)
  arguments_agree values [] h = refl
  arguments_agree values (e ∷ es) h =
      let parts = each_apart Same (modules_in e.0) (flat_map (λ xs. xs) (map modules_in (map (λ e. e.0) es))) h in
      ap₂ (λ (x : ℕ) (xs : List ℕ). x ∷ xs) (e.1 values parts.0) (arguments_agree values es parts.1)

  agree_at : (y : Resolved-F Claimed) → Agrees (roll-Resolved (map-Resolved Claimed Resolved (λ e. e.0) y))
  agree_at (Resolved-F.Parameter k) = subst Agrees (sym (resolved.rolls-Parameter k)) (λ values h. refer-Parameter f values k ∙ sym (refer-Parameter g values k))
  agree_at (Resolved-F.Module number es) = subst Agrees (sym (resolved.rolls-Module number (map (λ e. e.0) es))) go
    where
      go : Agrees (resolved.Module number (map (λ e. e.0) es))
      go values h =
          let all : Each Same (number ∷ flat_map (λ xs. xs) (map modules_in (map (λ e. e.0) es))) = subst (Each Same) (modules-Module number (map (λ e. e.0) es)) h in
          refer-Module f values number (map (λ e. e.0) es) ∙ ap₂ (value_in a) all.0 (arguments_agree values es all.1) ∙ sym (refer-Module g values number (map (λ e. e.0) es))

  pub agree : (r : Resolved) → Agrees r
  agree = ind-Resolved Agrees (λ x y is. subst (λ z. Agrees (roll-Resolved z)) is (agree_at y))

  links_agree : (values : List ℕ) (links : List Link) → Each Same (links_modules links) → links_value a f values links ≡ links_value a g values links
  links_agree values [] h = refl
  links_agree values (l ∷ ls) h =
      let parts = each_apart Same (modules_in l.reference) (links_modules ls) h in
      ap₂ a.plus (agree l.reference values parts.0) (links_agree values ls parts.1)

body_agrees : (m : Measure) (f g : List Form) (values : List ℕ) (b : ModuleBody) → Each (λ j. slice_get f j ≡ slice_get g j) (body_modules b) → body_value m f values b ≡ body_value m g values b
body_agrees m f g values (body.Catalogue rows) h = refl
body_agrees m f g values (body.Choice branches) h = ap (λ t. m.scale.plus m.choice (m.scale.times m.step t)) (links_agree m.scale f g values branches h)
body_agrees m f g values (body.Net parts constraints) h = ap (λ t. m.scale.plus (m.net (length constraints)) (m.scale.times m.step t)) (links_agree m.scale f g values parts h)

-- ---- the table

-- The module's form is in the table, and so are those of all that it names.
pub record HasForm (m : Measure) (forms : List Form) (numbers : List ℕ) (i : ℕ) (named : Module) : Type 0 where
  pub form : Form
  pub there : slice_get forms i ≡ Some form
  pub is : IsFormOf m forms named.body form
  pub names : Each (λ j. IsMember j numbers) (body_modules named.body)

-- The modules of these numbers have their forms, and the others follow in order.
pub record IsFilledTo (m : Measure) (modules : Modules) (forms : List Form) (numbers rest : List ℕ) : Type 0 where
  pub size : length forms ≡ length modules
  pub each : (i : ℕ) (named : Module) → IsMember i numbers → slice_get modules i ≡ Some (Some named) → HasForm m forms numbers i named
  pub left : InOrder modules numbers rest

got_set_other : {A : Type 0} (xs : List A) (i j : ℕ) (x : A) → (i ≡ j → ⊥) → slice_get (set xs i x) j ≡ slice_get xs j
got_set_other [] i j x differ = refl
got_set_other (y ∷ ys) zero zero x differ = absurd (differ refl)
got_set_other (y ∷ ys) zero (suc j) x differ = refl
got_set_other (y ∷ ys) (suc i) zero x differ = refl
got_set_other (y ∷ ys) (suc i) (suc j) x differ = got_set_other ys i j x (λ e. differ (ap suc e))

got_set_same : {A : Type 0} (xs : List A) (i : ℕ) (x : A) → i < length xs → slice_get (set xs i x) i ≡ Some x
got_set_same [] i x l = absurd (omega (arith, l))
got_set_same (y ∷ ys) zero x l = refl
got_set_same (y ∷ ys) (suc i) x l = got_set_same ys i x (omega (arith, l))

last_member : (numbers : List ℕ) (i j : ℕ) → IsMember j (numbers ++ i ∷ []) → IsMember j numbers ⊎ (j ≡ i)
last_member numbers i j m = go (mem-split numbers (i ∷ []) j m)
  where
    go : IsMember j numbers ⊎ IsMember j (i ∷ []) → IsMember j numbers ⊎ (j ≡ i)
    go (inl h) = inl h
    go (inr (inl e)) = inr e
    go (inr (inr h)) = absurd h

module _ (m : Measure) (modules : Modules) (numbers rest : List ℕ) (i : ℕ) (before after : List Form) (is : IsFilledTo m modules before numbers (i ∷ rest)) where
  kept_names : (xs : List ℕ) → Each (λ j. IsMember j numbers) xs → Each (λ j. IsMember j (numbers ++ i ∷ [])) xs
  kept_names xs h = each_weaker (λ j. IsMember j numbers) (λ j. IsMember j (numbers ++ i ∷ [])) xs (λ j k n. mem-left numbers (i ∷ []) j n) h

  -- What stands at another number is the same.
  unlike : (j : ℕ) → IsMember j numbers → (i ≡ j → ⊥)
  unlike j n e = is.left.0 (subst (λ k. IsMember k numbers) (sym e) n)

  pub filled_none : option_and_then (λ named. named) (slice_get modules i) ≡ None → after ≡ before → IsFilledTo m modules after (numbers ++ i ∷ []) rest
  filled_none none same = subst (λ (forms : List Form). IsFilledTo m modules forms (numbers ++ i ∷ []) rest) (sym same) (record {
    size = is.size;
    each = λ j named k e. go j named e (last_member numbers i j k);
    left = is.left.2;
  })
    where
      go : (j : ℕ) (named : Module) → slice_get modules j ≡ Some (Some named) → IsMember j numbers ⊎ (j ≡ i) → HasForm m before (numbers ++ i ∷ []) j named
      go j named e (inl k) = let h = is.each j named k e in record { form = h.form; there = h.there; is = h.is; names = kept_names (body_modules named.body) h.names }
      go j named e (inr same) =
          let here : Some named ≡ None = sym (ap (option_and_then (λ named. named)) (subst (λ x. slice_get modules x ≡ Some (Some named)) same e)) ∙ none in absurd (cc)

  pub filled_some : (named : Module) (form : Form) → slice_get modules i ≡ Some (Some named) → IsFormOf m before named.body form → i < length before → after ≡ set before i form → IsFilledTo m modules after (numbers ++ i ∷ []) rest
  filled_some named form there made inside new = subst (λ (forms : List Form). IsFilledTo m modules forms (numbers ++ i ∷ []) rest) (sym new) (record {
    size = length-set before i form ∙ is.size;
    each = λ j other k e. go j other e (last_member numbers i j k);
    left = is.left.2;
  })
    where
      same_below : (xs : List ℕ) → Each (λ j. IsMember j numbers) xs → Each (λ j. slice_get before j ≡ slice_get (set before i form) j) xs
      same_below xs h = each_weaker (λ j. IsMember j numbers) (λ j. slice_get before j ≡ slice_get (set before i form) j) xs (λ j k n. sym (got_set_other before i j form (unlike j n))) h

      here_names : Each (λ j. IsMember j numbers) (body_modules named.body)
      here_names = subst (λ o. Each (λ j. IsMember j numbers) (named_by o)) there is.left.1

      go : (j : ℕ) (other : Module) → slice_get modules j ≡ Some (Some other) → IsMember j numbers ⊎ (j ≡ i) → HasForm m (set before i form) (numbers ++ i ∷ []) j other
      go j other e (inl k) =
          let h = is.each j other k e in record {
            form = h.form;
            there = got_set_other before i j form (unlike j k) ∙ h.there;
            is = λ values. h.is values ∙ body_agrees m before (set before i form) values other.body (same_below (body_modules other.body) h.names);
            names = kept_names (body_modules other.body) h.names;
          }
      go j other e (inr same) =
          let alike : named ≡ other = some_alike named other (sym there ∙ sym (ap (slice_get modules) same) ∙ e) in
          subst (λ x. HasForm m (set before i form) (numbers ++ i ∷ []) x other) (sym same) (subst (λ (o : Module). HasForm m (set before i form) (numbers ++ i ∷ []) i o) alike (record {
            form = form;
            there = got_set_same before i form inside;
            is = λ values. made values ∙ body_agrees m before (set before i form) values named.body (same_below (body_modules named.body) here_names);
            names = kept_names (body_modules named.body) here_names;
          }))
        where
          some_alike : (x y : Module) → Some (Some x) ≡ Some (Some y) → x ≡ y
          some_alike x y e = cc

-- One number more is filled.
pub filled_next : (m : Measure) (modules : Modules) (order : List ℕ) (k i : ℕ) (before after : List Form) → k < length order → i ≡ get_or order k 0 → IsFilledTo m modules before (take k order) (drop k order)
    → IsFilled m (option_and_then (λ named. named) (slice_get modules i)) before i after → IsFilledTo m modules after (take (k + 1) order) (drop (k + 1) order)
filled_next m modules order k i before after inside same is h =
    subst (λ (numbers : List ℕ). IsFilledTo m modules after numbers (drop (k + 1) order)) (sym (take_more order k 0 inside ∙ ap (λ y. take k order ++ y ∷ []) (sym same))) (at (slice_get modules i) refl h)
  where
    here : IsFilledTo m modules before (take k order) (i ∷ drop (k + 1) order)
    here = subst (IsFilledTo m modules before (take k order)) (drop_more order k 0 inside ∙ ap (λ y. y ∷ drop (k + 1) order) (sym same)) is

    at : (o : Option (Option Module)) → slice_get modules i ≡ o → IsFilled m (option_and_then (λ named. named) o) before i after → IsFilledTo m modules after (take k order ++ i ∷ []) (drop (k + 1) order)
    at None e f = filled_none m modules (take k order) (drop (k + 1) order) i before after here (ap (option_and_then (λ named. named)) e) f
    at (Some None) e f = filled_none m modules (take k order) (drop (k + 1) order) i before after here (ap (option_and_then (λ named. named)) e) f
    at (Some (Some named)) e f = filled_some m modules (take k order) (drop (k + 1) order) i before after here named f.0 e f.1 f.2 f.3

-- At the end all modules have their forms.
pub all_filled : (m : Measure) (modules : Modules) (forms : List Form) (numbers rest : List ℕ) → IsFilledTo m modules forms numbers rest → ((i : ℕ) (named : Module) → slice_get modules i ≡ Some (Some named) → IsMember i numbers) → AreForms m modules forms
all_filled m modules forms numbers rest is all i named e = let h = is.each i named (all i named e) e in (h.form, h.there, h.is)

within : {A : Type 0} (xs : List (Option A)) (i : ℕ) (x : A) → Some x ≡ option_and_then (λ o. o) (slice_get xs i) → i < length xs
within [] i x e = absurd (cc)
within (y ∷ ys) zero x e = omega arith
within (y ∷ ys) (suc i) x e = let l = within ys i x e in omega (arith, l)

-- The form of a module that is there is kept.
pub filled_by : (m : Measure) (modules : Modules) (named : Module) (before : List Form) (number : ℕ) (form : Form) → Some named ≡ option_and_then (λ o. o) (slice_get modules number) → length before ≡ length modules → IsFormOf m before named.body form
    → IsFilled m (option_and_then (λ o. o) (slice_get modules number)) before number (set before number form)
filled_by m modules named before number form e size made =
    let inside = within modules number named e in
    subst (λ o. IsFilled m o before number (set before number form)) e (form, made, omega (arith, inside, size), refl)
