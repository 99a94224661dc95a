-- What is added to a form, step by step.
use Rattle.std.specs.Prelude.{◌≡◌, ℕ, zero, suc, ◌+◌, ◌<◌, ◌≤◌, List, [], ◌∷◌, IfOk, Ok, Err, Result, drop, get_or, length, map, Some, None, option_map, slice_get}
use Rattle.std.proofs.Common.{refl, sym, ap, ◌∙◌, arith}
use Rattle.std.proofs.lemmas.List.{drop_all, drop_more}
use Rattle.design_measure.proofs.DenotedLemmas.{refer_at, refer_value-out}
use Rattle.design_measure.proofs.LinearLemmas.{first_product, no_product, product_moved, weighed_here, weighed_none}
use Rattle.design_measure.specs.Scales.{IsScale, Scale, links_value, refer_value, value_in, value_of, weighed}
use Rattle.design_measure.specs.declared.form.Form.{Form}
use Rattle.reference_meaning.specs.declared.module.Link.{Link}
use Rattle.reference_meaning.specs.declared.module.Resolved.{Resolved, out-Resolved}
use Rattle.reference_meaning.specs.declared.module.Resolved.TheVariants as resolved

pub ok_weaker : {A E : Type 0} (r : Result A E) (P Q : A → Type 0) → ((x : A) → P x → Q x) → IfOk r P → IfOk r Q
ok_weaker (Ok x) P Q f h = f x h
ok_weaker (Err e) P Q f h = tt

got_mapped : {A B : Type 0} (f : A → B) (xs : List A) (i : ℕ) → slice_get (map f xs) i ≡ option_map f (slice_get xs i)
got_mapped f [] i = refl
got_mapped f (x ∷ xs) zero = refl
got_mapped f (x ∷ xs) (suc i) = got_mapped f xs i

module _ (a : Scale) (laws : IsScale a) where
  abbrev plus : ℕ → ℕ → ℕ
  plus = a.plus

  constants_apart : (c k f w rest : ℕ) → plus (plus (plus c (a.times k f)) w) (a.times k rest) ≡ plus (plus c w) (a.times k (plus f rest))
  constants_apart c k f w rest =
      ap (λ x. plus x (a.times k rest)) (laws.assoc c (a.times k f) w ∙ ap (plus c) (laws.swap (a.times k f) w) ∙ sym (laws.assoc c w (a.times k f)))
      ∙ laws.assoc (plus c w) (a.times k f) (a.times k rest) ∙ ap (plus (plus c w)) (sym (laws.value_sum k f rest))

  module _ (forms : List Form) (values : List ℕ) (reference : Resolved) where
    -- A module's form is added as its constant and its factors.
    pub added_module : (old new : Form) (constant k number : ℕ) (arguments : List Resolved) (form : Form) → reference ≡ resolved.Module number arguments → slice_get forms number ≡ Some form
        → constant ≡ plus old.constant (a.times k form.constant)
        → value_of a new values ≡ plus (value_of a (record { constant = constant; factors = old.factors }) values) (a.times k (weighed a form.factors.items (map (refer_value a forms values) arguments)))
        → value_of a new values ≡ plus (value_of a old values) (a.times k (refer_value a forms values reference))
    added_module old new constant k number arguments form is there sum e =
        e ∙ ap (λ c. plus (plus c (weighed a old.factors.items values)) (a.times k (weighed a form.factors.items (map (refer_value a forms values) arguments)))) sum
        ∙ constants_apart old.constant k form.constant (weighed a old.factors.items values) (weighed a form.factors.items (map (refer_value a forms values) arguments))
        ∙ ap (λ x. plus (value_of a old values) (a.times k x)) (sym seen)
      where
        seen : refer_value a forms values reference ≡ plus form.constant (weighed a form.factors.items (map (refer_value a forms values) arguments))
        seen = refer_value-out a forms values reference ∙ ap (λ r. refer_at a forms values (out-Resolved r)) is ∙ ap (refer_at a forms values) (resolved.outs-Module number arguments)
            ∙ ap (λ o. value_in a o (map (refer_value a forms values) arguments)) there

    -- A module that isn't there adds nothing.
    pub added_none : (old : Form) (k number : ℕ) (arguments : List Resolved) → reference ≡ resolved.Module number arguments → slice_get forms number ≡ None
        → value_of a old values ≡ plus (value_of a old values) (a.times k (refer_value a forms values reference))
    added_none old k number arguments is none =
        sym (no_product a laws old.constant (weighed a old.factors.items values) k) ∙ ap (λ x. plus (value_of a old values) (a.times k x)) (sym seen)
      where
        seen : refer_value a forms values reference ≡ 0
        seen = refer_value-out a forms values reference ∙ ap (λ r. refer_at a forms values (out-Resolved r)) is ∙ ap (refer_at a forms values) (resolved.outs-Module number arguments)
            ∙ ap (λ o. value_in a o (map (refer_value a forms values) arguments)) none

  module _ (forms : List Form) (values : List ℕ) (fs : List ℕ) (arguments : List Resolved) (i k whole : ℕ) (inside : i < length fs) (old : Form)
      (left : whole ≡ plus (value_of a old values) (a.times k (weighed a (drop i fs) (drop i (map (refer_value a forms values) arguments))))) where
    next : suc i ≡ i + 1
    next = omega arith

    -- One argument more.
    pub argument_added : (argument : Resolved) (new : Form) (by : ℕ) → Some argument ≡ slice_get arguments i → by ≡ a.times k (get_or fs i 0) → value_of a new values ≡ plus (value_of a old values) (a.times by (refer_value a forms values argument))
        → whole ≡ plus (value_of a new values) (a.times k (weighed a (drop (i + 1) fs) (drop (i + 1) (map (refer_value a forms values) arguments))))
    argument_added argument new by there is e =
        product_moved a laws whole (value_of a old values) k (get_or fs i 0) (refer_value a forms values argument) rest (left ∙ ap (λ x. plus (value_of a old values) (a.times k x)) (weighed_here a laws fs values_of i (refer_value a forms values argument) inside got))
        ∙ ap (λ b. plus (plus (value_of a old values) (a.times b (refer_value a forms values argument))) (a.times k rest)) (sym is)
        ∙ ap (λ x. plus x (a.times k rest)) (sym e)
        ∙ ap (λ j. plus (value_of a new values) (a.times k (weighed a (drop j fs) (drop j values_of)))) next
      where
        values_of : List ℕ
        values_of = map (refer_value a forms values) arguments

        rest : ℕ
        rest = weighed a (drop (suc i) fs) (drop (suc i) values_of)

        got : slice_get values_of i ≡ Some (refer_value a forms values argument)
        got = got_mapped (refer_value a forms values) arguments i ∙ ap (option_map (refer_value a forms values)) (sym there)

    -- No argument is there.
    pub argument_none : None ≡ slice_get arguments i → whole ≡ plus (value_of a old values) (a.times k (weighed a (drop (i + 1) fs) (drop (i + 1) (map (refer_value a forms values) arguments))))
    argument_none none =
        left ∙ ap (λ x. plus (value_of a old values) (a.times k x)) (weighed_none a laws fs values_of i got)
        ∙ ap (λ j. plus (value_of a old values) (a.times k (weighed a (drop j fs) (drop j values_of)))) next
      where
        values_of : List ℕ
        values_of = map (refer_value a forms values) arguments

        got : slice_get values_of i ≡ None
        got = got_mapped (refer_value a forms values) arguments i ∙ ap (option_map (refer_value a forms values)) (sym none)

  -- After the last factor nothing is left.
  pub arguments_done : (old : Form) (values fs vs : List ℕ) (i k whole : ℕ) → length fs ≤ i → whole ≡ plus (value_of a old values) (a.times k (weighed a (drop i fs) (drop i vs))) → value_of a old values ≡ whole
  arguments_done old values fs vs i k whole end left =
      sym (left ∙ ap (λ (xs : List ℕ). plus (value_of a old values) (a.times k (weighed a xs (drop i vs)))) (drop_all i fs end) ∙ no_product a laws old.constant (weighed a old.factors.items values) k)

  -- One link more.
  pub link_added : (forms : List Form) (values : List ℕ) (links : List Link) (i step whole : ℕ) (link : Link) (old new : Form) → i < length links → link ≡ get_or links i link
      → whole ≡ plus (value_of a old values) (a.times step (links_value a forms values (drop i links))) → value_of a new values ≡ plus (value_of a old values) (a.times step (refer_value a forms values link.reference))
      → whole ≡ plus (value_of a new values) (a.times step (links_value a forms values (drop (i + 1) links)))
  link_added forms values links i step whole link old new inside is left e =
      first_product a laws whole (value_of a old values) step (refer_value a forms values link.reference) (links_value a forms values (drop (i + 1) links))
      (left ∙ ap (λ (ls : List Link). plus (value_of a old values) (a.times step (links_value a forms values ls))) (drop_more links i link inside ∙ ap (λ (l : Link). l ∷ drop (i + 1) links) (sym is)))
      ∙ ap (λ x. plus x (a.times step (links_value a forms values (drop (i + 1) links)))) (sym e)

  pub links_done : (forms : List Form) (values : List ℕ) (links : List Link) (i step whole : ℕ) (old : Form) → length links ≤ i
      → whole ≡ plus (value_of a old values) (a.times step (links_value a forms values (drop i links))) → value_of a old values ≡ whole
  links_done forms values links i step whole old end left =
      sym (left ∙ ap (λ (ls : List Link). plus (value_of a old values) (a.times step (links_value a forms values ls))) (drop_all i links end) ∙ no_product a laws old.constant (weighed a old.factors.items values) step)
