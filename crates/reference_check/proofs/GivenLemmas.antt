-- Names of arguments and of parameters.
use Rattle.std.proofs.Common.{◌≡◌, ◌∙◌, ◌≤◌, ◌||◌, refl, sym, ap, ℕ, drop, length, Bool, true, false, cond, List, [], ◌∷◌, ◌++◌, map}
use Rattle.std.proofs.lemmas.List.{drop_all}
use Rattle.std.specs.List.{flat_map, list_all, list_any}
use Rattle.std.specs.Prelude.{◌&&◌, Option, Some, None, is_some, not, option_map}
use Rattle.std.specs.Str.{bytes_eq}
use Rattle.design_lexer.specs.declared.tree.ArgTree.{ArgTree, out-ArgTree}
use Rattle.fault_list.specs.Faults.{fault_if}
use Rattle.fault_list.specs.declared.fault.Fault.{Fault}
use Rattle.fault_list.specs.declared.fault.FaultKind.TheVariants.{ArgumentMissing}
use Rattle.name_index.specs.PlaceLaws.{named_item_next}
use Rattle.name_index.specs.Names.{number_of}
use Rattle.name_index.specs.Places.{named_item}
use Rattle.reference_check.specs.Fronts.{wanted_held}
use Rattle.reference_check.specs.declared.front.Wanted.{Wanted}
use Rattle.reference_rules.specs.ReferenceFaults.{given_faults, missing, unknown, unknown_argument}

-- There is an item of the name exactly where some item has it.
pub named_there : {A : Type 0} (named : A → List ℕ) (xs : List A) (name : List ℕ) → is_some (named_item named xs name) ≡ list_any (λ x. bytes_eq name (named x)) xs
named_there named [] name = refl
named_there {A = A} named (x ∷ xs) name = ap is_some (named_item_next named x xs name) ∙ go (bytes_eq name (named x)) (named_there named xs name)
  where
    go : (t : Bool) → is_some (named_item named xs name) ≡ list_any (λ x. bytes_eq name (named x)) xs → is_some (cond t (Some x) (named_item named xs name)) ≡ t || list_any (λ x. bytes_eq name (named x)) xs
    go true rest = refl
    go false rest = rest

-- A name is that of a parameter that is held exactly where it is that of one that is meant.
pub held_there : (wanted : List Wanted) (name : List ℕ) → list_any (λ w. bytes_eq name w.name) (map wanted_held wanted) ≡ list_any (λ w. bytes_eq name w.name) wanted
held_there [] name = refl
held_there (w ∷ ws) name = ap (λ t. bytes_eq name w.name || t) (held_there ws name)

pub flat_mapped : {A B C : Type 0} (f : B → List C) (g : A → B) (xs : List A) → flat_map f (map g xs) ≡ flat_map (λ x. f (g x)) xs
flat_mapped f g [] = refl
flat_mapped f g (x ∷ xs) = ap (λ ys. f (g x) ++ ys) (flat_mapped f g xs)

any_mapped : {A B : Type 0} (f : B → Bool) (g : A → B) (xs : List A) → list_any f (map g xs) ≡ list_any (λ x. f (g x)) xs
any_mapped f g [] = refl
any_mapped f g (x ∷ xs) = ap (λ t. f (g x) || t) (any_mapped f g xs)

any_not : {A : Type 0} (p : A → Bool) (xs : List A) → list_any (λ x. not (p x)) xs ≡ not (list_all p xs)
any_not p [] = refl
any_not p (x ∷ xs) = go (p x) (any_not p xs)
  where
    go : (t : Bool) → list_any (λ x. not (p x)) xs ≡ not (list_all p xs) → not t || list_any (λ x. not (p x)) xs ≡ not (t && list_all p xs)
    go true rest = rest
    go false rest = refl

any_alike : {A : Type 0} (p q : A → Bool) (xs : List A) → ((x : A) → p x ≡ q x) → list_any p xs ≡ list_any q xs
any_alike p q [] f = refl
any_alike p q (x ∷ xs) f = (λ i. f x i || any_alike p q xs f i)

module _ (wanted : List Wanted) (arguments : List ArgTree) (given : List (List ℕ × ℕ)) (tells : (name : List ℕ) → is_some (number_of given name) ≡ list_any (λ n. bytes_eq name n.name) (map (λ a. (out-ArgTree a).name) arguments)) where
  -- A parameter is missing exactly where not all are given.
  pub missing_by : (at : ℕ) (t : Bool) → t ≡ list_all (λ w. is_some (number_of given w.name)) wanted → missing (map wanted_held wanted) (map (λ a. (out-ArgTree a).name) arguments) at ≡ fault_if (not t) (record { kind = ArgumentMissing; at = at })
  missing_by at t e = ap (λ b. fault_if b (record { kind = ArgumentMissing; at = at }))
      (any_mapped (λ w. not (list_any (λ n. bytes_eq w.name n.name) (map (λ a. (out-ArgTree a).name) arguments))) wanted_held wanted
      ∙ any_alike (λ w. not (list_any (λ n. bytes_eq w.name n.name) (map (λ a. (out-ArgTree a).name) arguments))) (λ w. not (is_some (number_of given w.name))) wanted (λ w. ap not (sym (tells w.name)))
      ∙ any_not (λ w. is_some (number_of given w.name)) wanted ∙ ap not (sym e))

module _ (wanted : List Wanted) (a : ArgTree) where
  -- The argument names a parameter, or it doesn't.
  pub unknown_none : (o : Option Wanted) → o ≡ named_item (λ w. w.name) wanted (out-ArgTree a).name.name → is_some o ≡ true → unknown (map wanted_held wanted) (out-ArgTree a).name ≡ []
  unknown_none o e there = ap (λ b. fault_if {F = Fault} (not b) (unknown_argument (out-ArgTree a).name)) (held_there wanted (out-ArgTree a).name.name ∙ sym (named_there (λ w. w.name) wanted (out-ArgTree a).name.name) ∙ sym (ap is_some e) ∙ there)

  pub unknown_one : (o : Option Wanted) → o ≡ named_item (λ w. w.name) wanted (out-ArgTree a).name.name → is_some o ≡ false → unknown (map wanted_held wanted) (out-ArgTree a).name ≡ unknown_argument (out-ArgTree a).name ∷ []
  unknown_one o e none = ap (λ b. fault_if {F = Fault} (not b) (unknown_argument (out-ArgTree a).name)) (held_there wanted (out-ArgTree a).name.name ∙ sym (named_there (λ w. w.name) wanted (out-ArgTree a).name.name) ∙ sym (ap is_some e) ∙ none)

pub mapped_there : {A B : Type 0} (f : A → B) (o : Option A) → is_some (option_map f o) ≡ is_some o
mapped_there f None = refl
mapped_there f (Some x) = refl

-- Nothing is left after the last item.
pub nothing_left : {A F : Type 0} (faults : A → List F) (items : List A) (i : ℕ) (whole : List F) → length items ≤ i → whole ≡ flat_map faults (drop i items) → whole ≡ []
nothing_left faults items i whole end left = left ∙ ap (flat_map faults) (drop_all i items end)

module _ (wanted : List Wanted) (arguments : List ArgTree) (given : List (List ℕ × ℕ)) (at : ℕ) (tells : (name : List ℕ) → is_some (number_of given name) ≡ list_any (λ n. bytes_eq name n.name) (map (λ a. (out-ArgTree a).name) arguments))
    (known : flat_map (unknown (map wanted_held wanted)) (map (λ a. (out-ArgTree a).name) arguments) ≡ []) where
  -- Where each argument names a parameter, it is left whether each parameter has one.
  pub given_by : (t : Bool) → t ≡ list_all (λ w. is_some (number_of given w.name)) wanted → given_faults (map wanted_held wanted) (map (λ a. (out-ArgTree a).name) arguments) at ≡ fault_if (not t) (record { kind = ArgumentMissing; at = at })
  given_by t e = ap (λ fs. fs ++ missing (map wanted_held wanted) (map (λ a. (out-ArgTree a).name) arguments) at) known ∙ missing_by wanted arguments given tells at t e
