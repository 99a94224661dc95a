-- Posets that are found have names, and values are made one by one.
use Rattle.std.proofs.Common.{◌≡◌, ◌≢◌, ◌∙◌, ◌<◌, ◌+◌, refl, sym, ap, subst, ℕ, suc, Bool, true, false, cond, IsTrue, List, [], ◌∷◌, ◌++◌, drop, get_or, length, map}
use Rattle.std.proofs.lemmas.List.{drop_more}
use Rattle.std.specs.Prelude.{Option, Some, None, Err, option_and_then, option_map, slice_get}
use Rattle.std.specs.Str.{bytes_eq}
use Rattle.design_lexer.specs.declared.tree.NameAt.{NameAt}
use Rattle.fault_list.specs.Answers.{Answers}
use Rattle.fault_list.specs.Faults.{first_fault}
use Rattle.fault_list.specs.declared.fault.Fault.{Fault}
use Rattle.fault_list.specs.declared.fault.Stop.{Stop}
use Rattle.fault_list.specs.declared.fault.Stop.TheVariants as stop
use Rattle.order_core.specs.MemberLaws.{all_got}
use Rattle.row_values.specs.Values.{Gives, each_meant, if_named, poset_at}
use Rattle.row_values.specs.declared.value.CellFault.{CellFault}
use Rattle.row_values.specs.declared.value.CellFault.TheVariants as fault
use Rattle.tree_units.specs.ElementLaws.{elements_decided}
use Rattle.tree_units.specs.Elements.{elements_named, unknown_elements}
use Rattle.tree_units.specs.Together.{together, with_first}
use Rattle.tree_units.specs.TogetherLaws.{put_last}
use Rattle.value_type.specs.Types.{AreNamed, has_names}
use Rattle.value_type.specs.declared.poset.Poset.{Poset}
use Rattle.value_type.specs.declared.poset.Types.{Types}

-- A poset that is found has a name for each element.
pub found_named : (t : Types) (k : ℕ) (name : List ℕ) (p : Poset) → AreNamed t → poset_at t k name ≡ Some p → IsTrue (has_names p)
found_named t k name p named e = go (slice_get t.posets k) refl e
  where
    at : (q : Poset) (b : Bool) → slice_get t.posets k ≡ Some q → cond b (Some q) None ≡ Some p → IsTrue (has_names p)
    at q true got h = let same : q ≡ p = cc in all_got has_names t.posets k p (got ∙ ap (λ (x : Poset). Some x) same) named.names
    at q false got h = absurd (cc)

    go : (o : Option Poset) → slice_get t.posets k ≡ o → option_and_then (if_named name) o ≡ Some p → IsTrue (has_names p)
    go (Some q) got h = at q (bytes_eq name q.name) got h
    go None got h = absurd (cc)

-- Where some element isn't there, there are no numbers of all.
pub unnamed : (p : Poset) (names : List NameAt) (fault : Fault) → first_fault (unknown_elements p names) ≡ Some fault → elements_named p names ≡ None
unnamed p names fault h = go (elements_named p names) refl
  where
    go : (o : Option (List ℕ)) → elements_named p names ≡ o → o ≡ None
    go None e = refl
    go (Some xs) e = let none = sym h ∙ ap first_fault ((elements_decided p names).faultless xs e) in absurd (cc)

pub unnamed_at : {A : Type 0} (Meant : A → Type 0) (p : Poset) (names : List NameAt) (s : Stop Fault) (fault : Fault) → s ≡ stop.At fault → Answers {A = A} (unknown_elements p names) Meant (Err s) → elements_named p names ≡ None
unnamed_at {A = A} Meant p names s fault e h = unnamed p names fault (subst (λ z. Answers {A = A} (unknown_elements p names) Meant (Err z)) e h)

without : {A : Type 0} (o : Option A) → with_first {A = A} o None ≡ None
without (Some x) = refl
without None = refl

-- Lists of other lengths mean nothing.
pub each_unequal : {K A B : Type 0} (f : K → A → Option B) (ks : List K) (xs : List A) → length xs ≢ length ks → each_meant (map f ks) xs ≡ None
each_unequal f [] [] h = absurd (h refl)
each_unequal f [] (x ∷ xs) h = refl
each_unequal f (k ∷ ks) [] h = refl
each_unequal f (k ∷ ks) (x ∷ xs) h = ap (with_first (f k x)) (each_unequal f ks xs (λ e. h (ap suc e))) ∙ without (f k x)

-- What the partners left mean, in the loop that makes the values one by one.
module _ {K A B : Type 0} (f : K → A → Option B) (ks : List K) (xs : List A) (i : ℕ) (k : K) (x : A) (inside : i < length ks) (within : i < length xs) (k-is : k ≡ get_or ks i k) (x-is : x ≡ get_or xs i x) where
  each_front : each_meant (map f (drop i ks)) (drop i xs) ≡ with_first (f k x) (each_meant (map f (drop (i + 1) ks)) (drop (i + 1) xs))
  each_front = rw (drop_more ks i k inside, drop_more xs i x within, ← k-is, ← x-is) refl

  pub each_next : (made : List B) (v : B) → f k x ≡ Some v → option_map (λ vs. made ++ vs) (each_meant (map f (drop i ks)) (drop i xs)) ≡ option_map (λ vs. (made ++ v ∷ []) ++ vs) (each_meant (map f (drop (i + 1) ks)) (drop (i + 1) xs))
  each_next made v e = rw (each_front, e) (put_last made v (each_meant (map f (drop (i + 1) ks)) (drop (i + 1) xs)))

  pub each_stop : (made : List B) → f k x ≡ None → option_map (λ vs. made ++ vs) (each_meant (map f (drop i ks)) (drop i xs)) ≡ None
  each_stop made e = rw (each_front, e) refl

  -- Where one of them is none, there is nothing of all.
  pub each_stopped : (made : List B) (whole : Option (List B)) → whole ≡ option_map (λ vs. made ++ vs) (each_meant (map f (drop i ks)) (drop i xs)) → (s : CellFault) → Gives {A = B} (f k x) (Err s) → Gives {A = List B} whole (Err s)
  each_stopped made whole left fault.Bad h = left ∙ each_stop made h
  each_stopped made whole left fault.Memory h = tt

-- The same of the items of one list.
module _ {A B : Type 0} (f : A → Option B) (xs : List A) (i : ℕ) (x : A) (inside : i < length xs) (x-is : x ≡ get_or xs i x) where
  pub all_next : (made : List B) (v : B) → f x ≡ Some v → option_map (λ vs. made ++ vs) (together (map f (drop i xs))) ≡ option_map (λ vs. (made ++ v ∷ []) ++ vs) (together (map f (drop (i + 1) xs)))
  all_next made v e = rw (drop_more xs i x inside, ← x-is, e) (put_last made v (together (map f (drop (i + 1) xs))))
