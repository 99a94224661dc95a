-- Names one after another: what stands twice, and what the index has.
use Rattle.std.proofs.Common.{◌≡◌, ◌∙◌, ◌<◌, ◌≤◌, ◌+◌, ◌||◌, refl, sym, subst, ap, ℕ, Bool, true, false, cond, List, [], ◌∷◌, ◌++◌, map, filter, take, drop, length, get_or}
use Rattle.std.proofs.lemmas.List.{drop_all, drop_more, take_more, map-append}
use Rattle.order_core.specs.MemberLaws.{append_nil}
use Rattle.std.proofs.lemmas.List.Elements.{filter-append}
use Rattle.std.proofs.lemmas.List.Folds.{list_any-append}
use Rattle.std.specs.Prelude.{Option, Some, None, is_some}
use Rattle.std.specs.Str.{bytes_eq}
use Rattle.design_lexer.specs.declared.tree.NameAt.{NameAt}
use Rattle.fault_list.specs.Faults.{earlier, fault_if, least}
use Rattle.fault_list.specs.FaultLaws.{earlier_of_three, earlier_than_none, least_joined}
use Rattle.fault_list.specs.declared.fault.Fault.{Fault}
use Rattle.name_index.specs.NameLaws.{number_with}
use Rattle.name_index.specs.Names.{number_of, with_name, first_number}
use Rattle.name_rules.specs.Twice.{is_listed, repeats, twice}

pub listed_more : (before : List NameAt) (n : NameAt) (names : List (List ℕ × ℕ)) (k : ℕ) → ((other : List ℕ) → is_some (number_of names other) ≡ is_listed before other)
    → (other : List ℕ) → is_some (number_of (with_name names n.name k) other) ≡ is_listed (before ++ n ∷ []) other
listed_more before n names k h other =
    ap is_some (number_with names n.name k other) ∙ go (number_of names other) (h other) ∙ sym (list_any-append (λ (m : NameAt). bytes_eq other m.name) before (n ∷ []))
  where
    go : (o : Option ℕ) → is_some o ≡ is_listed before other → is_some (first_number o other n.name k) ≡ is_listed before other || (bytes_eq other n.name || false)
    go (Some b) e = rw (← e) refl
    go None e = rw (← e) (at (bytes_eq other n.name))
      where
        at : (t : Bool) → is_some (cond t (Some k) None) ≡ false || (t || false)
        at true = refl
        at false = refl

-- What is left decides, and the index has the names before.
pub record IsSoFar (before rest : List NameAt) (names : List (List ℕ × ℕ)) (first whole : Option Fault) : Type 0 where
  pub left : earlier first (least (repeats before rest)) ≡ whole
  pub known : (name : List ℕ) → is_some (number_of names name) ≡ is_listed before name

pub so_far_begins : (rest : List NameAt) (first : Option Fault) → IsSoFar [] rest [] first (earlier first (least (repeats [] rest)))
so_far_begins rest first = record { left = refl; known = λ name. refl }

pub so_far_goes_on : (before : List NameAt) (n : NameAt) (rest : List NameAt) (names : List (List ℕ × ℕ)) (first whole : Option Fault) → IsSoFar before (n ∷ rest) names first whole
    → IsSoFar (before ++ n ∷ []) rest (with_name names n.name 0) (earlier first (least (fault_if (is_some (number_of names n.name)) (twice n)))) whole
so_far_goes_on before n rest names first whole h = record {
  left = rw (h.known n.name) (sym (earlier_of_three first (least here) (least (repeats (before ++ n ∷ []) rest))) ∙ ap (earlier first) (sym (least_joined here (repeats (before ++ n ∷ []) rest))) ∙ h.left);
  known = listed_more before n names 0 h.known;
}
  where
    here : List Fault
    here = fault_if (is_listed before n.name) (twice n)

pub so_far_ends : (before : List NameAt) (names : List (List ℕ × ℕ)) (first whole : Option Fault) → IsSoFar before [] names first whole → first ≡ whole
so_far_ends before names first whole h = sym (earlier_than_none first) ∙ h.left

-- The names of a list, of the items that pass a test.
module _ {A : Type 0} (named : A → NameAt) (passes : A → Bool) where
  abbrev pub names_in : List A → List NameAt
  names_in items = map named (filter passes items)

  module _ (items : List A) (i : ℕ) (x : A) (inside : i < length items) (is : x ≡ get_or items i x) where
    names_before : names_in (take (i + 1) items) ≡ names_in (take i items) ++ cond (passes x) (named x ∷ []) []
    names_before = ap names_in (take_more items i x inside ∙ ap (λ (y : A). take i items ++ y ∷ []) (sym is)) ∙ ap (map named) (filter-append passes (take i items) (x ∷ []))
        ∙ map-append named (filter passes (take i items)) (filter passes (x ∷ [])) ∙ ap (λ (ns : List NameAt). names_in (take i items) ++ ns) (one (passes x))
      where
        one : (t : Bool) → map named (cond t (x ∷ []) []) ≡ cond t (named x ∷ []) []
        one true = refl
        one false = refl

    names_left : names_in (drop i items) ≡ cond (passes x) (named x ∷ names_in (drop (i + 1) items)) (names_in (drop (i + 1) items))
    names_left = ap names_in (drop_more items i x inside ∙ ap (λ (y : A). y ∷ drop (i + 1) items) (sym is)) ∙ one (passes x)
      where
        one : (t : Bool) → map named (cond t (x ∷ filter passes (drop (i + 1) items)) (filter passes (drop (i + 1) items))) ≡ cond t (named x ∷ names_in (drop (i + 1) items)) (names_in (drop (i + 1) items))
        one true = refl
        one false = refl

    -- One item more of a list that is gone through.
    pub taken_next : (names : List (List ℕ × ℕ)) (first whole : Option Fault) → passes x ≡ true → IsSoFar (names_in (take i items)) (names_in (drop i items)) names first whole
        → IsSoFar (names_in (take (i + 1) items)) (names_in (drop (i + 1) items)) (with_name names (named x).name 0) (earlier first (least (fault_if (is_some (number_of names (named x).name)) (twice (named x))))) whole
    taken_next names first whole e h =
        let before : names_in (take (i + 1) items) ≡ names_in (take i items) ++ named x ∷ [] = names_before ∙ ap (λ (t : Bool). names_in (take i items) ++ cond t (named x ∷ []) []) e in
        let left : names_in (drop i items) ≡ named x ∷ names_in (drop (i + 1) items) = names_left ∙ ap (λ (t : Bool). cond t (named x ∷ names_in (drop (i + 1) items)) (names_in (drop (i + 1) items))) e in
        subst (λ (ns : List NameAt). IsSoFar ns (names_in (drop (i + 1) items)) (with_name names (named x).name 0) (earlier first (least (fault_if (is_some (number_of names (named x).name)) (twice (named x))))) whole) (sym before)
        (so_far_goes_on (names_in (take i items)) (named x) (names_in (drop (i + 1) items)) names first whole (subst (λ (ns : List NameAt). IsSoFar (names_in (take i items)) ns names first whole) left h))

    pub left_out_next : (names : List (List ℕ × ℕ)) (first whole : Option Fault) → passes x ≡ false → IsSoFar (names_in (take i items)) (names_in (drop i items)) names first whole
        → IsSoFar (names_in (take (i + 1) items)) (names_in (drop (i + 1) items)) names first whole
    left_out_next names first whole e h =
        let before : names_in (take (i + 1) items) ≡ names_in (take i items) = names_before ∙ ap (λ (t : Bool). names_in (take i items) ++ cond t (named x ∷ []) []) e ∙ append_nil (names_in (take i items)) in
        let left : names_in (drop i items) ≡ names_in (drop (i + 1) items) = names_left ∙ ap (λ (t : Bool). cond t (named x ∷ names_in (drop (i + 1) items)) (names_in (drop (i + 1) items))) e in
        subst (λ (ns : List NameAt). IsSoFar ns (names_in (drop (i + 1) items)) names first whole) (sym before)
        (subst (λ (ns : List NameAt). IsSoFar (names_in (take i items)) ns names first whole) left h)

  pub all_gone : (items : List A) (i : ℕ) (names : List (List ℕ × ℕ)) (first whole : Option Fault) → length items ≤ i → IsSoFar (names_in (take i items)) (names_in (drop i items)) names first whole → first ≡ whole
  all_gone items i names first whole end h =
      so_far_ends (names_in (take i items)) names first whole (subst (λ (xs : List A). IsSoFar (names_in (take i items)) (names_in xs) names first whole) (drop_all i items end) h)

-- Where every item passes.
pub names_all : {A : Type 0} (named : A → NameAt) (items : List A) → names_in named (λ x. true) items ≡ map named items
names_all named [] = refl
names_all named (x ∷ items) = ap (λ (ns : List NameAt). named x ∷ ns) (names_all named items)
