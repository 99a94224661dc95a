-- Where the names of a library are in order, its posets and their elements are there, so literals have no fault. Faults of other kinds than `Unknown`.
use Rattle.std.proofs.Common.{◌≡◌, ◌∙◌, ◌+◌, arith, refl, sym, ap, subst, ℕ, suc, Bool, true, false, cond, List, [], ◌∷◌, ◌++◌, filter}
use Rattle.std.specs.List.{flat_map, position_from}
use Rattle.std.specs.Prelude.{◌&&◌, Option, Some, None, is_some, map, not, option_and_then, slice_get}
use Rattle.std.specs.Str.{bytes_eq}
use Rattle.design_lexer.specs.declared.tree.File.{File}
use Rattle.design_lexer.specs.declared.tree.File.TheVariants as file
use Rattle.design_lexer.specs.declared.tree.NameAt.{NameAt}
use Rattle.expr_lower.specs.Literals.{literal_faults, poset_named}
use Rattle.expr_lower.specs.Literals as literals
use Rattle.fault_list.specs.FaultLaws.{none_by_place, none_left}
use Rattle.fault_list.specs.Faults.{fault_if, fault_unless, in_file, named}
use Rattle.fault_list.specs.RestLaws.{none_right}
use Rattle.fault_list.specs.declared.fault.Fault.{Fault}
use Rattle.fault_list.specs.declared.fault.FaultKind.TheVariants.{Unknown}
use Rattle.name_index.specs.PlaceLaws.{position_there}
use Rattle.name_rules.specs.Known.{Known}
use Rattle.name_rules.specs.Twice.{is_listed, twice_faults}
use Rattle.name_rules.specs.Unknown.{literal_unknown, unknown, unknown_faults, unknown_names, unknown_unless}
use Rattle.name_table.specs.Files.{elements_in, elements_of, is_poset, known_in, poset_elements, stem_place}
use Rattle.name_table.specs.Library.{ArePosets, IsPosetIn}
use Rattle.name_table.specs.Listing.{listing_faults}
use Rattle.name_table.specs.NameFaults.{file_faults, name_faults, spelling_faults}
use Rattle.name_table.specs.Orders.{poset_faults}
use Rattle.name_table.specs.References.{circular_faults}
use Rattle.name_table.specs.declared.source.SourceFile.{SourceFile}
use Rattle.name_table.specs.declared.source.Table.{Table}
use Rattle.order_core.specs.Pointwise.{Each, Pointwise}
use Rattle.order_core.specs.PointwiseLaws.{each_weaker}
use Rattle.tree_units.specs.Elements.{element_place, unknown_elements}
use Rattle.tree_units.specs.Elements as element_names
use Rattle.unit_check.proofs.PlaceLemmas.{position_mapped}
use Rattle.value_type.specs.declared.poset.Poset.{Poset}
use Rattle.value_type.specs.declared.poset.Types.{Types}

-- ---- lists without an item

map_none : {A B : Type 0} (f : A → B) (xs : List A) → map f xs ≡ [] → xs ≡ []
map_none f [] e = refl
map_none f (x ∷ xs) e = absurd (cc)

-- Lists that are put together are empty exactly where each is.
pub each_none : {A B : Type 0} (f : A → List B) (xs : List A) → flat_map f xs ≡ [] → Each (λ x. f x ≡ []) xs
each_none f [] e = tt
each_none f (x ∷ xs) e = (none_left (f x) (flat_map f xs) e, each_none f xs (none_right (f x) (flat_map f xs) e))

all_none : {A B : Type 0} (f : A → List B) (xs : List A) → Each (λ x. f x ≡ []) xs → flat_map f xs ≡ []
all_none f [] h = refl
all_none f (x ∷ xs) h = rw (h.0, all_none f xs h.1) refl

-- A test without a fault passed.
pub passed : {F : Type 0} (t : Bool) (fault : F) → fault_if (not t) fault ≡ [] → t ≡ true
passed true fault e = refl
passed false fault e = absurd (cc)

-- A value that is there has no fault.
pub none_there : {A F : Type 0} (o : Option A) (fault : F) → is_some o ≡ true → fault_unless o fault ≡ []
none_there (Some x) fault e = refl
none_there None fault e = absurd (cc)

-- ---- what the rules of names say of each file

file_spelled : (known : Known) (f : SourceFile) → file_faults known f ≡ [] → unknown_faults known f.tree ≡ []
file_spelled known f e =
    none_right (twice_faults f.tree) (unknown_faults known f.tree)
    (none_by_place (twice_faults f.tree ++ unknown_faults known f.tree) (map_none (named f.name) (spelling_faults known f) (none_left (in_file f.name (spelling_faults known f)) (in_file f.name (poset_faults f.tree)) e)))

-- Where names are in order, each name of each file is known.
pub files_spelled : (files : List SourceFile) (tables : List Table) → name_faults files tables ≡ [] → Each (λ f. unknown_faults (known_in files tables) f.tree ≡ []) files
files_spelled files tables e =
    let known = known_in files tables in
    each_weaker (λ (f : SourceFile). file_faults known f ≡ []) (λ (f : SourceFile). unknown_faults known f.tree ≡ []) files (λ f m none. file_spelled known f none)
    (each_none (file_faults known) files (none_right (listing_faults files tables) (flat_map (file_faults known) files) (none_left (listing_faults files tables ++ flat_map (file_faults known) files) (circular_faults files) e)))

-- ---- the posets of a library

-- the first item that passes
abbrev first_of : {A : Type 0} → (A → Bool) → List A → Option A
first_of p [] = None
first_of p (x ∷ xs) = cond (p x) (Some x) (first_of p xs)

-- The item at the place that is found is the first one that passes.
found_from : {A : Type 0} (p : A → Bool) (all : List A) (s : ℕ) (xs : List A) → ((k : ℕ) → slice_get all (k + s) ≡ slice_get xs k) → option_and_then (slice_get all) (position_from p s xs) ≡ first_of p xs
found_from p all s [] h = refl
found_from {A = A} p all s (x ∷ xs) h = go (p x) (found_from p all (s + 1) xs next)
  where
    next : (k : ℕ) → slice_get all (k + (s + 1)) ≡ slice_get xs k
    next k = let same : k + (s + 1) ≡ suc k + s = omega arith in ap (slice_get all) same ∙ h (suc k)

    here : slice_get all s ≡ Some x
    here = let same : s ≡ 0 + s = omega arith in ap (slice_get all) same ∙ h 0

    go : (t : Bool) → option_and_then (slice_get all) (position_from p (s + 1) xs) ≡ first_of p xs → option_and_then (slice_get all) (cond t (Some s) (position_from p (s + 1) xs)) ≡ cond t (Some x) (first_of p xs)
    go true later = here
    go false later = later

found_first : {A : Type 0} (p : A → Bool) (xs : List A) → option_and_then (slice_get xs) (position_from p 0 xs) ≡ first_of p xs
found_first p xs = found_from p xs 0 xs (λ k. let same : k + 0 ≡ k = omega arith in ap (slice_get xs) same)

-- There is a first one where a place is found.
first_there : {A : Type 0} (p : A → Bool) (s : ℕ) (xs : List A) → is_some (position_from p s xs) ≡ true → (x : A) × (first_of p xs ≡ Some x)
first_there p s [] e = absurd (cc)
first_there {A = A} p s (x ∷ xs) e = go (p x) e (first_there p (s + 1) xs)
  where
    go : (t : Bool) → is_some (cond t (Some s) (position_from p (s + 1) xs)) ≡ true → (is_some (position_from p (s + 1) xs) ≡ true → (y : A) × (first_of p xs ≡ Some y)) → (y : A) × (cond t (Some x) (first_of p xs) ≡ Some y)
    go true f later = (x, refl)
    go false f later = later f

-- Two lists in which partners pass both or neither; the items of the first one are those of a space.
module _ {A B : Type 0} (R : A → B → Type 0) (space p : A → Bool) (q : B → Bool) (same : (x : A) (y : B) → R x y → p x ≡ q y) where
  -- the first item of the space that passes
  abbrev first_in : List A → Option A
  first_in xs = first_of (λ x. space x && p x) xs

  -- Its partner is the first one that passes.
  abbrev IsPartnered : Option A → Option B → Type 0
  IsPartnered o r = (x : A) → o ≡ Some x → (y : B) × (r ≡ Some y) × R x y

  abbrev ArePartnered : List A → Type 0
  ArePartnered xs = (ys : List B) → Pointwise R (filter space xs) ys → IsPartnered (first_in xs) (first_of q ys)

  -- One pair of partners more.
  both_pass : (z : A) (y : B) → R z y → (o : Option A) (r : Option B) → IsPartnered o r → (s t : Bool) → s ≡ t → IsPartnered (cond s (Some z) o) (cond t (Some y) r)
  both_pass z y related o r later true true e x f = let is : z ≡ x = cc in (y, refl, subst (λ (w : A). R w y) is related)
  both_pass z y related o r later false false e x f = later x f
  both_pass z y related o r later true false e x f = absurd (cc)
  both_pass z y related o r later false true e x f = absurd (cc)

  one_more : (z : A) (xs : List A) (ys : List B) → Pointwise R (z ∷ filter space xs) ys → ArePartnered xs → IsPartnered (cond (p z) (Some z) (first_in xs)) (first_of q ys)
  one_more z xs [] h later = absurd h
  one_more z xs (y ∷ ys) h later = both_pass z y h.0 (first_in xs) (first_of q ys) (later ys h.1) (p z) (q y) (same z y h.0)

  first_partner : (xs : List A) → ArePartnered xs
  first_partner [] ys h = λ x e. absurd (cc)
  first_partner (z ∷ xs) ys h = go (space z) h (first_partner xs)
    where
      go : (t : Bool) → Pointwise R (cond t (z ∷ filter space xs) (filter space xs)) ys → ArePartnered xs → IsPartnered (cond (t && p z) (Some z) (first_in xs)) (first_of q ys)
      go true k later = one_more z xs ys k later
      go false k later = later ys k

named_as : (stem : List ℕ) (t : File) (poset : Poset) → IsPosetIn stem t poset → poset.name ≡ stem
named_as stem (file.Poset tree) poset h = h.name_is
named_as stem (file.Interface ports) poset h = absurd h
named_as stem (file.Design b) poset h = absurd h
named_as stem (file.Template params b) poset h = absurd h

-- A poset has an element of each name that its file lists.
element_there : (stem : List ℕ) (t : File) (poset : Poset) → IsPosetIn stem t poset → (element : List ℕ) → is_some (element_place poset element) ≡ is_listed (elements_of t) element
element_there stem (file.Poset tree) poset h element =
    ap (λ (names : List (List ℕ)). is_some (position_from (λ n. bytes_eq element n) 0 names)) h.elements
    ∙ ap is_some (position_mapped (λ (n : List ℕ). bytes_eq element n) (λ (e : NameAt). e.name) 0 tree.elements) ∙ position_there (λ (e : NameAt). bytes_eq element e.name) 0 tree.elements
element_there stem (file.Interface ports) poset h element = absurd h
element_there stem (file.Design b) poset h element = absurd h
element_there stem (file.Template params b) poset h element = absurd h

-- A poset whose name is known is there, with the elements that are known.
pub record HasPosets (known : Known) (types : Types) : Type 0 where
  pub poset : (name : List ℕ) → known.poset name ≡ true → (p : Poset) × (poset_named types name ≡ Some p) × ((element : List ℕ) → known.element name element ≡ true → is_some (element_place p element) ≡ true)

-- The first poset file of a name is partner of the first poset of that name.
pub library_has : (files : List SourceFile) (tables : List Table) (types : Types) → ArePosets files types.posets → HasPosets (known_in files tables) types
library_has files tables types are = record { poset = found }
  where
    found : (name : List ℕ) → is_some (stem_place is_poset files name) ≡ true
        → (p : Poset) × (poset_named types name ≡ Some p) × ((element : List ℕ) → is_listed (poset_elements files name) element ≡ true → is_some (element_place p element) ≡ true)
    found name e =
        let f = first_there (λ (f : SourceFile). is_poset f.tree && bytes_eq name f.stem) 0 files e in
        let partner = first_partner (λ (f : SourceFile) (p : Poset). IsPosetIn f.stem f.tree p) (λ f. is_poset f.tree) (λ f. bytes_eq name f.stem) (λ p. bytes_eq name p.name)
        (λ f p r. ap (bytes_eq name) (sym (named_as f.stem f.tree p r))) files types.posets are f.0 f.1 in
        let is : poset_elements files name ≡ elements_of f.0.tree = ap elements_in (found_first (λ (f : SourceFile). is_poset f.tree && bytes_eq name f.stem) files ∙ f.1) in (
          partner.0,
          found_first (λ (p : Poset). bytes_eq name p.name) types.posets ∙ partner.1,
          λ element listed. element_there f.0.stem f.0.tree partner.0 partner.2 element ∙ ap (λ (names : List NameAt). is_listed names element) (sym is) ∙ listed,
        )

-- ---- literals

elements_known : (p : Poset) (finds : List ℕ → Bool) → ((element : List ℕ) → finds element ≡ true → is_some (element_place p element) ≡ true) → (elements : List NameAt) → unknown_names finds elements ≡ [] → unknown_elements p elements ≡ []
elements_known p finds h elements e =
    all_none (λ (name : NameAt). fault_unless (element_place p name.name) (element_names.unknown name)) elements
    (each_weaker (λ (name : NameAt). unknown_unless finds name ≡ []) (λ (name : NameAt). fault_unless (element_place p name.name) (element_names.unknown name) ≡ []) elements
    (λ name m none. none_there (element_place p name.name) (element_names.unknown name) (h name.name (passed (finds name.name) (unknown name) none))) (each_none (unknown_unless finds) elements e))

pub literal_known : (known : Known) (types : Types) → HasPosets known types → (poset : NameAt) (elements : List NameAt) → literal_unknown known poset elements ≡ [] → literal_faults types poset elements ≡ []
literal_known known types has poset elements e = go (known.poset poset.name) refl e
  where
    go : (t : Bool) → known.poset poset.name ≡ t → cond t (unknown_names (known.element poset.name) elements) (unknown poset ∷ []) ≡ [] → literal_faults types poset elements ≡ []
    go false is f = absurd (cc)
    go true is f = let there = has.poset poset.name is in ap (λ (o : Option Poset). literals.unknown_names poset o elements) there.1 ∙ elements_known there.0 (known.element poset.name) there.2 elements f

-- ---- faults of other kinds

-- The fault is not that a name leads nowhere.
abbrev pub IsOther : Fault → Type 0
IsOther fault = fault.kind ≡ Unknown → ⊥

-- None of the faults is.
abbrev pub AreOther : List Fault → Type 0
AreOther faults = Each IsOther faults

pub each_both : {A : Type 0} (P : A → Type 0) (xs ys : List A) → Each P xs → Each P ys → Each P (xs ++ ys)
each_both P [] ys h k = k
each_both P (x ∷ xs) ys h k = (h.0, each_both P xs ys h.1 k)

pub each_joined : {A B : Type 0} (P : B → Type 0) (f : A → List B) (xs : List A) → Each (λ x. Each P (f x)) xs → Each P (flat_map f xs)
each_joined P f [] h = tt
each_joined P f (x ∷ xs) h = each_both P (f x) (flat_map f xs) h.0 (each_joined P f xs h.1)

pub both_other : (xs ys : List Fault) → AreOther xs → AreOther ys → AreOther (xs ++ ys)
both_other xs ys = each_both IsOther xs ys

pub if_other : (t : Bool) (fault : Fault) → IsOther fault → AreOther (fault_if t fault)
if_other true fault h = (h, tt)
if_other false fault h = tt

pub unless_other : {A : Type 0} (o : Option A) (fault : Fault) → IsOther fault → AreOther (fault_unless o fault)
unless_other (Some x) fault h = tt
unless_other None fault h = (h, tt)

-- No fault is of another kind than none.
pub none_other : (faults : List Fault) → faults ≡ [] → AreOther faults
none_other faults e = subst AreOther (sym e) tt
