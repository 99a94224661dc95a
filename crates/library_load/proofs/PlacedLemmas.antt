-- Each design stands in its own file, since no stem stands twice.
use Rattle.std.proofs.Common.{◌≡◌, ◌∙◌, ◌+◌, ◌&&◌, arith, refl, sym, ap, subst, append_assoc, ℕ, zero, suc, Bool, true, false, cond, List, [], ◌∷◌, ◌++◌, take}
use Rattle.std.proofs.lemmas.Slice.Eq.{bytes_eq-Decides}
use Rattle.std.specs.List.{flat_map, position_from}
use Rattle.std.specs.Prelude.{Option, Some, None, find, is_some, slice_get}
use Rattle.std.specs.Str.{bytes_eq}
use Rattle.design_lexer.specs.declared.tree.File.{File}
use Rattle.design_lexer.specs.declared.tree.File.TheVariants as file
use Rattle.fault_list.specs.FaultLaws.{none_left}
use Rattle.fault_list.specs.Faults.{fault_if}
use Rattle.fault_list.specs.RestLaws.{none_right}
use Rattle.fault_list.specs.declared.fault.FileFault.{FileFault}
use Rattle.name_table.specs.Files.{is_design, known_in, stem_place}
use Rattle.name_table.specs.Listing.{among, by_file, is_before, is_taken, listed_twice, listing_faults, space_of, taken_stems, taken_tables}
use Rattle.name_table.specs.NameFaults.{file_faults, name_faults}
use Rattle.name_table.specs.References.{circular_faults}
use Rattle.name_table.specs.declared.source.SourceFile.{SourceFile}
use Rattle.name_table.specs.declared.source.Table.{Table}
use Rattle.order_core.specs.MemberLaws.{append_nil, first, second}
use Rattle.reference_meaning.specs.Sources.{is_closed}

-- ---- places

-- The item at the first place, where those before it don't pass.
pub position_at : {A : Type 0} (p : A → Bool) (s : ℕ) (xs : List A) (i : ℕ) (x : A) → position_from p s (take i xs) ≡ None → slice_get xs i ≡ Some x → p x ≡ true → position_from p s xs ≡ Some (s + i)
position_at p s [] i x none got passes = absurd (cc)
position_at p s (y ∷ ys) zero x none got passes =
    let same : y ≡ x = cc in let here : s ≡ s + 0 = omega arith in
    ap (λ t. cond t (Some s) (position_from p (s + 1) ys)) (ap p same ∙ passes) ∙ ap (λ (k : ℕ). Some k) here
position_at {A = A} p s (y ∷ ys) (suc i) x none got passes = go (p y) none (λ h. position_at p (s + 1) ys i x h got passes)
  where
    go : (t : Bool) → cond t (Some s) (position_from p (s + 1) (take i ys)) ≡ None → (position_from p (s + 1) (take i ys) ≡ None → position_from p (s + 1) ys ≡ Some (s + 1 + i)) → cond t (Some s) (position_from p (s + 1) ys) ≡ Some (s + suc i)
    go true h later = absurd (cc)
    go false h later = let same : s + 1 + i ≡ s + suc i = omega arith in later h ∙ ap (λ (k : ℕ). Some k) same

-- The first item that passes a test passes first of all that pass a narrower one.
pub first_found : {A : Type 0} (p q : A → Bool) → ((y : A) → q y ≡ true → p y ≡ true) → (s : ℕ) (xs : List A) (i : ℕ) (x : A) → position_from p s xs ≡ Some (s + i) → slice_get xs i ≡ Some x → q x ≡ true → find q xs ≡ Some x
first_found p q narrow s [] i x e got passes = absurd (cc)
first_found p q narrow s (y ∷ ys) zero x e got passes =
    let same : y ≡ x = cc in ap (λ t. cond t (Some y) (find q ys)) (ap q same ∙ passes) ∙ ap (λ z. Some z) same
first_found {A = A} p q narrow s (y ∷ ys) (suc i) x e got passes = go (p y) refl (q y) refl e (λ h. first_found p q narrow (s + 1) ys i x h got passes)
  where
    go : (t : Bool) → p y ≡ t → (u : Bool) → q y ≡ u → cond t (Some s) (position_from p (s + 1) ys) ≡ Some (s + suc i) → (position_from p (s + 1) ys ≡ Some (s + 1 + i) → find q ys ≡ Some x) → cond u (Some y) (find q ys) ≡ Some x
    go true is u so h later = let same : s ≡ s + suc i = cc in let never : ⊥ = omega (arith, same) in absurd never
    go false is true so h later = let passes = narrow y so in absurd (cc)
    go false is false so h later = let same : s + suc i ≡ s + 1 + i = omega arith in later (h ∙ ap (λ (k : ℕ). Some k) same)

pub find_got : {A : Type 0} (q : A → Bool) (xs : List A) (x : A) → find q xs ≡ Some x → (i : ℕ) × (slice_get xs i ≡ Some x) × (q x ≡ true)
find_got q [] x e = absurd (cc)
find_got {A = A} q (y ∷ ys) x e = go (q y) refl e (λ h. find_got q ys x h)
  where
    go : (t : Bool) → q y ≡ t → cond t (Some y) (find q ys) ≡ Some x → (find q ys ≡ Some x → (i : ℕ) × (slice_get ys i ≡ Some x) × (q x ≡ true)) → (i : ℕ) × (slice_get (y ∷ ys) i ≡ Some x) × (q x ≡ true)
    go true is h later = let same : y ≡ x = cc in (0, ap (λ (z : A). Some z) same, subst (λ z. q z ≡ true) same is)
    go false is h later = let w = later h in (suc w.0, w.1, w.2)

-- ---- stems

among_some : (x : FileFault) (rest : List FileFault → List FileFault) (ys : List FileFault) → among x rest ys ≡ [] → ⊥
among_some x rest [] e = absurd (cc)
among_some x rest (y ∷ ys) e = go (is_before y.file x.file) e
  where
    go : (t : Bool) → cond t (y ∷ among x rest ys) (x ∷ rest (y ∷ ys)) ≡ [] → ⊥
    go true h = absurd (cc)
    go false h = absurd (cc)

by_file_none : (xs ys : List FileFault) → by_file xs ys ≡ [] → xs ≡ []
by_file_none [] ys e = refl
by_file_none (x ∷ xs) ys e = absurd (among_some x (by_file xs) ys e)

not_taken : {A : Type 0} (o : Option A) (fault : FileFault) → fault_if (is_some o) fault ≡ [] → o ≡ None
not_taken (Some x) fault e = absurd (cc)
not_taken None fault e = refl

taken_none : (before files : List SourceFile) → taken_stems before files ≡ [] → (i : ℕ) (f : SourceFile) → slice_get files i ≡ Some f → stem_place (space_of f.tree) (before ++ take i files) f.stem ≡ None
taken_none before [] none i f e = absurd (cc)
taken_none before (g ∷ files) none zero f e =
    let same : g ≡ f = cc in
    let here = none_left (fault_if (is_taken before g) (listed_twice g.name)) (taken_stems (before ++ g ∷ []) files) none in
    subst (λ (h : SourceFile). stem_place (space_of h.tree) (before ++ []) h.stem ≡ None) same
    (ap (λ (fs : List SourceFile). stem_place (space_of g.tree) fs g.stem) (append_nil before) ∙ not_taken (stem_place (space_of g.tree) before g.stem) (listed_twice g.name) here)
taken_none before (g ∷ files) none (suc i) f e =
    ap (λ (fs : List SourceFile). stem_place (space_of f.tree) fs f.stem) (sym (append_assoc before (g ∷ []) (take i files)))
    ∙ taken_none (before ++ g ∷ []) files (none_right (fault_if (is_taken before g) (listed_twice g.name)) (taken_stems (before ++ g ∷ []) files) none) i f e

design_space : (tree : File) → is_design tree ≡ true → space_of tree ≡ is_design
design_space (file.Poset poset) e = absurd (cc)
design_space (file.Interface ports) e = absurd (cc)
design_space (file.Design b) e = refl
design_space (file.Template params b) e = refl

pub closed_design : (tree : File) → is_closed tree ≡ true → is_design tree ≡ true
closed_design (file.Poset poset) e = absurd (cc)
closed_design (file.Interface ports) e = absurd (cc)
closed_design (file.Design b) e = refl
closed_design (file.Template params b) e = absurd (cc)

module _ (files : List SourceFile) (tables : List Table) (none : name_faults files tables ≡ []) where
  stems_none : taken_stems [] files ≡ []
  stems_none = by_file_none (taken_stems [] files) (taken_tables [] tables) (none_left (listing_faults files tables) (flat_map (file_faults (known_in files tables)) files) (none_left (listing_faults files tables ++ flat_map (file_faults (known_in files tables)) files) (circular_faults files) none))

  -- The stem of a design or template stands for its own file.
  pub own_place : (i : ℕ) (f : SourceFile) → slice_get files i ≡ Some f → is_design f.tree ≡ true → stem_place is_design files f.stem ≡ Some i
  own_place i f e design =
      let free = taken_none [] files stems_none i f e in
      let same : 0 + i ≡ i = omega arith in
      position_at (λ (g : SourceFile). is_design g.tree && bytes_eq f.stem g.stem) 0 files i f
      (ap (λ space. stem_place space (take i files) f.stem) (sym (design_space f.tree design)) ∙ free) e
      (λ j. (design ∙ refl) j && (bytes_eq-Decides f.stem f.stem).1 refl j) ∙ ap (λ (k : ℕ). Some k) same

  -- Where a name stands for a design, that is the design of the name.
  pub closed_found : (stem : List ℕ) (i : ℕ) (f : SourceFile) → stem_place is_design files stem ≡ Some i → slice_get files i ≡ Some f → is_closed f.tree ≡ true → bytes_eq stem f.stem ≡ true → find (λ g. is_closed g.tree && bytes_eq stem g.stem) files ≡ Some f
  closed_found stem i f place got closed same =
      let at : i ≡ 0 + i = omega arith in
      first_found (λ (g : SourceFile). is_design g.tree && bytes_eq stem g.stem) (λ g. is_closed g.tree && bytes_eq stem g.stem) narrow 0 files i f (place ∙ ap (λ (k : ℕ). Some k) at) got (λ j. closed j && same j)
    where
      narrow : (g : SourceFile) → is_closed g.tree && bytes_eq stem g.stem ≡ true → is_design g.tree && bytes_eq stem g.stem ≡ true
      narrow g e = λ j. closed_design g.tree (first (is_closed g.tree) _ e) j && second (is_closed g.tree) (bytes_eq stem g.stem) e j
