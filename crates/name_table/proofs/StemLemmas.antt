-- One file more among the stems of a library.
use Rattle.std.proofs.Common.{◌≡◌, ◌∙◌, ◌<◌, ◌≤◌, ◌+◌, ◌&&◌, arith, sym, ap, subst, ℕ, Bool, true, false, cond, List, [], ◌∷◌, ◌++◌, take, drop, length, get_or}
use Rattle.std.proofs.lemmas.List.{drop_all, drop_more, length-take-le, take_all, take_more}
use Rattle.std.specs.Prelude.{Option, Some, None, Err, is_some}
use Rattle.std.specs.Str.{bytes_eq}
use Rattle.design_lexer.specs.declared.tree.File.{File}
use Rattle.fault_list.specs.Answers.{Answers}
use Rattle.fault_list.specs.AnswersLaws.{stopped_left, passed_left}
use Rattle.fault_list.specs.Faults.{fault_if}
use Rattle.fault_list.specs.declared.fault.FileFault.{FileFault}
use Rattle.fault_list.specs.declared.fault.Stop.{Stop}
use Rattle.name_index.specs.NameLaws.{number_with}
use Rattle.name_index.specs.Names.{number_of, with_name}
use Rattle.name_index.specs.PlaceLaws.{else, else_none, first_else, position_more}
use Rattle.name_table.specs.Files.{stem_place, table_place}
use Rattle.name_table.specs.Listing.{is_taken, listed_twice, space_of}
use Rattle.name_table.specs.Stems.{AreTableStems}
use Rattle.name_table.specs.declared.source.SourceFile.{SourceFile}
use Rattle.name_table.specs.declared.source.Table.{Table}

module _ (space : File → Bool) (before : List SourceFile) (f : SourceFile) (names : List (List ℕ × ℕ)) (h : (stem : List ℕ) → number_of names stem ≡ stem_place space before stem) where
  more : (stem : List ℕ) (t : Bool) → space f.tree ≡ t → stem_place space (before ++ f ∷ []) stem ≡ else (stem_place space before stem) (cond (t && bytes_eq stem f.stem) (Some (length before)) None)
  more stem t e =
      let from : 0 + length before ≡ length before = omega arith in
      position_more (λ (g : SourceFile). space g.tree && bytes_eq stem g.stem) 0 before f
      ∙ ap (λ (k : ℕ). else (stem_place space before stem) (cond (space f.tree && bytes_eq stem f.stem) (Some k) None)) from
      ∙ ap (λ (s : Bool). else (stem_place space before stem) (cond (s && bytes_eq stem f.stem) (Some (length before)) None)) e

  pub stem_added : (n : ℕ) → length before ≡ n → space f.tree ≡ true → (stem : List ℕ) → number_of (with_name names f.stem n) stem ≡ stem_place space (before ++ f ∷ []) stem
  stem_added n size e stem =
      number_with names f.stem n stem ∙ first_else (number_of names stem) stem f.stem n
      ∙ ap (λ (o : Option ℕ). else o (cond (bytes_eq stem f.stem) (Some n) None)) (h stem)
      ∙ ap (λ (k : ℕ). else (stem_place space before stem) (cond (bytes_eq stem f.stem) (Some k) None)) (sym size)
      ∙ sym (more stem true e)

  pub stem_kept : space f.tree ≡ false → (stem : List ℕ) → number_of names stem ≡ stem_place space (before ++ f ∷ []) stem
  stem_kept e stem = h stem ∙ sym (else_none (stem_place space before stem)) ∙ sym (more stem false e)

  pub taken_same : space_of f.tree ≡ space → fault_if (is_some (number_of names f.stem)) (listed_twice f.name) ≡ fault_if (is_taken before f) (listed_twice f.name)
  taken_same e = ap (λ (o : Option ℕ). fault_if (is_some o) (listed_twice f.name)) (h f.stem) ∙ ap (λ (s : File → Bool). fault_if (is_some (stem_place s before f.stem)) (listed_twice f.name)) (sym e)

-- One table more.
pub table_added : (before : List Table) (t : Table) (names : List (List ℕ × ℕ)) (n : ℕ) → length before ≡ n → AreTableStems before names → AreTableStems (before ++ t ∷ []) (with_name names t.stem n)
table_added before t names n size h = λ stem.
    let from : 0 + length before ≡ n = omega (arith, size) in
    number_with names t.stem n stem ∙ first_else (number_of names stem) stem t.stem n
    ∙ ap (λ (o : Option ℕ). else o (cond (bytes_eq stem t.stem) (Some n) None)) (h stem)
    ∙ ap (λ (k : ℕ). else (table_place before stem) (cond (bytes_eq stem t.stem) (Some k) None)) (sym from)
    ∙ sym (position_more (λ (u : Table). bytes_eq stem u.stem) 0 before t)

-- The faults that are left, and what stands for the items before.
abbrev pub Left : {A S : Type 0} → (List A → List A → List FileFault) → (List A → S → Type 0) → List A → ℕ → S → Type 0
Left faults Are items i state = (faults [] items ≡ faults (take i items) (drop i items)) × Are (take i items) state

-- Going through a list whose faults are said item by item, after those before.
module _ {A S : Type 0} (faults : List A → List A → List FileFault) (own : List A → A → List FileFault) (Are : List A → S → Type 0)
    (next : (before : List A) (x : A) (rest : List A) → faults before (x ∷ rest) ≡ own before x ++ faults (before ++ x ∷ []) rest)
    (items : List A) (i : ℕ) (x : A) (inside : i < length items) (is : x ≡ get_or items i x) where
  taken : take (i + 1) items ≡ take i items ++ x ∷ []
  taken = take_more items i x inside ∙ ap (λ (y : A). take i items ++ y ∷ []) (sym is)

  left : faults (take i items) (drop i items) ≡ own (take i items) x ++ faults (take i items ++ x ∷ []) (drop (i + 1) items)
  left = ap (faults (take i items)) (drop_more items i x inside ∙ ap (λ (y : A). y ∷ drop (i + 1) items) (sym is)) ∙ next (take i items) x (drop (i + 1) items)

  pub sized : length (take i items) ≡ i
  sized = let within : i ≤ length items = omega arith in omega (arith, length-take-le i items within)

  pub left_next : (state made : S) → Left faults Are items i state → own (take i items) x ≡ [] → Are (take i items ++ x ∷ []) made → Left faults Are items (i + 1) made
  left_next state made h none are = (
    h.0 ∙ left ∙ passed_left (own (take i items) x) (faults (take i items ++ x ∷ []) (drop (i + 1) items)) none ∙ ap (λ (ys : List A). faults ys (drop (i + 1) items)) (sym taken),
    subst (λ (ys : List A). Are ys made) (sym taken) are,
  )

  pub left_stopped : {B C : Type 0} (state : S) (Meant : B → Type 0) (Told : C → Type 0) (s : Stop FileFault) → Left faults Are items i state → Answers {A = B} (own (take i items) x) Meant (Err s) → Answers {A = C} (faults [] items) Told (Err s)
  left_stopped state Meant Told s h stopped = stopped_left (own (take i items) x) (faults (take i items ++ x ∷ []) (drop (i + 1) items)) (faults [] items) Meant Told s (h.0 ∙ left) stopped

-- At the end no fault is left.
pub left_done : {A S : Type 0} (faults : List A → List A → List FileFault) (Are : List A → S → Type 0) → ((before : List A) → faults before [] ≡ []) → (items : List A) (i : ℕ) (state : S) → length items ≤ i
    → Left faults Are items i state → (faults [] items ≡ []) × Are items state
left_done {A = A} faults Are ends items i state end h = (
  h.0 ∙ ap (faults (take i items)) (drop_all i items end) ∙ ends (take i items),
  subst (λ (ys : List A). Are ys state) (take_all i items end) h.1,
)

abbrev pub own_stem : List SourceFile → SourceFile → List FileFault
own_stem before f = fault_if (is_taken before f) (listed_twice f.name)

abbrev pub own_table : List Table → Table → List FileFault
own_table before t = fault_if (is_some (table_place before t.stem)) (listed_twice t.name)
