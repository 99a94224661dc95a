-- The fronts of a library, file by file.
use Rattle.std.proofs.Common.{◌≡◌, ◌∙◌, ◌<◌, ◌≤◌, ◌+◌, refl, sym, ap, arith, ℕ, zero, suc, Bool, true, false, cond, List, [], ◌∷◌, ◌++◌, append_assoc, drop, get_or, length, map}
use Rattle.std.proofs.lemmas.List.{drop_all, drop_more, map-append}
use Rattle.std.specs.List.{position_from}
use Rattle.std.specs.Prelude.{Option, Some, None, option_and_then, slice_get}
use Rattle.std.specs.Str.{bytes_eq}
use Rattle.design_lexer.specs.declared.tree.BodyTree.{BodyTree}
use Rattle.design_lexer.specs.declared.tree.File.{File}
use Rattle.design_lexer.specs.declared.tree.File.TheVariants as file
use Rattle.design_lexer.specs.declared.tree.ParamTree.{ParamTree}
use Rattle.fault_list.specs.Faults.{in_file}
use Rattle.name_index.specs.Places.{place_of}
use Rattle.name_table.specs.Files.{is_design, stem_place}
use Rattle.name_table.specs.declared.source.SourceFile.{SourceFile}
use Rattle.reference_check.specs.Fronts.{front_held, front_in, fronts_held, wanted_held}
use Rattle.reference_check.specs.LibraryFronts.{AreFrontsOf, front_at, front_by, front_of, fronts_from, tree_faults, wanted_of}
use Rattle.reference_check.specs.declared.front.Front as held
use Rattle.reference_check.specs.declared.front.Wanted.{Wanted}
use Rattle.reference_meaning.specs.Sources.{body_of}
use Rattle.reference_rules.specs.ReferenceFaults.{Front, reference_faults}
use Rattle.unit_check.specs.Declaring.{params_of}
use Rattle.reference_rules.specs.ReferenceFaults.{Wanted as Meant}
use Rattle.value_type.specs.declared.poset.Types.{Types}

position_mapped : {A B : Type 0} (p : B → Bool) (f : A → B) (s : ℕ) (xs : List A) → position_from p s (map f xs) ≡ position_from (λ x. p (f x)) s xs
position_mapped p f s [] = refl
position_mapped p f s (x ∷ xs) = ap (cond (p (f x)) (Some s)) (position_mapped p f (s + 1) xs)

-- The parameters that are held have the places of those that are written.
pub wanted_numbered : (files : List SourceFile) (types : Types) (params : List ParamTree) (made : List Wanted) (name : List ℕ) → map wanted_held made ≡ map (wanted_of files types) params → place_of (λ (w : Wanted). w.name) made name ≡ place_of (λ (p : ParamTree). p.name.name) params name
wanted_numbered files types params made name e =
    sym (position_mapped (λ (w : Meant). bytes_eq name w.name) wanted_held 0 made) ∙ ap (position_from (λ (w : Meant). bytes_eq name w.name) 0) e ∙ position_mapped (λ (w : Meant). bytes_eq name w.name) (wanted_of files types) 0 params

abbrev pub held_in : Option held.Front → Option Front
held_in o = front_in (Some o)

-- The body of a design or template.
abbrev IsBody : File → BodyTree → Type 0
IsBody tree b = body_of tree ≡ Some b

module _ (all : List SourceFile) (types : Types) where
  fronts_more : (i : ℕ) (f : SourceFile) → i < length all → f ≡ get_or all i f → fronts_from all types i (drop i all) ≡ front_at all types i f.tree ∷ fronts_from all types (i + 1) (drop (i + 1) all)
  fronts_more i f inside is = ap (fronts_from all types i) (drop_more all i f inside ∙ ap (λ (y : SourceFile). y ∷ drop (i + 1) all) (sym is))

  -- One front more is made.
  pub front_next : (i : ℕ) (f : SourceFile) (made : List (Option held.Front)) (new : Option held.Front) → i < length all → f ≡ get_or all i f → fronts_from all types 0 all ≡ map held_in made ++ fronts_from all types i (drop i all) → held_in new ≡ front_at all types i f.tree
      → fronts_from all types 0 all ≡ map held_in (made ++ new ∷ []) ++ fronts_from all types (i + 1) (drop (i + 1) all)
  front_next i f made new inside is left e =
      left ∙ ap (λ fs. map held_in made ++ fs) (fronts_more i f inside is) ∙ ap (λ x. map held_in made ++ x ∷ fronts_from all types (i + 1) (drop (i + 1) all)) (sym e)
      ∙ sym (append_assoc (map held_in made) (held_in new ∷ []) (fronts_from all types (i + 1) (drop (i + 1) all))) ∙ ap (λ fs. fs ++ fronts_from all types (i + 1) (drop (i + 1) all)) (sym (map-append held_in made (new ∷ [])))

  got_front : (s : ℕ) (files : List SourceFile) (made : List (Option held.Front)) (k : ℕ) → fronts_from all types s files ≡ map held_in made → front_in (slice_get made k) ≡ front_by all types (s + k) (slice_get files k)
  got_front s [] [] k e = refl
  got_front s [] (x ∷ made) k e = absurd (cc)
  got_front s (f ∷ files) [] k e = absurd (cc)
  got_front s (f ∷ files) (x ∷ made) zero e = let same : held_in x ≡ front_at all types s f.tree = cc in let here : s ≡ s + 0 = omega arith in same ∙ ap (λ n. front_at all types n f.tree) here
  got_front s (f ∷ files) (x ∷ made) (suc k) e =
      let rest : fronts_from all types (s + 1) files ≡ map held_in made = cc in
      let next : s + 1 + k ≡ s + suc k = omega arith in
      got_front (s + 1) files made k rest ∙ ap (λ n. front_by all types n (slice_get files k)) next

  none_after : (xs ys : List (Option Front)) → xs ++ ys ≡ xs ++ ys → ys ≡ [] → xs ++ ys ≡ xs
  none_after [] ys e none = none
  none_after (x ∷ xs) ys e none = ap (λ zs. x ∷ zs) (none_after xs ys refl none)

  -- At the end each file has its front.
  pub fronts_done : (i : ℕ) (made : List (Option held.Front)) → length all ≤ i → fronts_from all types 0 all ≡ map held_in made ++ fronts_from all types i (drop i all) → AreFrontsOf all types made
  fronts_done i made end left k = let same : 0 + k ≡ k = omega arith in got_front 0 all made k whole ∙ ap (λ n. front_by all types n (slice_get all k)) same
    where
      whole : fronts_from all types 0 all ≡ map held_in made
      whole = left ∙ none_after (map held_in made) (fronts_from all types i (drop i all)) refl (ap (fronts_from all types i) (drop_all i all end))

  -- Then each name has its front.
  pub named_fronts : (made : List (Option held.Front)) → AreFrontsOf all types made → (name : List ℕ) → fronts_held all made name ≡ front_of all types name
  named_fronts made are name = go (stem_place is_design all name)
    where
      go : (o : Option ℕ) → option_and_then (λ k. front_in (slice_get made k)) o ≡ option_and_then (λ k. front_by all types k (slice_get all k)) o
      go None = refl
      go (Some k) = are k

  -- The faults of a file by its front.
  pub file_faults : (made : List (Option held.Front)) → AreFrontsOf all types made → (i : ℕ) (f : SourceFile) (own : held.Front) (b : BodyTree) → slice_get all i ≡ Some f → front_in (slice_get made i) ≡ Some (front_held own) → IsBody f.tree b
      → reference_faults (fronts_held all made) (map wanted_held own.wanted) b ≡ tree_faults (front_of all types) (map (wanted_of all types) (params_of f.tree)) f.tree
  file_faults made are i f own b got there is = (λ j. reference_faults (λ name. named_fronts made are name j) (wanted j) b) ∙ go f.tree is
    where
      fronts : front_at all types i f.tree ≡ Some (front_held own)
      fronts = sym (ap (front_by all types i) got) ∙ sym (are i) ∙ there

      wanted_by : (t : Bool) (g : Front) → cond t (Some g) None ≡ Some (front_held own) → map wanted_held own.wanted ≡ g.wanted
      wanted_by true g e = let same : g ≡ front_held own = cc in sym (ap (λ (h : Front). h.wanted) same)
      wanted_by false g e = absurd (cc)

      wanted : map wanted_held own.wanted ≡ map (wanted_of all types) (params_of f.tree)
      wanted = wanted_by (is_design f.tree) _ fronts

      go : (tree : File) → IsBody tree b → reference_faults (front_of all types) (map (wanted_of all types) (params_of f.tree)) b ≡ tree_faults (front_of all types) (map (wanted_of all types) (params_of f.tree)) tree
      go (file.Poset poset) e = absurd (cc)
      go (file.Interface ports) e = absurd (cc)
      go (file.Design c) e = let same : c ≡ b = cc in ap (reference_faults (front_of all types) (map (wanted_of all types) (params_of f.tree))) (sym same)
      go (file.Template params c) e = let same : c ≡ b = cc in ap (reference_faults (front_of all types) (map (wanted_of all types) (params_of f.tree))) (sym same)

  -- A design or template has a front.
  pub has_front : (made : List (Option held.Front)) → AreFrontsOf all types made → (i : ℕ) (f : SourceFile) (b : BodyTree) → slice_get all i ≡ Some f → IsBody f.tree b → front_in (slice_get made i) ≡ None → ⊥
  has_front made are i f b got is none = go f.tree is (sym (ap (front_by all types i) got) ∙ sym (are i) ∙ none)
    where
      go : (tree : File) → IsBody tree b → front_at all types i tree ≡ None → ⊥
      go (file.Poset poset) e h = absurd (cc)
      go (file.Interface ports) e h = absurd (cc)
      go (file.Design c) e h = absurd (cc)
      go (file.Template params c) e h = absurd (cc)

-- A file without a body has no faults.
pub no_body : (front : List ℕ → Option Front) (wanted : List Meant) (name : List ℕ) (tree : File) → body_of tree ≡ None → in_file name (tree_faults front wanted tree) ≡ []
no_body front wanted name (file.Poset poset) e = refl
no_body front wanted name (file.Interface ports) e = refl
no_body front wanted name (file.Design c) e = absurd (cc)
no_body front wanted name (file.Template params c) e = absurd (cc)
