-- The sources of files: there are some, they are one list at most, and they have the places of their files.
use Rattle.std.proofs.Common.{◌≡◌, ◌∙◌, ◌<◌, ◌+◌, ◌&&◌, inl, inr, arith, refl, sym, ap, subst, ℕ, zero, suc, Bool, true, cond, List, [], ◌∷◌, length}
use Rattle.std.proofs.lemmas.Option.{slice_get_within}
use Rattle.std.specs.List.{position_from}
use Rattle.std.specs.Prelude.{Option, Some, None, is_some, option_and_then, slice_get}
use Rattle.std.specs.Str.{bytes_eq}
use Rattle.catalogue_read.specs.Catalogues.{HasRows, HasSomeRows}
use Rattle.design_lexer.specs.declared.tree.BodyTree.{BodyTree}
use Rattle.design_lexer.specs.declared.tree.File.{File}
use Rattle.design_lexer.specs.declared.tree.File.TheVariants as file
use Rattle.design_lexer.specs.declared.tree.RefTree.{RefTree}
use Rattle.design_model.specs.declared.design.CatRow.{CatRow}
use Rattle.design_model.specs.declared.design.Design.{Design}
use Rattle.module_link.specs.Contents.{AreSourcesOf, IsSourceOf, source_of}
use Rattle.name_index.specs.PlaceLaws.{position_below}
use Rattle.name_table.specs.Files.{is_design, stem_place}
use Rattle.name_table.specs.declared.source.SourceFile.{SourceFile}
use Rattle.name_table.specs.declared.source.Table.{Table}
use Rattle.order_core.specs.MemberLaws.{first, got_member, second}
use Rattle.order_core.specs.Members.{IsMember}
use Rattle.order_core.specs.Pointwise.{Each}
use Rattle.order_core.specs.PointwiseLaws.{each_got}
use Rattle.reference_meaning.specs.Denotes.{BodyDenotes, Denotes, DenotesIn, DesignDenotes, FileDenotes}
use Rattle.reference_meaning.specs.DenotesLaws.{bodies_same, some_same}
use Rattle.reference_meaning.specs.Sources.{Source, body_of, source_named, source_place}
use Rattle.unit_check.proofs.PlaceLemmas.{passes_at}
use Rattle.value_type.specs.declared.poset.Types.{Types}

-- ---- lists by their places

pub got_at : {A : Type 0} (xs : List A) (i : ℕ) → i < length xs → (x : A) × (slice_get xs i ≡ Some x)
got_at [] i l = absurd (omega arith)
got_at (x ∷ xs) zero l = (x, refl)
got_at (x ∷ xs) (suc i) l = got_at xs i (omega arith)

pub member_got : {A : Type 0} (xs : List A) (x : A) → IsMember x xs → (i : ℕ) × (slice_get xs i ≡ Some x)
member_got [] x m = absurd m
member_got (y ∷ ys) x (inl e) = (0, ap Some (sym e))
member_got (y ∷ ys) x (inr m) = let at = member_got ys x m in (suc at.0, at.1)

-- Lists of one length whose items at each place are equal.
lists_same : {A : Type 0} (xs ys : List A) → length xs ≡ length ys → ((i : ℕ) (x y : A) → slice_get xs i ≡ Some x → slice_get ys i ≡ Some y → x ≡ y) → xs ≡ ys
lists_same [] [] n h = refl
lists_same [] (y ∷ ys) n h = absurd (omega arith)
lists_same (x ∷ xs) [] n h = absurd (omega arith)
lists_same (x ∷ xs) (y ∷ ys) n h =
    let head = h 0 x y refl refl in
    let tail = lists_same xs ys (omega arith) (λ i a b e f. h (suc i) a b e f) in
    λ i. head i ∷ tail i

-- Tests that agree at each place find the same place.
places_same : {A B : Type 0} (p : A → Bool) (q : B → Bool) (s : ℕ) (xs : List A) (ys : List B) → length xs ≡ length ys → ((i : ℕ) (x : A) (y : B) → slice_get xs i ≡ Some x → slice_get ys i ≡ Some y → p x ≡ q y)
    → position_from p s xs ≡ position_from q s ys
places_same p q s [] [] n h = refl
places_same p q s [] (y ∷ ys) n h = absurd (omega arith)
places_same p q s (x ∷ xs) [] n h = absurd (omega arith)
places_same p q s (x ∷ xs) (y ∷ ys) n h =
    let head = h 0 x y refl refl in
    let tail = places_same p q (s + 1) xs ys (omega arith) (λ i a b e f. h (suc i) a b e f) in
    λ i. cond (head i) (Some s) (tail i)

-- A partner for each item, by its place.
abbrev Partnered : {A B : Type 0} → (ℕ → A → B → Type 0) → List A → List B → Type 0
Partnered {A = A} {B = B} R xs ys = (i : ℕ) (x : A) → slice_get xs i ≡ Some x → (y : B) × (slice_get ys i ≡ Some y) × R i x y

partnered_next : {A B : Type 0} (R : ℕ → A → B → Type 0) (x : A) (y : B) (xs : List A) (ys : List B) → R 0 x y → Partnered (λ i. R (suc i)) xs ys → Partnered R (x ∷ xs) (y ∷ ys)
partnered_next R x y xs ys here rest zero z e = let same : x ≡ z = cc in (y, refl, subst (λ w. R 0 w y) same here)
partnered_next R x y xs ys here rest (suc i) z e = rest i z e

partners_made : {A B : Type 0} (R : ℕ → A → B → Type 0) (xs : List A) → ((i : ℕ) (x : A) → slice_get xs i ≡ Some x → (y : B) × R i x y) → (ys : List B) × (length ys ≡ length xs) × Partnered R xs ys
partners_made R [] h = ([], refl, λ i x e. absurd (cc))
partners_made R (x ∷ xs) h =
    let here = h 0 x refl in
    let rest = partners_made (λ i. R (suc i)) xs (λ i z e. h (suc i) z e) in
    (here.0 ∷ rest.0, ap suc rest.1, partnered_next R x here.0 xs rest.0 here.1 rest.2)

-- ---- files by their stems

-- A file that a stem stands for is of its space, and has the stem.
pub stem_found : (files : List SourceFile) (space : File → Bool) (stem : List ℕ) (j : ℕ) → stem_place space files stem ≡ Some j → (g : SourceFile) × (slice_get files j ≡ Some g) × (space g.tree ≡ true) × (bytes_eq stem g.stem ≡ true)
stem_found files space stem j e =
    let l = position_below (λ (f : SourceFile). space f.tree && bytes_eq stem f.stem) 0 files j e in
    let g = got_at files j (omega (arith, l)) in
    let same : j ≡ j + 0 = omega arith in
    let passes = passes_at (λ (f : SourceFile). space f.tree && bytes_eq stem f.stem) 0 files j g.0 (e ∙ ap (λ (z : ℕ). Some z) same) g.1 in
    (g.0, g.1, first (space g.0.tree) _ passes, second (space g.0.tree) _ passes)

body_there : (tree : File) → is_some (body_of tree) ≡ is_design tree
body_there (file.Poset poset) = refl
body_there (file.Interface ports) = refl
body_there (file.Design b) = refl
body_there (file.Template params b) = refl

pub has_body : (tree : File) → is_design tree ≡ true → (b : BodyTree) × (body_of tree ≡ Some b)
has_body (file.Poset poset) e = absurd (cc)
has_body (file.Interface ports) e = absurd (cc)
has_body (file.Design b) e = (b, refl)
has_body (file.Template params b) e = (b, refl)

pub is_body : (tree : File) (b : BodyTree) → body_of tree ≡ Some b → is_design tree ≡ true
is_body tree b e = sym (body_there tree) ∙ ap is_some e

module _ (files : List SourceFile) (tables : List Table) (types : Types) where
  -- Where each file has rows, there are sources.
  pub sources_made : Each (HasSomeRows tables types) files → (sources : List Source) × AreSourcesOf files tables types sources
  sources_made rows =
      let made = partners_made (IsSourceOf files tables types) files (λ i f e. let has = each_got (HasSomeRows tables types) files f rows (got_member files i f e) in (source_of files types i f has.0, record { rows = has.0; has = has.1; is = refl })) in
      (made.0, record { size = made.1; each = made.2 })

  pub tree_same : (i : ℕ) (f : SourceFile) (s : Source) → IsSourceOf files tables types i f s → s.tree ≡ f.tree
  tree_same i f s is = ap (λ (x : Source). x.tree) is.is

  pub stem_same : (i : ℕ) (f : SourceFile) (s : Source) → IsSourceOf files tables types i f s → s.stem ≡ f.stem
  stem_same i f s is = ap (λ (x : Source). x.stem) is.is

  -- A source has the body of its file.
  pub body_of_source : (i : ℕ) (f : SourceFile) (s : Source) (b : BodyTree) → IsSourceOf files tables types i f s → body_of f.tree ≡ Some b → body_of s.tree ≡ Some b
  body_of_source i f s b is e = ap body_of (tree_same i f s is) ∙ e

  pub body_of_file : (i : ℕ) (f : SourceFile) (s : Source) (b : BodyTree) → IsSourceOf files tables types i f s → body_of s.tree ≡ Some b → body_of f.tree ≡ Some b
  body_of_file i f s b is e = ap body_of (sym (tree_same i f s is)) ∙ e

  module _ (sources : List Source) (are : AreSourcesOf files tables types sources) where
    -- The file of a source.
    pub file_of_source : (i : ℕ) (s : Source) → slice_get sources i ≡ Some s → (f : SourceFile) × (slice_get files i ≡ Some f) × IsSourceOf files tables types i f s
    file_of_source i s e =
        let l = slice_get_within sources i s e in
        let size = are.size in
        let f = got_at files i (omega (arith, l, size)) in
        let at = are.each i f.0 f.1 in
        let same : at.0 ≡ s = some_same at.0 s (slice_get sources i) at.1 e in
        (f.0, f.1, subst (IsSourceOf files tables types i f.0) same at.2)

    -- A name has one place among the sources and the files.
    pub place_same : (name : List ℕ) → source_place sources name ≡ stem_place is_design files name
    place_same name = places_same (λ s. is_some (body_of s.tree) && bytes_eq name s.stem) (λ f. is_design f.tree && bytes_eq name f.stem) 0 sources files are.size
        (λ i s f e g.
        let at = file_of_source i s e in
        let same : at.0 ≡ f = some_same at.0 f (slice_get files i) at.1 g in
        let is = subst (λ x. IsSourceOf files tables types i x s) same at.2 in
        let tree = ap (λ t. is_some (body_of t)) (tree_same i f s is) ∙ body_there f.tree in
        let stem = ap (bytes_eq name) (stem_same i f s is) in
        λ j. tree j && stem j)

    -- The source of a name is that of the file of the name.
    pub file_of_named : (name : List ℕ) (s : Source) → source_named sources name ≡ Some s
        → (i : ℕ) × (f : SourceFile) × (stem_place is_design files name ≡ Some i) × (slice_get files i ≡ Some f) × IsSourceOf files tables types i f s
    file_of_named name s e = go (source_place sources name) refl e
      where
        go : (o : Option ℕ) → source_place sources name ≡ o → option_and_then (slice_get sources) o ≡ Some s
            → (i : ℕ) × (f : SourceFile) × (stem_place is_design files name ≡ Some i) × (slice_get files i ≡ Some f) × IsSourceOf files tables types i f s
        go None is h = absurd (cc)
        go (Some i) is h = let f = file_of_source i s h in (i, f.0, sym (place_same name) ∙ is, f.1, f.2)

    pub named_of_file : (name : List ℕ) (i : ℕ) (f : SourceFile) → stem_place is_design files name ≡ Some i → slice_get files i ≡ Some f
        → (s : Source) × (source_named sources name ≡ Some s) × IsSourceOf files tables types i f s
    named_of_file name i f e got = let at = are.each i f got in (at.0, ap (option_and_then (slice_get sources)) (place_same name ∙ e) ∙ at.1, at.2)

  -- ---- one list at most

  module _ (unique : (f : SourceFile) (rows others : List CatRow) → HasRows tables types f rows → HasRows tables types f others → rows ≡ others) where
    source_same : (i : ℕ) (f : SourceFile) (s t : Source) → IsSourceOf files tables types i f s → IsSourceOf files tables types i f t → s ≡ t
    source_same i f s t p q = p.is ∙ ap (source_of files types i f) (unique f p.rows q.rows p.has q.has) ∙ sym q.is

    pub sources_same : (sources others : List Source) → AreSourcesOf files tables types sources → AreSourcesOf files tables types others → sources ≡ others
    sources_same sources others p q = lists_same sources others (p.size ∙ sym q.size)
        (λ i s t e g.
        let f = file_of_source sources p i s e in
        let h = file_of_source others q i t g in
        let same : h.0 ≡ f.0 = some_same h.0 f.0 (slice_get files i) h.1 f.1 in
        source_same i f.0 s t f.2 (subst (λ x. IsSourceOf files tables types i x t) same h.2))

-- ---- one design at most

module _ (sources : List Source) (unique : (q : RefTree) (X Y : Design) → Denotes sources [] q X → Denotes sources [] q Y → X ≡ Y) where
  file_same : (s : Source) (X Y : Design) → FileDenotes sources s X → FileDenotes sources s Y → X ≡ Y
  file_same s X Y p q =
      let body = some_same q.body p.body (body_of s.tree) q.body_is p.body_is in
      bodies_same (DenotesIn sources p.steps []) (DenotesIn sources q.steps []) (λ r Z W a b. unique r Z W (p.steps, a) (q.steps, b)) s.content p.body X Y p.denotes
      (subst (λ (b : BodyTree). BodyDenotes (DenotesIn sources q.steps []) s.content b Y) body q.denotes)

  pub design_same : (name : List ℕ) (X Y : Design) → DesignDenotes sources name X → DesignDenotes sources name Y → X ≡ Y
  design_same name X Y p q = let source = some_same q.source p.source _ q.there p.there in file_same p.source X Y p.denotes (subst (λ s. FileDenotes sources s Y) source q.denotes)
