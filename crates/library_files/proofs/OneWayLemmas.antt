-- What is taken of a folder and what files write are determined.
use Rattle.std.proofs.Common.{◌≡◌, ◌∙◌, ◌+◌, ◌≤◌, refl, sym, ap, subst, arith, ℕ, Bool, true, false, cond, not, inl, inr, List, [], ◌∷◌, filter, Some}
use Rattle.std.proofs.lemmas.List.Sorted.{sum_by-IsPermutation}
use Rattle.std.proofs.lemmas.List.Sums.{sum_by-cons}
use Rattle.std.proofs.lemmas.Map.Text.{is_eq-slice_cmp}
use Rattle.std.proofs.lemmas.Cmp.{nat_list_cmp_total}
use Rattle.std.proofs.lemmas.Slice.Eq.{bytes_eq-Decides}
use Rattle.std.specs.Cmp.Lexicographic.{slice_cmp}
use Rattle.std.specs.List.{sum_by}
use Rattle.std.specs.Ordering.{is_eq, is_lt, nat_cmp, ordering_reverse}
use Rattle.std.specs.Prelude.{None, Option}
use Rattle.std.specs.Str.{bytes_eq}
use Rattle.std.specs.declared.cmp.Ordering.TheVariants.{Less, Equal, Greater}
use Rattle.std.specs.declared.cmp.Ordering.{Ordering}
use Rattle.design_lexer.specs.CutLaws as cut
use Rattle.design_lexer.specs.Syntax.Classes.{Lexeme, lexemes_of}
use Rattle.design_lexer.specs.declared.token.Token.{Token}
use Rattle.design_lexer.specs.declared.tree.File as tree
use Rattle.design_parser.specs.Grammar.{Written}
use Rattle.design_parser.specs.declared.parse.FileKind.{FileKind}
use Rattle.design_world.specs.Files.{File, first_named, names_of}
use Rattle.design_world.specs.declared.memory.folder.MemoryFile.{MemoryFile}
use Rattle.fault_list.specs.declared.fault.Fault.{Fault}
use Rattle.fault_list.specs.declared.fault.FileFault.{FileFault}
use Rattle.library_files.proofs.SortedLemmas.{Rises, order, sorted_rises}
use Rattle.library_files.specs.Names.{ending_of, is_recognised}
use Rattle.library_files.specs.Parsed.{AreParsed, HasCutFault, HasFault, HasTextFault, IsCut, IsParsed, IsTabled, IsWritten, Writes, WritesTree, is_table, is_table_ending}
use Rattle.library_files.specs.Taken.{AreTaken, is_before}
use Rattle.library_files.specs.declared.name.Ending.{Ending}
use Rattle.library_files.specs.declared.name.Ending.TheVariants as ending
use Rattle.library_files.specs.declared.parse.Parsed.{Parsed}
use Rattle.name_table.specs.PartnerLaws.{partners_same}
use Rattle.name_table.specs.declared.source.SourceFile.{SourceFile}
use Rattle.name_table.specs.declared.source.Table.{Table}
use Rattle.order_core.specs.Members.{IsMember}
use Rattle.order_core.specs.Pointwise.{Each, Pointwise}
use Rattle.order_core.specs.PointwiseLaws.{each_got}

-- ---- what is taken

-- Of two texts neither of which comes before the other, each is the other.
neither_before : (x y : List ℕ) → is_before x y ≡ false → is_before y x ≡ false → x ≡ y
neither_before x y p q = go (slice_cmp nat_cmp x y) refl
  where
    go : (o : Ordering) → slice_cmp nat_cmp x y ≡ o → x ≡ y
    go Less e = let yes : is_before x y ≡ true = ap is_lt e in absurd (cc)
    go Equal e = (bytes_eq-Decides x y).0 (sym (is_eq-slice_cmp x y) ∙ ap is_eq e)
    go Greater e = let yes : is_before y x ≡ true = ap is_lt (nat_list_cmp_total.antisymm y x ∙ ap ordering_reverse e) in absurd (cc)

not_before_itself : (x : List ℕ) → is_before x x ≡ false
not_before_itself x = go (is_before x x) refl
  where
    go : (b : Bool) → is_before x x ≡ b → is_before x x ≡ false
    go true e = order.one_way x x e
    go false e = e

not_before_first : (x y : List ℕ) (ys : List (List ℕ)) → Rises (y ∷ ys) → IsMember x (y ∷ ys) → is_before x y ≡ false
not_before_first x y ys h (inl e) = subst (λ z. is_before z y ≡ false) (sym e) (not_before_itself y)
not_before_first x y ys h (inr m) = each_got (λ z. is_before z y ≡ false) ys x h.0 m

abbrev is_it : List ℕ → List ℕ → ℕ
is_it x y = cond (bytes_eq x y) 1 0

counted_there : (x : List ℕ) (ys : List (List ℕ)) → 1 ≤ sum_by (is_it x) ys → IsMember x ys
counted_there x [] l = absurd (omega (arith, l))
counted_there x (y ∷ ys) l = go (bytes_eq x y) refl (subst (λ n. 1 ≤ n) (sum_by-cons (is_it x) y ys) l) (λ k. counted_there x ys k)
  where
    go : (b : Bool) → bytes_eq x y ≡ b → 1 ≤ cond b 1 0 + sum_by (is_it x) ys → (1 ≤ sum_by (is_it x) ys → IsMember x ys) → IsMember x (y ∷ ys)
    go true e l later = inl ((bytes_eq-Decides x y).0 e)
    go false e l later = inr (later (omega (arith, l)))

first_there : (x : List ℕ) (xs ys : List (List ℕ)) → sum_by (is_it x) (x ∷ xs) ≡ sum_by (is_it x) ys → IsMember x ys
first_there x xs ys e =
    let one : is_it x x ≡ 1 = ap (λ b. cond b 1 0) ((bytes_eq-Decides x x).1 refl) in
    counted_there x ys (omega (arith, e, one, sum_by-cons (is_it x) x xs))

-- Lists in order that have each text as often are one list.
in_order_same : (xs ys : List (List ℕ)) → Rises xs → Rises ys → ((f : List ℕ → ℕ) → sum_by f xs ≡ sum_by f ys) → xs ≡ ys
in_order_same [] [] h k s = refl
in_order_same [] (y ∷ ys) h k s = absurd (omega (arith, s (λ z. 1), sum_by-cons (λ (z : List ℕ). 1) y ys))
in_order_same (x ∷ xs) [] h k s = absurd (omega (arith, s (λ z. 1), sum_by-cons (λ (z : List ℕ). 1) x xs))
in_order_same (x ∷ xs) (y ∷ ys) h k s =
    let same : x ≡ y = neither_before x y (not_before_first x y ys k (first_there x xs (y ∷ ys) (s (is_it x)))) (not_before_first y x xs h (first_there y ys (x ∷ xs) (sym (s (is_it y))))) in
    let rest : xs ≡ ys = in_order_same xs ys h.1 k.1 (λ f. let heads : f x ≡ f y = ap f same in omega (arith, s f, heads, sum_by-cons f x xs, sum_by-cons f y ys)) in
    λ i. same i ∷ rest i

by_names : (files xs ys : List File) → names_of xs ≡ names_of ys → Each (λ file. first_named files file.name ≡ Some file) xs → Each (λ file. first_named files file.name ≡ Some file) ys → xs ≡ ys
by_names files [] [] e h k = refl
by_names files [] (y ∷ ys) e h k = absurd (cc)
by_names files (x ∷ xs) [] e h k = absurd (cc)
by_names files (x ∷ xs) (y ∷ ys) e h k =
    let name : x.name ≡ y.name = cc in
    let found : Some x ≡ Some y = sym h.0 ∙ ap (first_named files) name ∙ k.0 in
    let same : x ≡ y = cc in
    let rest : xs ≡ ys = by_names files xs ys (cc) h.1 k.1 in
    λ i. same i ∷ rest i

pub taken_same : (files a b : List File) → AreTaken files a → AreTaken files b → a ≡ b
taken_same files a b h k =
    let all = filter is_recognised (names_of files) in
    by_names files a b
    (in_order_same (names_of a) (names_of b) (sorted_rises (names_of a) h.ordered) (sorted_rises (names_of b) k.ordered) (λ f. sum_by-IsPermutation f all (names_of a) h.recognised ∙ sym (sum_by-IsPermutation f all (names_of b) k.recognised)))
    h.contents k.contents

-- ---- what files write

tabled_same : (file : MemoryFile) (a b : Table) → IsTabled file a → IsTabled file b → a ≡ b
tabled_same file a b h k = λ i. record { name = (h.name ∙ sym k.name) i; stem = (h.stem ∙ sym k.stem) i; bytes = (h.bytes ∙ sym k.bytes) i }

module _ (one_tree : (kind : FileKind) (ts : List Lexeme) (a b : tree.File) → Written kind ts a → Written kind ts b → a ≡ b) where
  writes_same : (kind : FileKind) (bytes : List ℕ) (a b : tree.File) → Writes kind bytes a → Writes kind bytes b → a ≡ b
  writes_same kind bytes a b h k =
      let tokens : h.tokens ≡ k.tokens = cut.tokens_same bytes h.tokens k.tokens h.is_cut.cut k.is_cut.cut in
      one_tree kind (lexemes_of bytes k.tokens) a b (subst (λ (ts : List Token). Written kind (lexemes_of bytes ts) a) tokens h.written) k.written

  tree_same : (file : MemoryFile) (a b : tree.File) → WritesTree file a → WritesTree file b → a ≡ b
  tree_same file a b h k =
      let ending = sym h.ending ∙ k.ending in
      let kind : h.kind ≡ k.kind = cc in
      writes_same k.kind file.bytes a b (subst (λ (kind : FileKind). Writes kind file.bytes a) kind h.writes) k.writes

  parsed_same : (file : MemoryFile) (a b : SourceFile) → IsParsed file a → IsParsed file b → a ≡ b
  parsed_same file a b h k =
      let tree = tree_same file a.tree b.tree h.writes k.writes in
      λ i. record { name = (h.name ∙ sym k.name) i; stem = (h.stem ∙ sym k.stem) i; tree = tree i }

  pub all_parsed_same : (files : List MemoryFile) (a b : Parsed) → AreParsed files a → AreParsed files b → a ≡ b
  all_parsed_same files a b h k =
      let sources = partners_same IsParsed parsed_same _ a.files b.files h.sources k.sources in
      let tables = partners_same IsTabled tabled_same _ a.tables b.tables h.tables k.tables in
      λ i. record { files = sources i; tables = tables i }

pub never_cut : (bytes : List ℕ) (tokens : List Token) (fault : Fault) → HasCutFault bytes fault → IsCut bytes tokens → ⊥
never_cut bytes tokens fault (inl none) c = none.never c.text
never_cut bytes tokens fault (inr bad) c = cut.never_both bytes tokens fault.at c.cut bad.first

never_written : (kind : FileKind) (bytes : List ℕ) (fault : Fault) (a : tree.File) → HasFault kind bytes fault → Writes kind bytes a → ⊥
never_written kind bytes fault a (inl bad) w = never_cut bytes w.tokens fault bad w.is_cut
never_written kind bytes fault a (inr bad) w =
    let tokens : w.tokens ≡ bad.tokens = cut.tokens_same bytes w.tokens bad.tokens w.is_cut.cut bad.is_cut.cut in
    bad.fails.fails.never a (subst (λ (ts : List Token). Written kind (lexemes_of bytes ts) a) tokens w.written)

pub never_both : (file : MemoryFile) (fault : FileFault) → HasTextFault file fault → IsWritten file → ⊥
never_both file fault h (inl e) = let ending = sym h.ending ∙ e in cc
never_both file fault h (inr w) =
    let ending = sym w.1.ending ∙ h.ending in
    let kind : w.1.kind ≡ h.kind = cc in
    never_written h.kind file.bytes _ w.0 h.has_fault (subst (λ (kind : FileKind). Writes kind file.bytes w.0) kind w.1.writes)

-- ---- each file

no_table : (file : MemoryFile) (made : SourceFile) → IsParsed file made → IsWritten file
no_table file made h = inr (made.tree, h.writes)

table_written : (file : MemoryFile) → is_table file ≡ true → IsWritten file
unfolding ending_of is_table
table_written file is = go (ending_of file.name) refl is
  where
    go : (e : Option Ending) → ending_of file.name ≡ e → is_table_ending e ≡ true → IsWritten file
    go (Some ending.Table) h t = inl h
    go (Some (ending.Tree kind)) h t = absurd (cc)
    go None h t = absurd (cc)

-- Where the sources are those that the files write, each file is a table or writes a tree.
sources_written : (files : List MemoryFile) (made : List SourceFile) → Pointwise IsParsed (filter (λ file. not (is_table file)) files) made → Each IsWritten files
sources_written [] made h = tt
sources_written (file ∷ files) made h = go (is_table file) refl made h (λ rest. sources_written files rest)
  where
    others : List MemoryFile
    others = filter (λ file. not (is_table file)) files

    go : (b : Bool) → is_table file ≡ b → (made : List SourceFile) → Pointwise IsParsed (cond (not b) (file ∷ others) others) made → ((rest : List SourceFile) → Pointwise IsParsed others rest → Each IsWritten files) → Each IsWritten (file ∷ files)
    go true is made h later = (table_written file is, later made h)
    go false is [] h later = absurd h
    go false is (source ∷ made) h later = (no_table file source h.0, later made h.1)

pub all_written : (files : List MemoryFile) (made : Parsed) → AreParsed files made → Each IsWritten files
all_written files made h = sources_written files made.files h.sources
