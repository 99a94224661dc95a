-- The posets of a library's files.
use Rattle.std.proofs.Common.{◌≡◌, ◌∙◌, ◌<◌, ◌≤◌, ◌^◌, arith, refl, sym, ap, subst, ℕ, Bool, true, false, IsTrue, List, [], ◌∷◌, ◌++◌, cond, filter, length}
use Rattle.std.proofs.lemmas.Bool.{eq-eqb}
use Rattle.std.proofs.lemmas.List.{length-map}
use Rattle.std.proofs.lemmas.List.Elements.{filter-append}
use Rattle.std.specs.List.{list_all}
use Rattle.design_lexer.specs.declared.tree.File.{File}
use Rattle.design_lexer.specs.declared.tree.File.TheVariants as file
use Rattle.design_lexer.specs.declared.tree.NameAt.{NameAt}
use Rattle.design_lexer.specs.declared.tree.PosetTree.{PosetTree}
use Rattle.name_table.specs.Files.{is_poset, poset_files}
use Rattle.name_table.specs.PartnerLaws.{pointwise_push}
use Rattle.name_table.specs.Library.{ArePosets, IsPosetIn}
use Rattle.name_table.specs.Orders.{IsPosetOf}
use Rattle.name_table.specs.declared.source.SourceFile.{SourceFile}
use Rattle.order_core.specs.MemberLaws.{both}
use Rattle.order_core.specs.Pointwise.{Pointwise}
use Rattle.order_core.specs.PointwiseLaws.{pointwise_length}
use Rattle.value_type.specs.Types.{AreNamed, has_names}
use Rattle.value_type.specs.declared.poset.Poset.{Poset}

module _ (before : List SourceFile) (f : SourceFile) (posets : List Poset) (h : ArePosets before posets) where
  files_more : (t : Bool) → is_poset f.tree ≡ t → poset_files (before ++ f ∷ []) ≡ poset_files before ++ cond t (f ∷ []) []
  files_more t e = filter-append (λ (g : SourceFile). is_poset g.tree) before (f ∷ []) ∙ ap (λ (s : Bool). poset_files before ++ cond s (f ∷ []) []) e

  pub poset_added : (tree : PosetTree) (poset : Poset) → f.tree ≡ file.Poset tree → IsPosetOf f.stem tree poset → ArePosets (before ++ f ∷ []) (posets ++ poset ∷ [])
  poset_added tree poset is made =
      subst (λ (fs : List SourceFile). Pointwise (λ g p. IsPosetIn g.stem g.tree p) fs (posets ++ poset ∷ [])) (sym (files_more true (ap is_poset is)))
      (pointwise_push (λ g p. IsPosetIn g.stem g.tree p) (poset_files before) posets f poset h (subst (λ (t : File). IsPosetIn f.stem t poset) (sym is) made))

-- Each has a name for each element.
named_in : (stem : List ℕ) (t : File) (poset : Poset) → IsPosetIn stem t poset → IsTrue (has_names poset)
named_in stem (file.Poset tree) poset h =
    eq-eqb (length poset.elements) (length poset.order.table) (ap length h.elements ∙ length-map tree.elements (λ (e : NameAt). e.name) ∙ sym h.order.size)
named_in stem (file.Interface ports) poset h = absurd h
named_in stem (file.Design b) poset h = absurd h
named_in stem (file.Template params b) poset h = absurd h

all_named : (files : List SourceFile) (posets : List Poset) → Pointwise (λ f p. IsPosetIn f.stem f.tree p) files posets → IsTrue (list_all has_names posets)
all_named [] [] h = refl
all_named [] (p ∷ posets) h = absurd h
all_named (f ∷ files) [] h = absurd h
all_named (f ∷ files) (p ∷ posets) h = both _ _ (named_in f.stem f.tree p h.0) (all_named files posets h.1)

filter_at_most : {A : Type 0} (p : A → Bool) (xs : List A) → length (filter p xs) ≤ length xs
filter_at_most p [] = omega arith
filter_at_most p (x ∷ xs) = go (p x) (filter_at_most p xs)
  where
    go : (t : Bool) → length (filter p xs) ≤ length xs → length (cond t (x ∷ filter p xs) (filter p xs)) ≤ length (x ∷ xs)
    go true l = omega (arith, l)
    go false l = omega (arith, l)

module _ (files : List SourceFile) (posets : List Poset) (h : ArePosets files posets) (few : length files < 2 ^ 32) where
  pub posets_few : length posets < 2 ^ 32
  posets_few =
      let same : length (poset_files files) ≡ length posets = pointwise_length (λ (f : SourceFile) (p : Poset). IsPosetIn f.stem f.tree p) (poset_files files) posets h in
      let l : length (poset_files files) ≤ length files = filter_at_most (λ (f : SourceFile). is_poset f.tree) files in omega (arith, same, l, few)

  pub posets_named : AreNamed (record { posets = posets })
  posets_named = record { few = posets_few; names = all_named (poset_files files) posets h }
