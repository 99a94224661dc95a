-- Files refer to files.
use Rattle.std.proofs.Common.{◌≡◌, ◌∙◌, ◌<◌, ◌≤◌, ◌+◌, ◌&&◌, arith, refl, sym, subst, ℕ, Bool, true, false, cond, IsTrue, List, [], ◌∷◌, inl, inr, length, map}
use Rattle.std.proofs.lemmas.Bool.{lt-ltb}
use Rattle.std.proofs.lemmas.List.Folds.{list_all-append}
use Rattle.std.specs.List.{flat_map, list_all}
use Rattle.std.specs.Prelude.{Option, Some, None}
use Rattle.std.specs.Str.{bytes_eq}
use Rattle.design_lexer.specs.declared.tree.BranchTree.{BranchTree}
use Rattle.design_lexer.specs.declared.tree.File.{File}
use Rattle.design_lexer.specs.declared.tree.File.TheVariants as file
use Rattle.design_lexer.specs.declared.tree.NameAt.{NameAt}
use Rattle.name_index.specs.PlaceLaws.{position_below}
use Rattle.name_rules.specs.References.{reference_names}
use Rattle.name_rules.specs.Unknown.{is_param}
use Rattle.name_table.specs.Files.{is_design, stem_place}
use Rattle.name_table.specs.References.{branches_of, file_named, file_refers, listed, references, references_from, refers}
use Rattle.name_table.specs.declared.source.SourceFile.{SourceFile}
use Rattle.order_core.specs.MemberLaws.{all_intro, both, mem-flat_map, mem-map}
use Rattle.order_core.specs.Members.{IsMember}
use Rattle.order_core.specs.Walk.{is_pair_below}

module _ (n : ℕ) (find : List ℕ → Option ℕ) (within : (name : List ℕ) (k : ℕ) → find name ≡ Some k → k < n) where
  named_below : (hidden : List ℕ → Bool) (name : NameAt) (j : ℕ) → IsMember j (file_named find hidden name) → j < n
  named_below hidden name j m = go (hidden name.name) (find name.name) refl m
    where
      go : (t : Bool) (o : Option ℕ) → find name.name ≡ o → IsMember j (cond t [] (listed o)) → j < n
      go true o e k = absurd k
      go false None e k = absurd k
      go false (Some i) e (inl same) = subst (λ (z : ℕ). z < n) (sym same) (within name.name i e)
      go false (Some i) e (inr k) = absurd k

  refers_below : (hidden : List ℕ → Bool) (branches : List BranchTree) (j : ℕ) → IsMember j (refers find hidden branches) → j < n
  refers_below hidden branches j m =
      let b = mem-flat_map (λ (b : BranchTree). flat_map (file_named find hidden) (reference_names b.reference)) branches j m in
      let name = mem-flat_map (file_named find hidden) (reference_names b.0.reference) j b.2 in
      named_below hidden name.0 j name.2

  file_below : (f : File) (j : ℕ) → IsMember j (file_refers find f) → j < n
  file_below (file.Poset poset) j m = absurd m
  file_below (file.Interface ports) j m = absurd m
  file_below (file.Design b) j m = refers_below (is_param []) (branches_of b) j m
  file_below (file.Template params b) j m = refers_below (is_param params) (branches_of b) j m

  from_below : (i : ℕ) (files : List SourceFile) → i + length files ≤ n → IsTrue (list_all (is_pair_below n) (references_from find i files))
  from_below i [] l = refl
  from_below i (f ∷ files) l =
      list_all-append (is_pair_below n) (map (λ j. (i, j)) (file_refers find f.tree)) (references_from find (i + 1) files)
      ∙ both _ _ (all_intro (is_pair_below n) (map (λ j. (i, j)) (file_refers find f.tree)) own) (from_below (i + 1) files (omega arith))
    where
      own : (p : ℕ × ℕ) → IsMember p (map (λ j. (i, j)) (file_refers find f.tree)) → IsTrue (is_pair_below n p)
      own p m =
          let w = mem-map (λ (j : ℕ). (i, j)) (file_refers find f.tree) p m in
          let here : i < n = omega arith in
          subst (λ (q : ℕ × ℕ). IsTrue (is_pair_below n q)) (sym w.2) (both _ _ (lt-ltb i n here) (lt-ltb w.0 n (file_below f.tree w.0 w.1)))

-- Each pair of files is of two numbers below their count.
pub references_below : (files : List SourceFile) → IsTrue (list_all (is_pair_below (length files)) (references files))
references_below files =
    from_below (length files) (stem_place is_design files) (λ name k e. let l = position_below (λ (f : SourceFile). is_design f.tree && bytes_eq name f.stem) 0 files k e in omega (arith, l)) 0 files (omega arith)
