-- What a file refers to is among the references of its library.
use Rattle.std.proofs.Common.{◌≡◌, ◌+◌, arith, refl, sym, subst, inl, ℕ, zero, suc, Bool, false, cond, List, [], ◌∷◌, map}
use Rattle.std.specs.Prelude.{Option, Some, slice_get}
use Rattle.design_lexer.specs.declared.tree.NameAt.{NameAt}
use Rattle.name_table.specs.References.{file_named, file_refers, listed, references_from}
use Rattle.name_table.specs.declared.source.SourceFile.{SourceFile}
use Rattle.order_core.specs.MemberLaws.{map-mem, mem-left, mem-right}
use Rattle.order_core.specs.Members.{IsMember}

module _ (find : List ℕ → Option ℕ) where
  -- A name that isn't hidden stands for the file that is found.
  pub named_listed : (hidden : List ℕ → Bool) (name : NameAt) (j : ℕ) → hidden name.name ≡ false → find name.name ≡ Some j → IsMember j (file_named find hidden name)
  named_listed hidden name j h f = subst (λ (t : Bool). IsMember j (cond t [] (listed (find name.name)))) (sym h) (subst (λ (o : Option ℕ). IsMember j (listed o)) (sym f) (inl refl))

  -- A pair of a file, by its number, and one that it refers to.
  pub refers_from : (s : ℕ) (files : List SourceFile) (k j : ℕ) (f : SourceFile) → slice_get files k ≡ Some f → IsMember j (file_refers find f.tree) → IsMember {A = ℕ × ℕ} (k + s, j) (references_from find s files)
  refers_from s [] k j f e m = absurd (cc)
  refers_from s (x ∷ xs) zero j f e m =
      let same : x ≡ f = cc in
      let own : IsMember j (file_refers find x.tree) = subst (λ (y : SourceFile). IsMember j (file_refers find y.tree)) (sym same) m in
      let here : s ≡ 0 + s = omega arith in
      subst (λ (i : ℕ). IsMember {A = ℕ × ℕ} (i, j) (references_from find s (x ∷ xs))) here
      (mem-left {A = ℕ × ℕ} (map (λ j. (s, j)) (file_refers find x.tree)) (references_from find (s + 1) xs) (s, j) (map-mem {A = ℕ} {B = ℕ × ℕ} (λ j. (s, j)) (file_refers find x.tree) j own))
  refers_from s (x ∷ xs) (suc k) j f e m =
      let same : k + (s + 1) ≡ suc k + s = omega arith in
      mem-right {A = ℕ × ℕ} (map (λ j. (s, j)) (file_refers find x.tree)) (references_from find (s + 1) xs) (suc k + s, j)
      (subst (λ (i : ℕ). IsMember {A = ℕ × ℕ} (i, j) (references_from find (s + 1) xs)) same (refers_from (s + 1) xs k j f e m))
