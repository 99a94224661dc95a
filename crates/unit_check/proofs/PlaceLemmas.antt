-- Places of parts and of files.
use Rattle.std.proofs.Common.{◌≡◌, ◌∙◌, ◌<◌, ◌≤◌, ◌+◌, ◌⊎◌, inl, inr, arith, refl, sym, ap, subst, ℕ, zero, suc, Bool, true, false, cond, List, [], ◌∷◌, length, get_or}
use Rattle.std.specs.List.{position_from}
use Rattle.std.proofs.lemmas.Option.{slice_get_cases, slice_get-map}
use Rattle.std.proofs.lemmas.Slice.Eq.{bytes_eq-Decides}
use Rattle.std.specs.Prelude.{Option, Some, None, map, option_and_then, option_map, slice_get}
use Rattle.std.specs.Str.{bytes_eq}
use Rattle.design_lexer.specs.declared.tree.BranchTree.{BranchTree}
use Rattle.design_lexer.specs.declared.tree.RefTree.{out-RefTree}
use Rattle.name_index.specs.PlaceLaws.{place_below}
use Rattle.name_index.specs.Places.{place_of}
use Rattle.name_table.specs.declared.source.SourceFile.{SourceFile}
use Rattle.side_ports.specs.Held.{sides_held}
use Rattle.side_ports.specs.Sides.{Sides}
use Rattle.unit_check.specs.Declaring.{choice_of, declaring, next_file, params_of, part_file}
use Rattle.unit_check.proofs.FollowLemmas.{follow-within}
use Rattle.unit_check.specs.Held.{part_held}
use Rattle.unit_check.specs.PortLaws.{named_file_below}
use Rattle.unit_check.specs.Scopes.{PartPorts, part_at}
use Rattle.unit_check.specs.declared.scope.ScopePart.{ScopePart}

-- A place that is found is not before the first one.
at_least : {A : Type 0} (p : A → Bool) (s : ℕ) (xs : List A) (k : ℕ) → position_from p s xs ≡ Some k → s ≤ k
at_least p s [] k e = absurd (cc)
at_least {A = A} p s (x ∷ xs) k e = go (p x) (at_least p (s + 1) xs k) e
  where
    go : (t : Bool) → (position_from p (s + 1) xs ≡ Some k → s + 1 ≤ k) → cond t (Some s) (position_from p (s + 1) xs) ≡ Some k → s ≤ k
    go true later f = let same : s ≡ k = cc in omega (arith, same)
    go false later f = omega (arith, later f)

-- The item at the place that is found passes.
pub passes_at : {A : Type 0} (p : A → Bool) (s : ℕ) (xs : List A) (k : ℕ) (x : A) → position_from p s xs ≡ Some (k + s) → slice_get xs k ≡ Some x → p x ≡ true
passes_at p s [] k x e got = absurd (cc)
passes_at {A = A} p s (y ∷ ys) zero x e got = go (p y) refl e
  where
    go : (t : Bool) → p y ≡ t → cond t (Some s) (position_from p (s + 1) ys) ≡ Some (0 + s) → p x ≡ true
    go true h f = let same : y ≡ x = cc in subst (λ z. p z ≡ true) same h
    go false h f = let l = at_least p (s + 1) ys (0 + s) f in absurd (omega (arith, l))
passes_at {A = A} p s (y ∷ ys) (suc k) x e got = go (p y) (λ f. passes_at p (s + 1) ys k x f got) e
  where
    go : (t : Bool) → (position_from p (s + 1) ys ≡ Some (k + (s + 1)) → p x ≡ true) → cond t (Some s) (position_from p (s + 1) ys) ≡ Some (suc k + s) → p x ≡ true
    go true later f = let same : s ≡ suc k + s = cc in absurd (omega (arith, same))
    go false later f = let same : suc k + s ≡ k + (s + 1) = omega arith in later (f ∙ ap (λ (z : ℕ). Some z) same)

-- Names of one place are one name.
pub same_place : {A : Type 0} (named : A → List ℕ) (items : List A) (a b : List ℕ) (k : ℕ) → place_of named items a ≡ Some k → place_of named items b ≡ Some k → a ≡ b
same_place {A = A} named items a b k e f = go (slice_get_cases items k).1
  where
    same : k ≡ k + 0
    same = omega arith

    go : ((x : A) × (k < length items) × (slice_get items k ≡ Some x) × (get_or items k x ≡ x)) ⊎ ((length items ≤ k) × (slice_get items k ≡ None)) → a ≡ b
    go (inl w) =
        let one = passes_at (λ x. bytes_eq a (named x)) 0 items k w.0 (e ∙ ap (λ (z : ℕ). Some z) same) w.2 in
        let two = passes_at (λ x. bytes_eq b (named x)) 0 items k w.0 (f ∙ ap (λ (z : ℕ). Some z) same) w.2 in
        (bytes_eq-Decides a (named w.0)).0 one ∙ sym ((bytes_eq-Decides b (named w.0)).0 two)
    go (inr w) = let l = place_below named items a k e in absurd (omega (arith, l, w.0))

-- The file that declares the ports of a file is one of the files.
pub declaring_below : (files : List SourceFile) (i : ℕ) → i < length files → declaring files i < length files
declaring_below files i l = follow-within (next_file files) (length files) step (length files + 1) i l
  where
    branch_below : (f : SourceFile) (j : ℕ) (o : Option BranchTree) → option_and_then (part_file files (params_of f.tree)) o ≡ Some j → j < length files
    branch_below f j (Some b) e = named_file_below files (params_of f.tree) (out-RefTree b.reference).name.name j e
    branch_below f j None e = absurd (cc)

    file_below : (j : ℕ) (o : Option SourceFile) → option_and_then (λ f. option_and_then (part_file files (params_of f.tree)) (choice_of f.tree)) o ≡ Some j → j < length files
    file_below j (Some f) e = branch_below f j (choice_of f.tree) e
    file_below j None e = absurd (cc)

    step : (k j : ℕ) → next_file files k ≡ Some j → j < length files
    step k j e = file_below j (slice_get files k) e

pub position_mapped : {A B : Type 0} (p : B → Bool) (f : A → B) (s : ℕ) (xs : List A) → position_from p s (map f xs) ≡ position_from (λ x. p (f x)) s xs
position_mapped p f s [] = refl
position_mapped p f s (x ∷ xs) = ap (cond (p (f x)) (Some s)) (position_mapped p f (s + 1) xs)

abbrev numbered : ℕ → PartPorts → ℕ × Sides
numbered i part = (i, part.ports)

abbrev numbered_part : ℕ → ScopePart → ℕ × Sides
numbered_part i part = (i, sides_held part.ports)

-- A part of a scope, found by its name.
part_found : (parts : List ScopePart) (name : List ℕ) → part_at (map part_held parts) name ≡ option_and_then (λ i. option_map (numbered_part i) (slice_get parts i)) (place_of (λ (p : ScopePart). p.name) parts name)
part_found parts name = ap at_held (position_mapped (λ (p : PartPorts). bytes_eq name p.name) part_held 0 parts) ∙ go (place_of (λ (p : ScopePart). p.name) parts name)
  where
    at_held : Option ℕ → Option (ℕ × Sides)
    at_held o = option_and_then (λ i. option_map (numbered i) (slice_get (map part_held parts) i)) o

    held : (i : ℕ) (o : Option ScopePart) → option_map (numbered i) (option_map part_held o) ≡ option_map (numbered_part i) o
    held i (Some part) = refl
    held i None = refl

    go : (o : Option ℕ) → at_held o ≡ option_and_then (λ i. option_map (numbered_part i) (slice_get parts i)) o
    go (Some i) = ap (option_map (numbered i)) (slice_get-map part_held parts i) ∙ held i (slice_get parts i)
    go None = refl

module _ (parts : List ScopePart) (name : List ℕ) where
  abbrev at_place : Option ℕ → Option (ℕ × Sides)
  at_place o = option_and_then (λ i. option_map (numbered_part i) (slice_get parts i)) o

  pub part_there : (i : ℕ) (part : ScopePart) → place_of (λ (p : ScopePart). p.name) parts name ≡ Some i → slice_get parts i ≡ Some part → part_at (map part_held parts) name ≡ Some (i, sides_held part.ports)
  part_there i part e f = part_found parts name ∙ ap at_place e ∙ ap (option_map (numbered_part i)) f

  pub part_past : (i : ℕ) → place_of (λ (p : ScopePart). p.name) parts name ≡ Some i → slice_get parts i ≡ None → part_at (map part_held parts) name ≡ None
  part_past i e f = part_found parts name ∙ ap at_place e ∙ ap (option_map (numbered_part i)) f

  pub part_missing : place_of (λ (p : ScopePart). p.name) parts name ≡ None → part_at (map part_held parts) name ≡ None
  part_missing e = part_found parts name ∙ ap at_place e
