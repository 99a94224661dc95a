-- The first file with a name, among the files in memory and among the files that they are.
use Rattle.std.proofs.Common.{◌≡◌, ℕ, refl, ap, Bool, true, false, ◌||◌, List, [], ◌∷◌, Some, None, cond}
use Rattle.std.specs.List.{find, list_any}
use Rattle.std.specs.Str.{bytes_eq}
use Rattle.std.proofs.lemmas.Cmp.{nat_list_eq_equiv}
use Rattle.std.proofs.lemmas.Map.Views.{list_any-from_Contains}
use Rattle.design_world.specs.Files.{HasNamed, first_named, names_of}
use Rattle.design_world.specs.InMemory.{file_of, files_of}
use Rattle.design_world.specs.declared.memory.folder.MemoryFile.{MemoryFile}
use Rattle.order_core.specs.MemberLaws.{contains_member}

-- where a test finds nothing, no item passes it
find_none : {X : Type 0} (p : X → Bool) (xs : List X) → find p xs ≡ None → list_any p xs ≡ false
find_none p [] e = refl
find_none p (x ∷ xs) e = go (p x) refl (find_none p xs) e
  where
    go : (b : Bool) → p x ≡ b → (find p xs ≡ None → list_any p xs ≡ false) → cond b (Some x) (find p xs) ≡ None → list_any p (x ∷ xs) ≡ false
    go true at later nothing = absurd (cc)
    go false at later nothing = rw at (later nothing)

-- a name is among those of the files exactly where a file in memory has it
any_named : (files : List MemoryFile) (name : List ℕ) → list_any (bytes_eq name) (names_of (files_of files)) ≡ list_any (λ file. bytes_eq name file.name) files
any_named [] name = refl
any_named (file ∷ files) name = ap (λ b. bytes_eq name file.name || b) (any_named files name)

-- a file that is there is found
pub is_found : (files : List MemoryFile) (name : List ℕ) → find (λ file. bytes_eq name file.name) files ≡ None → HasNamed (files_of files) name → ⊥
is_found files name nothing there =
    let some : list_any (bytes_eq name) (names_of (files_of files)) ≡ true = list_any-from_Contains nat_list_eq_equiv name _ (contains_member _ name there) in
    let none : list_any (λ file. bytes_eq name file.name) files ≡ false = find_none _ files nothing in
    let same = any_named files name in
    absurd (cc)

-- the first file in memory with the name is the first file with the name
pub first_named-files : (files : List MemoryFile) (name : List ℕ) (found : MemoryFile) → find (λ file. bytes_eq name file.name) files ≡ Some found → first_named (files_of files) name ≡ Some (file_of found)
first_named-files [] name found e = absurd (cc)
first_named-files (file ∷ files) name found e = go (bytes_eq name file.name) refl (first_named-files files name found) e
  where
    go : (b : Bool) → bytes_eq name file.name ≡ b → (find (λ other. bytes_eq name other.name) files ≡ Some found → first_named (files_of files) name ≡ Some (file_of found)) → cond b (Some file) (find (λ other. bytes_eq name other.name) files) ≡ Some found → first_named (files_of (file ∷ files)) name ≡ Some (file_of found)
    go true at later e = let same : file ≡ found = cc in rw (at, same) refl
    go false at later e = rw at (later e)
