-- The files of a folder that belong to a library, by their names.
use Rattle.std.proofs.Common.{◌≡◌, ◌∙◌, ◌≤◌, ◌<◌, refl, sym, ap, subst, arith, ℕ, Bool, true, false, cond, IsTrue, inl, inr, List, [], ◌∷◌, filter, length, map, Some, Ok, Err}
use Rattle.std.specs.List.Sorted.{IsPermutation, IsSortedBy}
use Rattle.std.specs.Str.{bytes_eq}
use Rattle.std.specs.Option.{option_map_or}
use Rattle.std.specs.Prelude.{nat_lt}
use Rattle.std.proofs.lemmas.Bool.{lt-ltb, le-ltb}
use Rattle.std.proofs.lemmas.List.{length-map}
use Rattle.std.proofs.lemmas.Slice.Eq.{bytes_eq-Decides}
use Rattle.design_world.specs.Files.{File, HasNamed, first_named, names_of}
use Rattle.design_world.specs.declared.memory.folder.MemoryFile.{MemoryFile}
use Rattle.library_files.specs.declared.fault.LibraryFault.TheVariants.{TooManyFiles}
use Rattle.library_files.specs.declared.fault.LoadFault.{LoadFault}
use Rattle.library_files.specs.declared.fault.LoadFault.TheVariants as load
use Rattle.library_files.proofs.SortedLemmas.{rises_sorted, sorted, sorted_in_order, sorted_permutes}
use Rattle.library_files.specs.Names.{is_recognised}
use Rattle.library_files.specs.Reading.{AreRead, file_named}
use Rattle.library_files.specs.Taken.{AreTaken, Gathers, is_before, limit_fault, over}
use Rattle.order_core.specs.MemberLaws.{mem-filter}
use Rattle.order_core.specs.Members.{IsMember}
use Rattle.order_core.specs.PermutationLaws.{members_permuted}
use Rattle.order_core.specs.Pointwise.{Each}
use Rattle.order_core.specs.PointwiseLaws.{each_made}

module _ (all names : List (List ℕ)) (listed : IsPermutation (filter is_recognised all) names) where
  in_folder : (name : List ℕ) → IsMember name names → IsMember name all × IsTrue (is_recognised name)
  in_folder name m = mem-filter is_recognised all name (members_permuted (filter is_recognised all) names name listed m)

  pub listed_there : Each (λ name. IsMember name all) names
  listed_there = each_made (λ name. IsMember name all) names (λ name m. (in_folder name m).0)

  pub listed_recognised : Each (λ name. IsTrue (is_recognised name)) names
  listed_recognised = each_made (λ name. IsTrue (is_recognised name)) names (λ name m. (in_folder name m).1)

-- A name of the folder is that of its first file with the name, which has its bytes.
first_file : (files : List File) (name : List ℕ) → HasNamed files name → first_named files name ≡ Some (file_named files name)
unfolding file_named
first_file [] name m = absurd m
first_file (file ∷ files) name m = go (bytes_eq name file.name) refl m (λ k. first_file files name k)
  where
    go : (b : Bool) → bytes_eq name file.name ≡ b → HasNamed (file ∷ files) name → (HasNamed files name → first_named files name ≡ Some (record { name = name; bytes = option_map_or (λ (f : File). f.bytes) (first_named files name) [] }))
        → cond b (Some file) (first_named files name) ≡ Some (record { name = name; bytes = option_map_or (λ (f : File). f.bytes) (cond b (Some file) (first_named files name)) [] })
    go true is m later = let same = (bytes_eq-Decides name file.name).0 is in ap (λ n. Some (record { name = n; bytes = file.bytes })) (sym same)
    go false is (inl same) later = let is_true = (bytes_eq-Decides name file.name).1 same in absurd (cc)
    go false is (inr m) later = later m

pub names_taken : (files : List File) (names : List (List ℕ)) → names_of (map (file_named files) names) ≡ names
unfolding file_named
names_taken files [] = refl
names_taken files (name ∷ names) = ap (λ ns. name ∷ ns) (names_taken files names)

each_first : (files : List File) (names : List (List ℕ)) → Each (HasNamed files) names → Each (λ file. first_named files file.name ≡ Some file) (map (file_named files) names)
unfolding file_named
each_first files [] h = tt
each_first files (name ∷ names) h = (first_file files name h.0, each_first files names h.1)

-- The files of recognised names in the order of their bytes are what is taken.
pub are_taken : (files : List File) (names : List (List ℕ)) → IsPermutation (filter is_recognised (names_of files)) names → IsSortedBy is_before names → AreTaken files (map (file_named files) names)
are_taken files names listed ordered = record {
  recognised = subst (IsPermutation (filter is_recognised (names_of files))) (sym (names_taken files names)) listed;
  ordered = subst (IsSortedBy is_before) (sym (names_taken files names)) ordered;
  contents = each_first files names (listed_there (names_of files) names listed);
}

pub some_taken : (files : List File) → (taken : List File) × AreTaken files taken
some_taken files =
    let names = filter is_recognised (names_of files) in
    (map (file_named files) (sorted names), are_taken files (sorted names) (sorted_permutes names) (rises_sorted (sorted names) (sorted_in_order names)))

-- ---- what is answered

too_many : (taken : List File) → 1000 < length taken → limit_fault taken ≡ Some (TooManyFiles (length taken))
too_many taken l = let many : nat_lt 1000 (length taken) ≡ true = lt-ltb 1000 (length taken) l in rw many refl

few_enough : (taken : List File) → length taken ≤ 1000 → limit_fault taken ≡ over 0 taken
few_enough taken l = let few : nat_lt 1000 (length taken) ≡ false = le-ltb 1000 (length taken) l in rw few refl

module _ (files : List File) (names : List (List ℕ)) where
  pub too_many_names : 1000 < length names → limit_fault (map (file_named files) names) ≡ Some (TooManyFiles (length names))
  too_many_names l = let n : length (map (file_named files) names) ≡ length names = length-map names (file_named files) in too_many (map (file_named files) names) (omega (arith, n, l)) ∙ ap (λ k. Some (TooManyFiles k)) n

  module _ (few : length names ≤ 1000) where
    same_limit : limit_fault (map (file_named files) names) ≡ over 0 (map (file_named files) names)
    same_limit = let n : length (map (file_named files) names) ≡ length names = length-map names (file_named files) in few_enough (map (file_named files) names) (omega (arith, n, few))

    pub gathers_files : (read : List MemoryFile) (failing : List ℕ) → AreRead (map (file_named files) names) (Ok read) → failing ≡ [] → Gathers (map (file_named files) names) (Ok (record { files = read; failing = failing; calls = 0; failed = 0 }))
    gathers_files read failing are e = (same_limit ∙ are.0, are.1, record { failing = e; calls = refl; failed = refl })

    pub gathers_none : (fault : LoadFault) → AreRead (map (file_named files) names) (Err fault) → Gathers (map (file_named files) names) (Err fault)
    gathers_none load.Folder are = tt
    gathers_none load.Memory are = tt
    gathers_none (load.Library fault) are = same_limit ∙ are
