-- What is read of a folder, file by file.
use Rattle.std.proofs.Common.{◌≡◌, ◌∙◌, ◌+◌, ◌<◌, ◌≤◌, refl, sym, ap, arith, ℕ, Bool, true, false, cond, add_assoc, zero-add, List, [], ◌∷◌, ◌++◌, length, take, drop, get_or, map, Option, Some, None, Ok, Err}
use Rattle.std.proofs.lemmas.Bool.{lt-ltb, le-ltb}
use Rattle.std.proofs.lemmas.List.{drop_more, map-append, map-id, take-append-drop}
use Rattle.std.specs.Option.{option_map_or}
use Rattle.std.specs.Prelude.{nat_lt}
use Rattle.design_world.specs.Files.{File, GivesContent, GivesFile, first_named}
use Rattle.design_world.specs.InMemory.{file_of, files_of}
use Rattle.design_world.specs.declared.memory.folder.MemoryFile.{MemoryFile}
use Rattle.design_world.specs.declared.world.Content.TheVariants.{Whole, Longer}
use Rattle.library_files.specs.Reading.{AreRead, IsRead, file_named, size_of}
use Rattle.library_files.specs.Taken.{over}
use Rattle.library_files.specs.declared.fault.LibraryFault.TheVariants.{FileTooLong, LibraryTooLong}
use Rattle.library_files.specs.declared.fault.LoadFault.{LoadFault}
use Rattle.library_files.specs.declared.fault.LoadFault.TheVariants as load

-- ---- one file

pub whole_read : (files : List File) (name bytes : List ℕ) → GivesContent files name 1048576 (Whole bytes) → IsRead (file_named files name) (Ok (record { name = name; bytes = bytes }))
unfolding file_named
whole_read files name bytes h = of (first_named files name) h
  where
    of : (o : Option File) → GivesFile o 1048576 (Whole bytes)
        → (length (option_map_or (λ (f : File). f.bytes) o []) ≤ 1048576) × (file_of (record { name = name; bytes = bytes }) ≡ record { name = name; bytes = option_map_or (λ (f : File). f.bytes) o [] })
    of None k = absurd k
    of (Some file) k = (k.0, λ i. record { name = name; bytes = k.1 i })

pub longer_read : (files : List File) (name : List ℕ) → GivesContent files name 1048576 Longer → IsRead (file_named files name) (Err (load.Library (FileTooLong name)))
unfolding file_named
longer_read files name h = of (first_named files name) h
  where
    of : (o : Option File) → GivesFile o 1048576 Longer
        → (1048576 < length (option_map_or (λ (f : File). f.bytes) o [])) × (FileTooLong name ≡ FileTooLong name)
    of None k = absurd k
    of (Some file) k = (k, refl)

-- ---- the limits

-- Where the first files keep the limits, the others decide.
pub over_append : (n : ℕ) (xs ys : List File) → over n xs ≡ None → over n (xs ++ ys) ≡ over (n + size_of xs) ys
over_append n [] ys e = ap (λ k. over k ys) (omega arith)
over_append n (x ∷ xs) ys e = go (nat_lt 1048576 (length x.bytes)) (nat_lt 16777216 (n + length x.bytes)) e (λ k. over_append (n + length x.bytes) xs ys k)
  where
    go : (s t : Bool) → cond s (Some (FileTooLong x.name)) (cond t (Some (LibraryTooLong x.name)) (over (n + length x.bytes) xs)) ≡ None
        → (over (n + length x.bytes) xs ≡ None → over (n + length x.bytes) (xs ++ ys) ≡ over (n + length x.bytes + size_of xs) ys)
        → cond s (Some (FileTooLong x.name)) (cond t (Some (LibraryTooLong x.name)) (over (n + length x.bytes) (xs ++ ys))) ≡ over (n + (length x.bytes + size_of xs)) ys
    go true t e later = absurd (cc)
    go false true e later = absurd (cc)
    go false false e later = later e ∙ ap (λ k. over k ys) (add_assoc n (length x.bytes) (size_of xs))

over_file : (n : ℕ) (x : File) (ys : List File) → 1048576 < length x.bytes → over n (x ∷ ys) ≡ Some (FileTooLong x.name)
over_file n x ys l = let long : nat_lt 1048576 (length x.bytes) ≡ true = lt-ltb 1048576 (length x.bytes) l in rw long refl

over_library : (n : ℕ) (x : File) (ys : List File) → length x.bytes ≤ 1048576 → 16777216 < n + length x.bytes → over n (x ∷ ys) ≡ Some (LibraryTooLong x.name)
over_library n x ys l m =
    let short : nat_lt 1048576 (length x.bytes) ≡ false = le-ltb 1048576 (length x.bytes) l in
    let long : nat_lt 16777216 (n + length x.bytes) ≡ true = lt-ltb 16777216 (n + length x.bytes) m in
    rw (short, long) refl

over_none : (n : ℕ) (x : File) → length x.bytes ≤ 1048576 → n + length x.bytes ≤ 16777216 → over n (x ∷ []) ≡ None
over_none n x l m =
    let short : nat_lt 1048576 (length x.bytes) ≡ false = le-ltb 1048576 (length x.bytes) l in
    let few : nat_lt 16777216 (n + length x.bytes) ≡ false = le-ltb 16777216 (n + length x.bytes) m in
    rw (short, few) refl

size_append : (xs ys : List File) → size_of (xs ++ ys) ≡ size_of xs + size_of ys
size_append [] ys = sym (zero-add (size_of ys))
size_append (x ∷ xs) ys = ap (λ n. length x.bytes + n) (size_append xs ys) ∙ sym (add_assoc (length x.bytes) (size_of xs) (size_of ys))

-- ---- files so far

-- The files of the names keep the limits, were read, and have so many bytes.
pub record ReadSoFar (files : List File) (names : List (List ℕ)) (read : List MemoryFile) (total : ℕ) : Type 0 where
  pub within : over 0 (map (file_named files) names) ≡ None
  pub are : files_of read ≡ map (file_named files) names
  pub size : total ≡ size_of (map (file_named files) names)

module _ (files : List File) (names : List (List ℕ)) (read : List MemoryFile) (total : ℕ) (so_far : ReadSoFar files names read total) (name : List ℕ) where
  over_rest : (rest : List (List ℕ)) → over 0 (map (file_named files) (names ++ name ∷ rest)) ≡ over total (file_named files name ∷ map (file_named files) rest)
  over_rest rest =
      ap (over 0) (map-append (file_named files) names (name ∷ rest))
      ∙ over_append 0 (map (file_named files) names) (file_named files name ∷ map (file_named files) rest) so_far.within
      ∙ ap (λ k. over k (file_named files name ∷ map (file_named files) rest)) (zero-add (size_of (map (file_named files) names)) ∙ sym so_far.size)

  -- One file more is read.
  pub read_next : (file : MemoryFile) → IsRead (file_named files name) (Ok file) → total + length file.bytes ≤ 16777216 → ReadSoFar files (names ++ name ∷ []) (read ++ file ∷ []) (total + length file.bytes)
  read_next file is l =
      let same : length file.bytes ≡ length (file_named files name).bytes = ap (λ (f : File). length f.bytes) is.1 in
      let size : size_of (map (file_named files) (names ++ name ∷ [])) ≡ size_of (map (file_named files) names) + (length (file_named files name).bytes + 0) =
      ap size_of (map-append (file_named files) names (name ∷ [])) ∙ size_append (map (file_named files) names) (file_named files name ∷ []) in
      record {
        within = over_rest [] ∙ over_none total (file_named files name) is.0 (omega (arith, same, l));
        are = map-append file_of read (file ∷ []) ∙ ap (λ (fs : List File). fs ++ file_of file ∷ []) so_far.are ∙ ap (λ (f : File). map (file_named files) names ++ f ∷ []) is.1 ∙ sym (map-append (file_named files) names (name ∷ []));
        size = omega (arith, size, same, so_far.size);
      }

  -- The file is too long, or another call gave none.
  pub stopped_at : (rest all : List (List ℕ)) → all ≡ names ++ name ∷ rest → (fault : LoadFault) → IsRead (file_named files name) (Err fault) → AreRead (map (file_named files) all) (Err fault)
  stopped_at rest all e load.Folder is = tt
  stopped_at rest all e load.Memory is = tt
  stopped_at rest all e (load.Library fault) is =
      ap (λ ns. over 0 (map (file_named files) ns)) e ∙ over_rest rest ∙ over_file total (file_named files name) (map (file_named files) rest) is.0 ∙ ap (λ f. Some f) (sym is.1)

  -- With the file, there are too many bytes.
  pub too_long_at : (rest all : List (List ℕ)) → all ≡ names ++ name ∷ rest → (file : MemoryFile) → IsRead (file_named files name) (Ok file) → 16777216 < total + length file.bytes → over 0 (map (file_named files) all) ≡ Some (LibraryTooLong file.name)
  too_long_at rest all e file is l =
      let same : length file.bytes ≡ length (file_named files name).bytes = ap (λ (f : File). length f.bytes) is.1 in
      ap (λ ns. over 0 (map (file_named files) ns)) e ∙ over_rest rest ∙ over_library total (file_named files name) (map (file_named files) rest) is.0 (omega (arith, same, l))
      ∙ ap (λ (f : File). Some (LibraryTooLong f.name)) (sym is.1)

-- An item that is taken of a list, and those before it.
pub taken_next : {A : Type 0} (all before : List A) (x : A) → map (λ y. y) before ≡ take (length before) all → length before < length all → x ≡ get_or all (length before) x → all ≡ before ++ x ∷ drop (length before + 1) all
taken_next all before x e l is =
    sym (take-append-drop (length before) all)
    ∙ ap (λ ys. ys ++ drop (length before) all) (sym e ∙ map-id before)
    ∙ ap (λ ys. before ++ ys) (drop_more all (length before) x l ∙ ap (λ y. y ∷ drop (length before + 1) all) (sym is))
