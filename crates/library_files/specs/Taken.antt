-- Which files of a folder are taken, under which limits.
use Rattle.std.specs.Prelude.{◌≡◌, ℕ, ◌+◌, ◌≤◌, Bool, cond, nat_lt, IsTrue, List, [], ◌∷◌, length, filter, Option, Some, None, Result, Ok, Err}
use Rattle.std.specs.Cmp.Lexicographic.{slice_cmp}
use Rattle.std.specs.List.Sorted.{IsPermutation, IsSortedBy}
use Rattle.std.specs.Ordering.{is_lt, nat_cmp}
use Rattle.design_world.specs.Files.{File, first_named, names_of}
use Rattle.design_world.specs.InMemory.{files_of}
use Rattle.design_world.specs.declared.memory.folder.MemoryFolder.{MemoryFolder}
use Rattle.design_world.specs.declared.world.WorldFault.{WorldFault}
use Rattle.design_world.specs.declared.world.WorldFault.TheVariants as world
use Rattle.library_files.specs.Names.{is_recognised}
use Rattle.library_files.specs.declared.fault.LibraryFault.{LibraryFault}
use Rattle.library_files.specs.declared.fault.LibraryFault.TheVariants.{TooManyFiles, FileTooLong, LibraryTooLong}
use Rattle.library_files.specs.declared.fault.LoadFault.{LoadFault}
use Rattle.library_files.specs.declared.fault.LoadFault.TheVariants.{Folder, Library, Memory}
use Rattle.order_core.specs.Pointwise.{Each}

-- The first text comes before the second in the order of bytes.
abbrev pub is_before : List ℕ → List ℕ → Bool
is_before a b = is_lt (slice_cmp nat_cmp a b)

-- The files of the folder that belong to a library: those with recognised names, each name as often as it stands in the
-- folder, in the order of the bytes of their names. Each is the folder's first file with its name.
pub record AreTaken (files taken : List File) : Type 0 where
  pub recognised : IsPermutation (filter is_recognised (names_of files)) (names_of taken)
  pub ordered : IsSortedBy is_before (names_of taken)
  pub contents : Each (λ file. first_named files file.name ≡ Some file) taken

-- the first limit that the files pass, where those before them have so many bytes
abbrev pub over : ℕ → List File → Option LibraryFault
over bytes [] = None
over bytes (file ∷ files) =
    cond (nat_lt 1048576 (length file.bytes)) (Some (FileTooLong file.name)) (
    cond (nat_lt 16777216 (bytes + length file.bytes)) (Some (LibraryTooLong file.name)) (over (bytes + length file.bytes) files))

-- the first limit that the files of a library pass
abbrev pub limit_fault : List File → Option LibraryFault
limit_fault taken = cond (nat_lt 1000 (length taken)) (Some (TooManyFiles (length taken))) (over 0 taken)

-- The folder in memory has had no call, and none will fail.
pub record IsFresh (folder : MemoryFolder) : Type 0 where
  pub failing : folder.failing ≡ []
  pub calls : folder.calls ≡ 0
  pub failed : folder.failed ≡ 0

-- The folder in memory has the files, which keep the limits; or they pass this one first. Other faults say nothing.
abbrev pub Gathers : List File → Result MemoryFolder LoadFault → Type 0
Gathers taken (Ok folder) = (limit_fault taken ≡ None) × (files_of folder.files ≡ taken) × IsFresh folder
Gathers taken (Err (Library fault)) = limit_fault taken ≡ Some fault
Gathers taken (Err Folder) = Unit {0}
Gathers taken (Err Memory) = Unit {0}

-- Recognised names in the order of their bytes, at most 1,000. So much holds of what is taken also where the folder tells nothing.
pub record AreLibraryNames (names : List (List ℕ)) : Type 0 where
  pub recognised : Each (λ name. IsTrue (is_recognised name)) names
  pub ordered : IsSortedBy is_before names
  pub few : length names ≤ 1000

-- why a library wasn't loaded, where a call on the folder gave nothing
abbrev pub load_fault : WorldFault → LoadFault
load_fault world.Failed = Folder
load_fault world.Memory = Memory
