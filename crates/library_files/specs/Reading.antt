-- What is read of a folder by the names of its files.
use Rattle.std.specs.Prelude.{◌≡◌, ◌+◌, ◌<◌, ◌≤◌, ℕ, List, [], ◌∷◌, length, Some, None, Result, Ok, Err}
use Rattle.std.specs.Option.{option_map_or}
use Rattle.design_world.specs.Files.{File, first_named}
use Rattle.design_world.specs.InMemory.{file_of, files_of}
use Rattle.design_world.specs.declared.memory.folder.MemoryFile.{MemoryFile}
use Rattle.library_files.specs.Taken.{over}
use Rattle.library_files.specs.declared.fault.LibraryFault.TheVariants.{FileTooLong}
use Rattle.library_files.specs.declared.fault.LoadFault.{LoadFault}
use Rattle.library_files.specs.declared.fault.LoadFault.TheVariants.{Folder, Library, Memory}

-- the file of the name, with the bytes of the folder's first one
unfoldable pub file_named : List File → List ℕ → File
file_named files name = record { name = name; bytes = option_map_or (λ file. file.bytes) (first_named files name) [] }

-- how many bytes the files have
abbrev pub size_of : List File → ℕ
size_of [] = 0
size_of (file ∷ files) = length file.bytes + size_of files

-- The file, where it isn't too long. Other faults say nothing.
abbrev pub IsRead : File → Result MemoryFile LoadFault → Type 0
IsRead file (Ok read) = (length file.bytes ≤ 1048576) × (file_of read ≡ file)
IsRead file (Err (Library fault)) = (1048576 < length file.bytes) × (fault ≡ FileTooLong file.name)
IsRead file (Err Folder) = Unit {0}
IsRead file (Err Memory) = Unit {0}

-- The files, where they aren't too long. Other faults say nothing.
abbrev pub AreRead : List File → Result (List MemoryFile) LoadFault → Type 0
AreRead files (Ok read) = (over 0 files ≡ None) × (files_of read ≡ files)
AreRead files (Err (Library fault)) = over 0 files ≡ Some fault
AreRead files (Err Folder) = Unit {0}
AreRead files (Err Memory) = Unit {0}
