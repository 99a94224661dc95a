-- What the objects in memory hold.
use Rattle.std.specs.Prelude.{ℕ, List, [], ◌∷◌, Bool, true, false, Option, Some, map}
use Rattle.design_world.specs.Files.{File, everywhere}
use Rattle.design_world.specs.declared.memory.folder.MemoryFile.{MemoryFile}
use Rattle.design_world.specs.declared.memory.folder.MemoryFolder.{MemoryFolder}

-- no call is numbered as one that fails
abbrev pub none_fail : List ℕ → Bool
none_fail [] = true
none_fail (number ∷ rest) = false

-- the file that a file in memory is
abbrev pub file_of : MemoryFile → File
file_of file = record { name = file.name; bytes = file.bytes }

-- the files that the files in memory are, in order
abbrev pub files_of : List MemoryFile → List File
files_of files = map file_of files

-- the folder's files, the same ones at every place
abbrev pub told_files : MemoryFolder → List ℕ → Option (List File)
told_files folder = everywhere (Some (files_of folder.files))
