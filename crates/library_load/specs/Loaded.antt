-- What the files of a folder are loaded as: a library, or why they are refused.
use Rattle.std.specs.Prelude.{◌≡◌, ◌⊎◌, List, None, Some, Result, Ok, Err}
use Rattle.design_world.specs.Files.{File}
use Rattle.design_world.specs.InMemory.{files_of}
use Rattle.design_world.specs.declared.memory.folder.MemoryFile.{MemoryFile}
use Rattle.fault_list.specs.FirstBad.{IsFirstBad}
use Rattle.fault_list.specs.declared.fault.FileFault.{FileFault}
use Rattle.library_files.specs.Branches.{HasBranch}
use Rattle.library_files.specs.Parsed.{AreParsed, HasTextFault, IsWritten}
use Rattle.library_files.specs.Taken.{AreTaken, limit_fault}
use Rattle.library_files.specs.declared.fault.LibraryFault.{LibraryFault}
use Rattle.library_files.specs.declared.fault.LibraryFault.TheVariants.{Refused}
use Rattle.library_files.specs.declared.fault.LoadFault.{LoadFault}
use Rattle.library_files.specs.declared.fault.LoadFault.TheVariants.{Folder, Library, Memory}
use Rattle.library_files.specs.declared.parse.Parsed.{Parsed}
use Rattle.library_load.specs.Accepted.{IsFirstFault, KeepsRules}
use Rattle.library_load.specs.Designs.{HasFewRows}
use Rattle.library_load.specs.declared.library.Library as loaded
use Rattle.module_link.specs.Links.{AreModulesOf}
use Rattle.order_core.specs.Pointwise.{Each}
use Rattle.value_type.specs.declared.poset.Types.{Types}

-- The folder's files write this library, with these types, and it is accepted: its files keep the limits, and no stage has a fault.
pub record IsAccepted (files : List File) (made : Parsed) (types : Types) : Type 0 where
  pub taken : List MemoryFile
  pub are_taken : AreTaken files (files_of taken)
  pub limits : limit_fault (files_of taken) ≡ None
  pub parsed : AreParsed taken made
  pub rules : KeepsRules made.files made.tables types

-- It is the first fault of the texts of the files, or else of what all of them write.
abbrev pub IsFaultOf : List MemoryFile → FileFault → Type 0
IsFaultOf taken fault = IsFirstBad IsWritten HasTextFault taken fault ⊎ ((made : Parsed) × AreParsed taken made × IsFirstFault made.files made.tables fault)

-- The first limit that the files pass, or else their first fault.
abbrev pub IsReason : List MemoryFile → LibraryFault → Type 0
IsReason taken reason =
    (limit_fault (files_of taken) ≡ Some reason)
    ⊎ ((limit_fault (files_of taken) ≡ None) × (fault : FileFault) × (reason ≡ Refused fault) × IsFaultOf taken fault)

-- The folder's files are refused for this reason.
pub record IsRefused (files : List File) (reason : LibraryFault) : Type 0 where
  pub taken : List MemoryFile
  pub are_taken : AreTaken files (files_of taken)
  pub is_reason : IsReason taken reason

-- A library that keeps the rules, with its modules.
pub record IsLibrary (library : loaded.Library) : Type 0 where
  pub rules : KeepsRules library.names.files library.names.tables library.names.types
  pub few_rows : Each (HasFewRows library.names.tables library.names.types) library.names.files
  pub branches : Each HasBranch library.names.files
  pub modules : AreModulesOf library.names.files library.names.tables library.names.types library.modules

-- the files and the tables of a library
abbrev pub parsed_of : loaded.Library → Parsed
parsed_of library = record { files = library.names.files; tables = library.names.tables }

-- The library that the folder's files write, or why they are refused. Other faults say nothing.
abbrev pub Loads : List File → Result loaded.Library LoadFault → Type 0
Loads files (Ok library) = IsAccepted files (parsed_of library) library.names.types
Loads files (Err (Library fault)) = IsRefused files fault
Loads files (Err Folder) = Unit {0}
Loads files (Err Memory) = Unit {0}
