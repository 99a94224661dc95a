-- What is known of a library after its stages.
use Rattle.std.specs.Prelude.{◌≡◌, List, []}
use Rattle.catalogue_read.specs.Catalogues.{HasSomeRows}
use Rattle.library_files.specs.Parsed.{AreParsed}
use Rattle.library_load.specs.Accepted.{IsInLimits}
use Rattle.library_load.specs.Designs.{HasFewRows}
use Rattle.library_load.specs.Loaded.{IsLibrary, parsed_of}
use Rattle.library_load.specs.declared.library.Library.{Library}
use Rattle.design_world.specs.declared.memory.folder.MemoryFile.{MemoryFile}
use Rattle.module_link.specs.Links.{AreModulesOf}
use Rattle.name_table.specs.declared.source.SourceFile.{SourceFile}
use Rattle.name_table.specs.declared.source.Table.{Table}
use Rattle.order_core.specs.Pointwise.{Each}
use Rattle.reference_check.specs.LibraryFronts.{library_faults}
use Rattle.reference_meaning.specs.Modules.{Modules}
use Rattle.unit_check.specs.Connection.{connection_faults}
use Rattle.unit_check.specs.TypeFaults.{type_faults}
use Rattle.value_type.specs.declared.poset.Types.{Types}

-- No stage after that of names has a fault, and these are the modules.
pub record AreChecked (files : List SourceFile) (tables : List Table) (types : Types) (modules : Modules) : Type 0 where
  pub typed : type_faults files types ≡ []
  pub connected : connection_faults files ≡ []
  pub rows : Each (HasSomeRows tables types) files
  pub few_rows : Each (HasFewRows tables types) files
  pub references : library_faults files types ≡ []
  pub limits : Each (IsInLimits files tables types) files
  pub are_modules : AreModulesOf files tables types modules

-- The library has these files and tables, and keeps the rules.
abbrev pub IsOf : List SourceFile → List Table → Library → Type 0
IsOf files tables library = (library.names.files ≡ files) × (library.names.tables ≡ tables) × IsLibrary library

-- The files in memory write the library, and it keeps the rules.
abbrev pub IsLoadedOf : List MemoryFile → Library → Type 0
IsLoadedOf taken library = AreParsed taken (parsed_of library) × IsLibrary library
