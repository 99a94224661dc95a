-- The module of the design of a name.
use Rattle.std.specs.Prelude.{◌≡◌, ℕ, true, List, Some, slice_get}
use Rattle.std.specs.Str.{bytes_eq}
use Rattle.library_load.specs.declared.library.Library.{Library}
use Rattle.name_table.specs.Files.{is_design, stem_place}
use Rattle.name_table.specs.declared.source.SourceFile.{SourceFile}
use Rattle.reference_meaning.specs.Sources.{is_closed}
use Rattle.reference_meaning.specs.declared.module.Module.{Module}

-- The name stands for a design, and this is its module.
pub record IsModuleNamed (library : Library) (name : List ℕ) (m : Module) : Type 0 where
  pub number : ℕ
  pub file : SourceFile
  pub place : stem_place is_design library.names.files name ≡ Some number
  pub there : slice_get library.names.files number ≡ Some file
  pub closed : is_closed file.tree ≡ true
  pub is : bytes_eq name file.stem ≡ true
  pub held : slice_get library.modules number ≡ Some (Some m)
