-- Stems with the numbers of their files.
use Rattle.std.specs.Prelude.{◌≡◌, ℕ, Bool, false, List, [], Option, Some, None, is_some, slice_index_or}
use Rattle.name_index.specs.Names.{number_of}
use Rattle.name_rules.specs.Known.{Known}
use Rattle.name_rules.specs.Twice.{is_listed}
use Rattle.name_table.specs.Files.{elements_of, is_design, is_interface, is_poset, stem_place, table_place}
use Rattle.name_table.specs.declared.library.LibraryNames.{LibraryNames}
use Rattle.name_table.specs.declared.source.SourceFile.{SourceFile}
use Rattle.name_table.specs.declared.source.Table.{Table}
use Rattle.name_table.specs.declared.stems.FileStems.{FileStems}

-- Each index has the places of the stems of one space of names.
pub record AreStems (files : List SourceFile) (stems : FileStems) : Type 0 where
  pub designs : (stem : List ℕ) → number_of stems.designs stem ≡ stem_place is_design files stem
  pub interfaces : (stem : List ℕ) → number_of stems.interfaces stem ≡ stem_place is_interface files stem
  pub posets : (stem : List ℕ) → number_of stems.posets stem ≡ stem_place is_poset files stem

-- The index has the places of the stems of tables.
abbrev pub AreTableStems : List Table → List (List ℕ × ℕ) → Type 0
AreTableStems tables names = (stem : List ℕ) → number_of names stem ≡ table_place tables stem

-- The index has the elements of the file, if it is a poset.
abbrev pub AreElementsOf : SourceFile → List (List ℕ × ℕ) → Type 0
AreElementsOf f names = (name : List ℕ) → is_some (number_of names name) ≡ is_listed (elements_of f.tree) name

-- The index of the file of this number has the name.
abbrev pub has_element : List (List (List ℕ × ℕ)) → Option ℕ → List ℕ → Bool
has_element elements (Some number) name = is_some (number_of (slice_index_or elements number []) name)
has_element elements None name = false

-- the names that the indexes have
abbrev pub known_by : LibraryNames → Known
known_by names = record {
  design = λ stem. is_some (number_of names.stems.designs stem);
  interface = λ stem. is_some (number_of names.stems.interfaces stem);
  table = λ stem. is_some (number_of names.tables stem);
  poset = λ stem. is_some (number_of names.stems.posets stem);
  element = λ stem element. has_element names.elements (number_of names.stems.posets stem) element;
}
