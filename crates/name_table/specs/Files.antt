-- The files of a library by their stems. Designs and templates share one space of names; interfaces, posets and tables have one each.
use Rattle.std.specs.Prelude.{ℕ, Bool, true, false, ◌&&◌, List, [], Option, Some, None, filter, is_some, option_and_then, slice_get}
use Rattle.std.specs.List.{position_from}
use Rattle.std.specs.Str.{bytes_eq}
use Rattle.design_lexer.specs.declared.tree.File.{File}
use Rattle.design_lexer.specs.declared.tree.File.TheVariants as file
use Rattle.design_lexer.specs.declared.tree.NameAt.{NameAt}
use Rattle.name_index.specs.Places.{place_of}
use Rattle.name_rules.specs.Known.{Known}
use Rattle.name_rules.specs.Twice.{is_listed}
use Rattle.name_table.specs.declared.source.SourceFile.{SourceFile}
use Rattle.name_table.specs.declared.source.Table.{Table}

-- a design or a template
abbrev pub is_design : File → Bool
is_design (file.Design body) = true
is_design (file.Template params body) = true
is_design _ = false

abbrev pub is_interface : File → Bool
is_interface (file.Interface ports) = true
is_interface _ = false

abbrev pub is_poset : File → Bool
is_poset (file.Poset poset) = true
is_poset _ = false

-- the place of the first file of this stem among those of a space
abbrev pub stem_place : (File → Bool) → List SourceFile → List ℕ → Option ℕ
stem_place space files stem = position_from (λ f. space f.tree && bytes_eq stem f.stem) 0 files

-- the place of the first table of this stem
abbrev pub table_place : List Table → List ℕ → Option ℕ
table_place tables stem = place_of (λ t. t.stem) tables stem

abbrev pub poset_files : List SourceFile → List SourceFile
poset_files files = filter (λ f. is_poset f.tree) files

abbrev pub elements_of : File → List NameAt
elements_of (file.Poset poset) = poset.elements
elements_of _ = []

abbrev pub elements_in : Option SourceFile → List NameAt
elements_in (Some f) = elements_of f.tree
elements_in None = []

-- the elements of the first poset of this name
abbrev pub poset_elements : List SourceFile → List ℕ → List NameAt
poset_elements files stem = elements_in (option_and_then (slice_get files) (stem_place is_poset files stem))

-- the names that the files and tables have
abbrev pub known_in : List SourceFile → List Table → Known
known_in files tables = record {
  design = λ stem. is_some (stem_place is_design files stem);
  interface = λ stem. is_some (stem_place is_interface files stem);
  table = λ stem. is_some (table_place tables stem);
  poset = λ stem. is_some (stem_place is_poset files stem);
  element = λ stem element. is_listed (poset_elements files stem) element;
}

abbrev pub name_in : Option SourceFile → List ℕ
name_in (Some f) = f.name
name_in None = []

-- the name of the file of this number
abbrev pub name_at : List SourceFile → ℕ → List ℕ
name_at files i = name_in (slice_get files i)
