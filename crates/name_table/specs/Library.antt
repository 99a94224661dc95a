-- What the names of a library keep.
use Rattle.std.specs.Prelude.{◌≡◌, ◌<◌, ◌^◌, ℕ, List, [], length}
use Rattle.design_lexer.specs.declared.tree.File.{File}
use Rattle.design_lexer.specs.declared.tree.File.TheVariants as file
use Rattle.name_index.specs.Names.{number_of}
use Rattle.name_rules.specs.Sizes.{IsSmall}
use Rattle.name_table.specs.Files.{poset_files}
use Rattle.name_table.specs.NameFaults.{name_faults}
use Rattle.name_table.specs.Orders.{IsPosetOf}
use Rattle.name_table.specs.Ranks.{AreRanks}
use Rattle.name_table.specs.References.{references}
use Rattle.name_table.specs.Stems.{AreStems, AreTableStems}
use Rattle.name_table.specs.declared.library.LibraryNames.{LibraryNames}
use Rattle.name_table.specs.declared.source.SourceFile.{SourceFile}
use Rattle.name_table.specs.declared.source.Table.{Table}
use Rattle.order_core.specs.Pointwise.{Each, Pointwise}
use Rattle.tree_units.specs.Posets.{poset_place}
use Rattle.value_type.specs.declared.poset.Poset.{Poset}
use Rattle.value_type.specs.declared.poset.Types.{Types}

-- The poset is that of a poset file.
abbrev pub IsPosetIn : List ℕ → File → Poset → Type 0
IsPosetIn stem (file.Poset tree) poset = IsPosetOf stem tree poset
IsPosetIn stem _ poset = ⊥

-- The posets are those of the poset files, in order.
abbrev pub ArePosets : List SourceFile → List Poset → Type 0
ArePosets files posets = Pointwise (λ f poset. IsPosetIn f.stem f.tree poset) (poset_files files) posets

-- Each list in the files is short.
abbrev pub AreSmall : List SourceFile → Type 0
AreSmall files = Each (λ f. IsSmall f.tree) files

-- The files and tables are few, and their names are in order.
pub record AreInOrder (files : List SourceFile) (tables : List Table) : Type 0 where
  pub few_files : length files < 2 ^ 32
  pub few_tables : length tables < 2 ^ 32
  pub faultless : name_faults files tables ≡ []

-- The indexes have the places of the stems, and the ranks those of the references.
pub record AreIndexed (files : List SourceFile) (tables : List Table) (types : Types) (library : LibraryNames) (posets : List (List ℕ × ℕ)) (ranks : List ℕ) : Type 0 where
  pub stems : AreStems files library.stems
  pub tables_are : AreTableStems tables library.tables
  pub posets_are : (name : List ℕ) → number_of posets name ≡ poset_place types name
  pub ranks_are : AreRanks (length files) (references files) ranks
