-- The designs of a library.
use Rattle.std.specs.Prelude.{◌<◌, ◌^◌, ◌&&◌, ℕ, List, Option, find, length}
use Rattle.std.specs.Str.{bytes_eq}
use Rattle.catalogue_read.specs.Catalogues.{HasRows}
use Rattle.design_model.specs.declared.design.CatRow.{CatRow}
use Rattle.design_model.specs.declared.design.Design.{Design}
use Rattle.module_link.specs.Contents.{AreSourcesOf}
use Rattle.name_table.specs.declared.source.SourceFile.{SourceFile}
use Rattle.name_table.specs.declared.source.Table.{Table}
use Rattle.reference_meaning.specs.Denotes.{DesignDenotes}
use Rattle.reference_meaning.specs.Sources.{Source, is_closed}
use Rattle.value_type.specs.declared.poset.Types.{Types}

-- The design of this name in the library is this one.
pub record IsDesign (files : List SourceFile) (tables : List Table) (types : Types) (name : List ℕ) (X : Design) : Type 0 where
  pub sources : List Source
  pub are_sources : AreSourcesOf files tables types sources
  pub denotes : DesignDenotes sources name X

-- The file has fewer than 2^32 rows.
abbrev pub HasFewRows : List Table → Types → SourceFile → Type 0
HasFewRows tables types f = (rows : List CatRow) → HasRows tables types f rows → length rows < 2 ^ 32

-- the file of the design of this name
abbrev pub design_file : List SourceFile → List ℕ → Option SourceFile
design_file files name = find (λ f. is_closed f.tree && bytes_eq name f.stem) files
