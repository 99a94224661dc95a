-- What the files of a library say apart from their references.
use Rattle.std.specs.Prelude.{◌≡◌, ℕ, List, [], length, map, Some, slice_get}
use Rattle.catalogue_read.specs.Catalogues.{HasRows}
use Rattle.design_model.specs.declared.design.CatRow.{CatRow}
use Rattle.name_table.specs.declared.source.SourceFile.{SourceFile}
use Rattle.name_table.specs.declared.source.Table.{Table}
use Rattle.reference_meaning.specs.Sources.{Content, Source}
use Rattle.side_ports.specs.Sides.{sides_of}
use Rattle.unit_check.specs.Constraints.{constraints_of}
use Rattle.unit_check.specs.Declaring.{ports_in}
use Rattle.unit_check.specs.Scopes.{scope_at}
use Rattle.unit_check.specs.TypeFaults.{rules_of}
use Rattle.value_type.specs.declared.poset.Types.{Types}

-- what this file, which is the one of this number, says where it has these rows: the ports that it declares, and the constraints of its rules
abbrev pub content_of : List SourceFile → Types → ℕ → SourceFile → List CatRow → Content
content_of files types i f rows = record {
  provides = (sides_of types (ports_in f.tree)).provides;
  requires_ = (sides_of types (ports_in f.tree)).requires_;
  rows = rows;
  constraints = constraints_of types (scope_at files types i f.tree) (rules_of f.tree);
}

abbrev pub source_of : List SourceFile → Types → ℕ → SourceFile → List CatRow → Source
source_of files types i f rows = record { stem = f.stem; tree = f.tree; content = content_of files types i f rows }

-- The source is that of this file, which is the one of this number.
pub record IsSourceOf (files : List SourceFile) (tables : List Table) (types : Types) (i : ℕ) (f : SourceFile) (source : Source) : Type 0 where
  pub rows : List CatRow
  pub has : HasRows tables types f rows
  pub is : source ≡ source_of files types i f rows

-- Each file has its source, under its number.
pub record AreSourcesOf (files : List SourceFile) (tables : List Table) (types : Types) (sources : List Source) : Type 0 where
  pub size : length sources ≡ length files
  pub each : (i : ℕ) (f : SourceFile) → slice_get files i ≡ Some f → (source : Source) × (slice_get sources i ≡ Some source) × IsSourceOf files tables types i f source

-- The files with their names and trees alone. Names are resolved by these.
abbrev pub bare_source : SourceFile → Source
bare_source f = record { stem = f.stem; tree = f.tree; content = record { provides = []; requires_ = []; rows = []; constraints = [] } }

abbrev pub bare_sources : List SourceFile → List Source
bare_sources files = map bare_source files
