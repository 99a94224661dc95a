-- What is found in a library whose names are in order.
use Rattle.std.specs.Prelude.{List}
use Rattle.name_table.specs.Library.{AreIndexed, ArePosets}
use Rattle.name_table.specs.declared.examine.Found.{Found}
use Rattle.name_table.specs.declared.source.SourceFile.{SourceFile}
use Rattle.name_table.specs.declared.source.Table.{Table}
use Rattle.value_type.specs.Types.{AreNamed}

-- The types are those of the files, and the indexes have their names.
pub record AreFound (files : List SourceFile) (tables : List Table) (found : Found) : Type 0 where
  pub posets : ArePosets files found.types.posets
  pub named : AreNamed found.types
  pub indexed : AreIndexed files tables found.types found.library found.posets found.ranks
