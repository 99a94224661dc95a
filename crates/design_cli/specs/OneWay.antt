-- Libraries, designs and queries are what they are in one way.
use Rattle.std.specs.Prelude.{◌≡◌, ℕ, List, None}
use Rattle.design_model.specs.declared.design.Design.{Design}
use Rattle.design_world.specs.Files.{File}
use Rattle.library_files.specs.declared.fault.LibraryFault.{LibraryFault}
use Rattle.library_files.specs.declared.parse.Parsed.{Parsed}
use Rattle.library_load.specs.Designs.{IsDesign, design_file}
use Rattle.library_load.specs.Loaded.{IsAccepted, IsRefused}
use Rattle.name_table.specs.declared.source.SourceFile.{SourceFile}
use Rattle.name_table.specs.declared.source.Table.{Table}
use Rattle.query_read.specs.Queries.{IsQuery, IsQueryFault}
use Rattle.query_read.specs.declared.query.QueryFault.{QueryFault}
use Rattle.value_type.specs.declared.poset.Types.{Types}
use Rattle.value_type.specs.declared.value.Value.{Value}

-- A folder's library, the reason why it is refused, the design of a name, what a query writes and its fault: each is one.
pub record AreOne : Type 0 where
  pub accepted : (files : List File) (a b : Parsed) (s t : Types) → IsAccepted files a s → IsAccepted files b t → (a ≡ b) × (s ≡ t)
  pub reasons : (files : List File) (a b : LibraryFault) → IsRefused files a → IsRefused files b → a ≡ b
  pub never_both : (files : List File) (made : Parsed) (types : Types) (reason : LibraryFault) → IsAccepted files made types → IsRefused files reason → ⊥
  pub there : (files : List SourceFile) (tables : List Table) (types : Types) (name : List ℕ) (X : Design) → IsDesign files tables types name X → design_file files name ≡ None → ⊥
  pub designs : (files : List SourceFile) (tables : List Table) (types : Types) (name : List ℕ) (X Y : Design) → IsDesign files tables types name X → IsDesign files tables types name Y → X ≡ Y
  pub queries : (types : Types) (design : Design) (text : List ℕ) (f g : List Value) → IsQuery types design text f → IsQuery types design text g → f ≡ g
  pub faults : (types : Types) (design : Design) (text : List ℕ) (a b : QueryFault) → IsQueryFault types design text a → IsQueryFault types design text b → a ≡ b
  pub no_query : (types : Types) (design : Design) (text : List ℕ) (fault : QueryFault) (f : List Value) → IsQueryFault types design text fault → IsQuery types design text f → ⊥
