-- A file's catalogue: its ports are few, and its rows are those of the file.
use Rattle.std.proofs.Common.{◌≡◌, ◌∙◌, ◌<◌, ◌^◌, ap, refl, sym, subst, ℕ, List, [], get_or, length}
use Rattle.std.proofs.lemmas.Option.{slice_get_read}
use Rattle.std.specs.Prelude.{Option, Some, Result, Err, slice_get}
use Rattle.catalogue_read.specs.Catalogues.{AreListed, AreRowsOf, Catalogue, HasBadRow, HasRows, IsBadList, IsFaultIn, IsRowFaultOf, catalogue_in, catalogue_of}
use Rattle.design_lexer.specs.declared.tree.BodyTree.{BodyTree}
use Rattle.design_lexer.specs.declared.tree.BodyTree.TheVariants as body
use Rattle.design_lexer.specs.declared.tree.File.{File}
use Rattle.design_lexer.specs.declared.tree.File.TheVariants as file
use Rattle.design_lexer.specs.declared.tree.PortTree.{PortTree}
use Rattle.design_lexer.specs.declared.tree.Side.{Side}
use Rattle.design_lexer.specs.declared.tree.Side.TheVariants.{Provides, Requires}
use Rattle.design_model.specs.declared.design.CatRow.{CatRow}
use Rattle.fault_list.specs.Answers.{IsInFile}
use Rattle.fault_list.specs.FirstBad.{AnswersBy}
use Rattle.fault_list.specs.declared.fault.Fault.{Fault}
use Rattle.fault_list.specs.declared.fault.FileFault.{FileFault}
use Rattle.fault_list.specs.declared.fault.Stop.{Stop}
use Rattle.fault_list.specs.declared.fault.Stop.TheVariants as stop
use Rattle.name_rules.specs.Sizes.{IsSmall, IsSmallBody}
use Rattle.name_table.specs.declared.source.SourceFile.{SourceFile}
use Rattle.name_table.specs.declared.source.Table.{Table}
use Rattle.order_core.specs.MemberLaws.{append_nil}
use Rattle.row_values.specs.Tables.{AnswersTable}
use Rattle.side_ports.specs.Held.{sides_held}
use Rattle.side_ports.specs.SideLaws.{side_few}
use Rattle.side_ports.specs.Sides.{Sides, side_ports, sides_of}
use Rattle.side_ports.specs.declared.ports.SidePorts.{SidePorts}
use Rattle.tree_units.specs.Posets.{poset_place}
use Rattle.value_type.specs.declared.poset.Types.{Types}

-- ---- how many ports there are

body_few : (b : BodyTree) (c : Catalogue) → IsSmallBody b → catalogue_in b ≡ Some c → length c.ports < 2 ^ 32
body_few (body.Catalogue ports rows table) c small e = let same : ports ≡ c.ports = cc in subst (λ (ps : List PortTree). length ps < 2 ^ 32) same small.0
body_few (body.Choose branches) c small e = absurd (cc)
body_few (body.Net ports parts rules) c small e = absurd (cc)

-- A catalogue in a small file has few ports.
pub catalogue_few : (f : File) (c : Catalogue) → IsSmall f → catalogue_of f ≡ Some c → length c.ports < 2 ^ 32
catalogue_few (file.Poset poset) c small e = absurd (cc)
catalogue_few (file.Interface ports) c small e = absurd (cc)
catalogue_few (file.Design b) c small e = body_few b c small e
catalogue_few (file.Template params b) c small e = body_few b c small.1 e

one_few : (types : Types) (side : Side) (trees : List PortTree) → length trees < 2 ^ 32 → length (side_ports (poset_place types) side trees) < 2 ^ 32
one_few types side trees few = side_few (poset_place types) side trees (side_ports (poset_place types) side trees) [] (sym (append_nil _)) few

-- So the ports that are held of it are few.
module _ (types : Types) (f : File) (c : Catalogue) (ports : SidePorts) (small : IsSmall f) (is : catalogue_of f ≡ Some c) (held : sides_held ports ≡ sides_of types c.ports) where
  pub provided_few : length ports.provides < 2 ^ 32
  provided_few = subst (λ (s : Sides). length s.provides < 2 ^ 32) (sym held) (one_few types Provides c.ports (catalogue_few f c small is))

  pub required_few : length ports.requires_ < 2 ^ 32
  required_few = subst (λ (s : Sides). length s.requires_ < 2 ^ 32) (sym held) (one_few types Requires c.ports (catalogue_few f c small is))

-- ---- the rows of the file

-- The file that was read at a number is there.
pub file_there : (files items : List SourceFile) (i : ℕ) (f : SourceFile) → items ≡ files → i < length files → f ≡ get_or items i f → slice_get files i ≡ Some f
file_there files items i f same inside is = slice_get_read files (length files) i f refl inside (is ∙ ap (λ (fs : List SourceFile). get_or fs i f) same)

-- The file of a number is the only one there.
pub at_number : (P : SourceFile → Type 0) (files : List SourceFile) (i : ℕ) (f : SourceFile) → slice_get files i ≡ Some f → P f → (g : SourceFile) → slice_get files i ≡ Some g → P g
at_number P files i f there h g e = let same : f ≡ g = cc in subst P same h

-- What a catalogue lists for its own ports are the rows of the file.
pub listed_file : (tables : List Table) (types : Types) (f : SourceFile) (c : Catalogue) (sides : Sides) (r : Result (List CatRow) (Stop FileFault)) → catalogue_of f.tree ≡ Some c → sides ≡ sides_of types c.ports
    → AnswersBy (AreListed tables types sides c.rows c.table) (IsBadList tables types sides f.name c.rows c.table) r → AnswersBy (HasRows tables types f) (HasBadRow tables types f) r
listed_file tables types f c sides r is held h =
    let own = subst (λ (s : Sides). AnswersBy (AreListed tables types s c.rows c.table) (IsBadList tables types s f.name c.rows c.table) r) held h in
    subst (λ (o : Option Catalogue). AnswersBy (AreRowsOf tables types o) (IsRowFaultOf tables types f.name o) r) (sym is) own

-- A table that was refused, with the name of its file.
pub table_stopped : {A : Type 0} (types : Types) (sides : Sides) (table : Table) (Has : A → Type 0) (s : Stop Fault) (placed : Stop FileFault)
    → AnswersTable types sides.provides sides.requires_ table.bytes (Err s) → IsInFile table.name s placed → AnswersBy Has (IsFaultIn types sides table) (Err placed)
table_stopped types sides table Has (stop.At fault) (stop.At placed) h is = record { at = fault; is_fault = h; is = is }
table_stopped types sides table Has (stop.At fault) stop.Memory h is = tt
table_stopped types sides table Has stop.Memory (stop.At placed) h is = absurd is
table_stopped types sides table Has stop.Memory stop.Memory h is = tt
