-- A library whose types have no fault has sound ports.
use Rattle.std.proofs.Common.{◌≡◌, refl, List, [], ◌∷◌}
use Rattle.std.specs.List.{flat_map}
use Rattle.catalogue_read.specs.Catalogues.{HasSoundPorts, catalogue_of, catalogue_port_faults}
use Rattle.design_lexer.specs.declared.tree.BodyTree.TheVariants as body
use Rattle.design_lexer.specs.declared.tree.File.{File}
use Rattle.design_lexer.specs.declared.tree.File.TheVariants as file
use Rattle.fault_list.specs.FaultLaws.{none_left}
use Rattle.fault_list.specs.RestLaws.{none_right}
use Rattle.name_table.specs.declared.source.SourceFile.{SourceFile}
use Rattle.order_core.specs.Pointwise.{Each}
use Rattle.tree_units.specs.Ports.{port_faults}
use Rattle.tree_units.specs.Posets.{poset_place}
use Rattle.unit_check.specs.Declaring.{ports_in}
use Rattle.unit_check.specs.RuleLaws.{none_mapped}
use Rattle.unit_check.specs.TypeFaults.{file_port_faults}
use Rattle.value_type.specs.declared.poset.Types.{Types}

sound : (types : Types) (tree : File) → flat_map (port_faults (poset_place types)) (ports_in tree) ≡ [] → catalogue_port_faults types (catalogue_of tree) ≡ []
sound types (file.Poset poset) e = refl
sound types (file.Interface ports) e = refl
sound types (file.Design (body.Catalogue ports rows table)) e = e
sound types (file.Design (body.Choose branches)) e = refl
sound types (file.Design (body.Net ports parts rules)) e = refl
sound types (file.Template params (body.Catalogue ports rows table)) e = e
sound types (file.Template params (body.Choose branches)) e = refl
sound types (file.Template params (body.Net ports parts rules)) e = refl

pub all_sound : (types : Types) (files : List SourceFile) → flat_map (file_port_faults types) files ≡ [] → Each (HasSoundPorts types) files
all_sound types [] e = tt
all_sound types (f ∷ files) e =
    let here = none_left (file_port_faults types f) (flat_map (file_port_faults types) files) e in
    (sound types f.tree (none_mapped _ (flat_map (port_faults (poset_place types)) (ports_in f.tree)) here), all_sound types files (none_right (file_port_faults types f) (flat_map (file_port_faults types) files) e))
