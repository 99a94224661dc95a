use Rattle.std.proofs.Common.{◌≡◌, ap, refl, subst, sym, ℕ, List, get_or, length}
use Rattle.std.proofs.lemmas.Option.{slice_get_read}
use Rattle.std.specs.Prelude.{Option, Some, Err}
use Rattle.fault_list.specs.Answers.{Answers, IsInFile}
use Rattle.fault_list.specs.FaultLaws.{stopped_in_file}
use Rattle.fault_list.specs.Faults.{in_file}
use Rattle.name_index.specs.Names.{number_of}
use Rattle.name_table.specs.Files.{name_at, name_in}
use Rattle.tree_units.specs.Posets.{poset_place}
use Rattle.name_table.specs.declared.source.SourceFile.{SourceFile}
use Rattle.tree_units.specs.Ports as ports
use Rattle.value_type.specs.declared.port.Port.{Port}
use Rattle.name_table.proofs.ports.port_of.Goals as goal

pub returns-in-Err : goal.returns-in-Err
returns-in-Err c =
    let names = c.args.names.now in
    let tree = c.args.tree.now in
    let f = c.index-items-file.result in
    let same : number_of names.posets ≡ poset_place names.types = λ i name. names.indexed.posets_are name i in
    let item = subst (λ (files : List SourceFile). f ≡ get_or files c.args.file f) c.items.ensures c.index-items-file.is in
    let got : name_at names.files c.args.file ≡ f.name = ap name_in (slice_get_read names.files (length names.files) c.args.file f refl c.requires.file item) in
    let told : Answers {A = Port} (ports.port_faults (number_of names.posets) tree) (λ port. Some port ≡ ports.port_of (number_of names.posets) tree) (Err c.in-Err.stop) = c.in-Err.ensures in
    let placed = subst (λ (g : SourceFile). IsInFile g.name c.in-Err.stop c.in_file.result) (sym c.index-items-file.is) c.in_file.ensures in
    subst (λ (file : List ℕ). Answers {A = Port} (in_file file (ports.port_faults (poset_place names.types) tree)) (λ port. Some port ≡ ports.port_of (poset_place names.types) tree) (Err c.in_file.result)) (sym got)
    (subst (λ (find : List ℕ → Option ℕ). Answers {A = Port} (in_file f.name (ports.port_faults find tree)) (λ port. Some port ≡ ports.port_of find tree) (Err c.in_file.result)) same
    (stopped_in_file {A = Port} {B = Port} f.name (ports.port_faults (number_of names.posets) tree) (λ port. Some port ≡ ports.port_of (number_of names.posets) tree) (λ port. Some port ≡ ports.port_of (number_of names.posets) tree) c.in-Err.stop c.in_file.result told placed))
