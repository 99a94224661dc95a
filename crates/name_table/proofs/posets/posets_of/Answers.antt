use Rattle.std.proofs.Common.{refl, take}
use Rattle.std.specs.List.{flat_map}
use Rattle.name_table.proofs.StemLemmas.{left_next}
use Rattle.name_table.specs.Library.{ArePosets}
use Rattle.name_table.specs.NameFaults.{file_faults}
use Rattle.name_table.specs.Stems.{known_by}
use Rattle.name_table.proofs.posets.posets_of.Goals as goal

pub loop-file-preserved : goal.loop-file-preserved
loop-file-preserved c =
    let known = known_by c.args.library.now in
    let files = c.args.files.now in
    let i = c.loop-file.file-index in
    let f = c.file-item.result in
    let told = c.in_ok-add_file.ensures (take i files) c.loop-file.invariant.1 in
    left_next (λ before rest. flat_map (file_faults known) rest) (λ before g. file_faults known g) ArePosets (λ _ _ _. refl) files i f c.loop-file-test.true c.file-item.is c.loop-file.posets.items c.add_file.new.posets.items c.loop-file.invariant told.0 told.1
