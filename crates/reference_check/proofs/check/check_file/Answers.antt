use Rattle.std.proofs.Common.{◌∙◌, map, sym}
use Rattle.fault_list.specs.AnswersLaws.{stopped_same}
use Rattle.fault_list.specs.FaultLaws.{none_in_file, stopped_in_file}
use Rattle.reference_check.proofs.FrontLemmas.{file_faults}
use Rattle.reference_check.specs.Fronts.{fronts_held, wanted_held}
use Rattle.reference_check.specs.LibraryFronts.{front_of, tree_faults, wanted_of}
use Rattle.reference_rules.specs.ReferenceFaults.{reference_faults}
use Rattle.unit_check.specs.Declaring.{params_of}
use Rattle.reference_check.proofs.check.check_file.Goals as goal

pub returns-in-Ok : goal.returns-in-Ok
returns-in-Ok c =
    let files = c.args.names.now.files in
    let types = c.args.names.now.types in
    let f = c.args.file.now in
    let faults = tree_faults (front_of files types) (map (wanted_of files types) (params_of f.tree)) f.tree in
    (none_in_file f.name faults (sym (file_faults files types c.args.fronts.now c.requires.fronts c.args.number f c.in-Some-front_at.own.now c.in-Some.body.now c.requires.number (sym c.in-Some-front_at.ensures) (sym c.in-Some.ensures)) ∙ c.in-Ok.ensures.0), tt)

pub returns-in-Err : goal.returns-in-Err
returns-in-Err c =
    let files = c.args.names.now.files in
    let types = c.args.names.now.types in
    let f = c.args.file.now in
    let own = c.in-Some-front_at.own.now in
    let b = c.in-Some.body.now in
    let faults = tree_faults (front_of files types) (map (wanted_of files types) (params_of f.tree)) f.tree in
    stopped_in_file {A = Unit {0}} {B = Unit {0}} f.name faults (λ _. Unit {0}) (λ _. Unit {0}) c.in-Err.stop c.in_file.result
    (stopped_same {A = Unit {0}} {B = Unit {0}} (reference_faults (fronts_held files c.args.fronts.now) (map wanted_held own.wanted) b) faults (λ _. Unit {0}) (λ _. Unit {0}) c.in-Err.stop
    (sym (file_faults files types c.args.fronts.now c.requires.fronts c.args.number f own b c.requires.number (sym c.in-Some-front_at.ensures) (sym c.in-Some.ensures))) c.in-Err.ensures) c.in_file.ensures
