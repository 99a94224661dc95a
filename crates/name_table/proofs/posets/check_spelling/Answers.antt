use Rattle.std.proofs.Common.{refl}
use Rattle.fault_list.specs.FaultLaws.{none_in_file, stopped_in_file}
use Rattle.fault_list.specs.declared.fault.Stop.TheVariants as stop
use Rattle.name_rules.specs.Twice.{twice_faults}
use Rattle.name_rules.specs.Unknown.{unknown_faults}
use Rattle.name_table.proofs.SpellingLemmas.{first_noted, none_noted}
use Rattle.name_table.specs.NameFaults.{spelling_faults}
use Rattle.name_table.specs.Stems.{known_by}
use Rattle.name_table.proofs.posets.check_spelling.Goals as goal

pub returns-in-Some : goal.returns-in-Some
returns-in-Some c =
    let f = c.args.file.now in
    let known = known_by c.args.library.now in
    let first = first_noted (twice_faults f.tree) (unknown_faults known f.tree) _ c.note_twice_in_file.new.first c.note_unknown_in_file.new.first refl c.in_ok-note_twice_in_file.ensures c.in_ok-note_unknown_in_file.ensures c.in-Some.fault c.in-Some.is in
    stopped_in_file {A = Unit {0}} {B = Unit {0}} f.name (spelling_faults known f) (λ _. Unit {0}) (λ _. Unit {0}) (stop.At c.in-Some.fault) c.in_file.result first c.in_file.ensures

pub returns-in-None : goal.returns-in-None
returns-in-None c =
    let f = c.args.file.now in
    let known = known_by c.args.library.now in
    (none_in_file f.name (spelling_faults known f) (none_noted (twice_faults f.tree) (unknown_faults known f.tree) _ c.note_twice_in_file.new.first c.note_unknown_in_file.new.first refl c.in_ok-note_twice_in_file.ensures c.in_ok-note_unknown_in_file.ensures c.in-None.is), tt)
