use Rattle.std.proofs.Common.{◌≡◌, ◌<◌, ◌∙◌, ◌+◌, ◌++◌, ap, drop, length, List, subst}
use Rattle.std.proofs.lemmas.Result.{err_from_is_err_and}
use Rattle.std.specs.List.{flat_map}
use Rattle.std.specs.Prelude.{slice_get}
use Rattle.fault_list.specs.AnswersLaws.{stopped_left}
use Rattle.fault_list.specs.declared.fault.FileFault.{FileFault}
use Rattle.name_table.specs.declared.source.SourceFile.{SourceFile}
use Rattle.side_ports.specs.Held.{sides_held}
use Rattle.side_ports.specs.Sides.{sides_of}
use Rattle.side_ports.specs.declared.ports.SidePorts.{SidePorts}
use Rattle.unit_check.proofs.ScopeLemmas.{ports_next}
use Rattle.unit_check.specs.Declaring.{tree_ports}
use Rattle.unit_check.specs.TypeFaults.{declared_faults, file_port_faults}
use Rattle.unit_check.proofs.types.check_ports.Goals as goal

pub returns-in_err-declared-clause-answer : goal.returns-in_err-declared-clause-answer
returns-in_err-declared-clause-answer c =
    let names = c.args.names.now in
    let k = c.loop-number.number in
    let inside = subst (λ (fs : List SourceFile). k < length fs) c.items-items.ensures c.loop-number-test.true in
    let all = flat_map (file_port_faults names.types) names.files in
    let rest = flat_map (file_port_faults names.types) (drop (k + 1) names.files) in
    let p = err_from_is_err_and c.from_residual.result c.from_residual.ensures.1 in
    rw (p.1, p.2) (stopped_left {A = SidePorts} {B = Unit {0}} (declared_faults names.files names.types k) rest all (λ ports. sides_held ports ≡ sides_of names.types (tree_ports (slice_get names.files k))) (λ _. Unit {0}) c.in_err-declared.field-0.0
    (ports_next names.files names.types all k inside c.loop-number.invariant.1) c.in_err-declared.ensures.answer)

pub loop-number-preserved : goal.loop-number-preserved
loop-number-preserved c =
    let names = c.args.names.now in
    let k = c.loop-number.number in
    let inside = subst (λ (fs : List SourceFile). k < length fs) c.items-items.ensures c.loop-number-test.true in
    let all = flat_map (file_port_faults names.types) names.files in
    let rest = flat_map (file_port_faults names.types) (drop (k + 1) names.files) in
    (c.declared.ensures.table, ports_next names.files names.types all k inside c.loop-number.invariant.1 ∙ ap (λ (fs : List FileFault). fs ++ rest) c.in_ok-declared.ensures.answer.0)
