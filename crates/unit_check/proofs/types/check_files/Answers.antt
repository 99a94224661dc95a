use Rattle.std.proofs.Common.{◌≡◌, ◌<◌, ◌∙◌, ◌+◌, ◌++◌, ap, drop, get_or, length, List, subst}
use Rattle.std.proofs.lemmas.Result.{err_from_is_err_and}
use Rattle.fault_list.specs.AnswersLaws.{stopped_left}
use Rattle.fault_list.specs.declared.fault.FileFault.{FileFault}
use Rattle.name_table.specs.declared.source.SourceFile.{SourceFile}
use Rattle.unit_check.proofs.ScopeLemmas.{rules_next}
use Rattle.unit_check.specs.TypeFaults.{file_rule_faults, rule_faults_from}
use Rattle.unit_check.proofs.types.check_files.Goals as goal

pub returns-in_err-check_file-clause-answer : goal.returns-in_err-check_file-clause-answer
returns-in_err-check_file-clause-answer c =
    let files = c.args.names.now.files in
    let types = c.args.names.now.types in
    let k = c.loop-number.number in
    let f = c.file-item.result in
    let inside = subst (λ (fs : List SourceFile). k < length fs) c.items-file-items.ensures c.loop-number-test.true in
    let is : f ≡ get_or files k f = c.file-item.is ∙ ap (λ (fs : List SourceFile). get_or fs k f) c.items-file-items.ensures in
    let all = rule_faults_from files types 0 files in
    let p = err_from_is_err_and c.from_residual.result c.from_residual.ensures.1 in
    rw (p.1, p.2) (stopped_left {A = Unit {0}} {B = Unit {0}} (file_rule_faults files types k f) (rule_faults_from files types (k + 1) (drop (k + 1) files)) all (λ _. Unit {0}) (λ _. Unit {0}) c.in_err-check_file.field-0.0
    (rules_next files types all k f inside is c.loop-number.invariant.1) c.in_err-check_file.ensures.answer)

pub loop-number-preserved : goal.loop-number-preserved
loop-number-preserved c =
    let files = c.args.names.now.files in
    let types = c.args.names.now.types in
    let k = c.loop-number.number in
    let f = c.file-item.result in
    let inside = subst (λ (fs : List SourceFile). k < length fs) c.items-file-items.ensures c.loop-number-test.true in
    let is : f ≡ get_or files k f = c.file-item.is ∙ ap (λ (fs : List SourceFile). get_or fs k f) c.items-file-items.ensures in
    let all = rule_faults_from files types 0 files in
    let rest = rule_faults_from files types (k + 1) (drop (k + 1) files) in
    (c.check_file.ensures.table, rules_next files types all k f inside is c.loop-number.invariant.1 ∙ ap (λ (fs : List FileFault). fs ++ rest) c.in_ok-check_file.ensures.answer.0)
