use Rattle.std.proofs.Common.{◌≡◌, ◌∙◌, ap, sym}
use Rattle.std.proofs.lemmas.Result.{err_from_is_err_and}
use Rattle.fault_list.specs.AnswersLaws.{stopped_same}
use Rattle.fault_list.specs.FaultLaws.{stopped_in_file}
use Rattle.fault_list.specs.Faults.{in_file}
use Rattle.fault_list.specs.AnswersLaws.{stopped_none}
use Rattle.unit_check.specs.Held.{ports_held}
use Rattle.unit_check.specs.PortLaws.{scope_none}
use Rattle.unit_check.specs.Rules.{rules_faults}
use Rattle.unit_check.specs.Scopes.{scope_at}
use Rattle.unit_check.specs.TypeFaults.{file_rule_faults, rules_of, scope_faults}
use Rattle.unit_check.specs.declared.scope.Scope.{Scope}
use Rattle.unit_check.proofs.types.check_file.Goals as goal

pub returns-in_err-scope-clause-answer : goal.returns-in_err-scope-clause-answer
returns-in_err-scope-clause-answer c =
    let names = c.args.names.now in
    let i = c.args.number in
    let f = c.args.file.now in
    let p = err_from_is_err_and c.from_residual.result c.from_residual.ensures.1 in
    rw (p.1, p.2) (stopped_none {A = Scope} {B = Unit {0}} (scope_faults names.files names.types i f.tree) (file_rule_faults names.files names.types i f) (λ scope. ports_held scope ≡ scope_at names.files names.types i f.tree) (λ _. Unit {0}) c.in_err-scope.field-0.0
    (scope_none names.files names.types c.requires.ports i f.tree) (c.in_err-scope.ensures.answer f c.requires.number))

pub returns-in-Ok-clause-answer : goal.returns-in-Ok-clause-answer
returns-in-Ok-clause-answer c =
    let types = c.args.names.now.types in
    let f = c.args.file.now in
    let scope = (c.in_ok-scope.ensures.answer f c.requires.number).1 in
    let rules = c.rules_of-rules.ensures in
    (ap (in_file f.name) ((λ j. rules_faults types (sym scope j) (sym rules j)) ∙ c.in-Ok.ensures.0), tt)

pub returns-clause-answer : goal.returns-clause-answer
returns-clause-answer c =
    let names = c.args.names.now in
    let i = c.args.number in
    let f = c.args.file.now in
    let scope = (c.in_ok-scope.ensures.answer f c.requires.number).1 in
    let rules = c.rules_of-rules.ensures in
    let faults = rules_faults names.types (scope_at names.files names.types i f.tree) (rules_of f.tree) in
    stopped_in_file {A = Unit {0}} {B = Unit {0}} f.name faults (λ _. Unit {0}) (λ _. Unit {0}) c.in-Err.stop c.in_file.result
    (stopped_same {A = Unit {0}} {B = Unit {0}} (rules_faults names.types (ports_held c.in_ok-scope.scope) c.rules_of-rules.result.now) faults (λ _. Unit {0}) (λ _. Unit {0}) c.in-Err.stop
    (λ j. rules_faults names.types (sym scope j) (sym rules j)) c.in-Err.ensures) c.in_file.ensures
