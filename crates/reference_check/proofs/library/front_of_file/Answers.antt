use Rattle.std.proofs.Common.{◌≡◌, ◌∙◌, sym, [], Some}
use Rattle.std.proofs.lemmas.Result.{err_from_is_err_and}
use Rattle.fault_list.specs.AnswersLaws.{stopped_none}
use Rattle.reference_check.proofs.FrontLemmas.{wanted_numbered}
use Rattle.reference_check.specs.Fronts.{front_in}
use Rattle.reference_check.specs.LibraryFronts.{front_at}
use Rattle.side_ports.specs.Held.{sides_held}
use Rattle.side_ports.specs.Sides.{sides_of}
use Rattle.unit_check.specs.Declaring.{declaring, ports_at}
use Rattle.unit_check.specs.PortLaws.{declared_none}
use Rattle.unit_check.specs.TypeFaults.{declared_faults}
use Rattle.reference_check.proofs.library.front_of_file.Goals as goal

pub returns-in_err-ports-clause-answer : goal.returns-in_err-ports-clause-answer
returns-in_err-ports-clause-answer c =
    let files = c.args.names.now.files in
    let types = c.args.names.now.types in
    let i = c.args.number in
    let p = err_from_is_err_and c.from_residual-in_err-ports.result c.from_residual-in_err-ports.ensures.1 in
    rw (p.1, p.2) (stopped_none (declared_faults files types (declaring files i)) [] (λ ports. sides_held ports ≡ sides_of types (ports_at files i)) (λ made. front_in (Some made) ≡ front_at files types i c.args.tree.now) c.in_err-ports.field-0.0
    (declared_none files types c.requires.ports (declaring files i)) c.in_err-ports.ensures.answer)

pub invariant_of-result : goal.invariant_of-result
invariant_of-result c = record {
  numbered = λ name. c.in_ok-numbers.ensures name ∙ sym (wanted_numbered c.args.names.now.files c.args.names.now.types c.params_of-params.result.now c.in_ok-wanted.wanted name c.in_ok-wanted.ensures.answer.1);
}
