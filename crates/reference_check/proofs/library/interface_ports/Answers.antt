use Rattle.std.proofs.Common.{◌∙◌, ap, arith, sym}
use Rattle.fault_list.specs.AnswersLaws.{answers_weaker}
use Rattle.name_index.specs.PlaceLaws.{position_below}
use Rattle.side_ports.specs.Sides.{sides_of}
use Rattle.unit_check.specs.Declaring.{declaring, ports_of}
use Rattle.unit_check.specs.PortLaws.{declared_none}
use Rattle.reference_check.proofs.library.interface_ports.Goals as goal

pub ports-requires-clause-file : goal.ports-requires-clause-file
ports-requires-clause-file c = let below = position_below _ 0 c.args.names.now.files c.in-Some.file (sym c.in-Some.ensures) in omega (arith, below)

pub returns-in-Some-clause-answer : goal.returns-in-Some-clause-answer
returns-in-Some-clause-answer c =
    let files = c.args.names.now.files in
    let types = c.args.names.now.types in
    answers_weaker _ _ _ _ c.ports.result (declared_none files types c.requires.ports (declaring files c.in-Some.file)) (λ ports h. h ∙ ap (λ o. sides_of types (ports_of files o)) c.in-Some.ensures) c.ports.ensures.answer
