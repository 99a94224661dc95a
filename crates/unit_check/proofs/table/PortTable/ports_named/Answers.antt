use Rattle.std.proofs.Common.{◌≡◌, ◌∙◌, ap, sym, ℕ}
use Rattle.std.specs.Prelude.{Option, None}
use Rattle.side_ports.specs.Sides.{sides_of}
use Rattle.unit_check.specs.Declaring.{named_file, ports_of}
use Rattle.unit_check.specs.PortLaws.{named_file_below}
use Rattle.unit_check.specs.TypeFaults.{named_faults}
use Rattle.unit_check.proofs.table.PortTable.ports_named.Goals as goal

pub ports-requires-clause-file : goal.ports-requires-clause-file
ports-requires-clause-file c = named_file_below c.args.names.now.files c.args.params.now.trees.now c.args.name.now c.in-Some.file (sym c.file.ensures ∙ c.in-Some.is)

pub returns-in_ok-no_ports-in-None-clause-answer : goal.returns-in_ok-no_ports-in-None-clause-answer
returns-in_ok-no_ports-in-None-clause-answer c =
    let files = c.args.names.now.files in
    let types = c.args.names.now.types in
    let none : named_file files c.args.params.now.trees.now c.args.name.now ≡ None = sym c.file.ensures ∙ c.in-None.is in
    (ap (named_faults files types) none, c.in_ok-no_ports-in-None.ensures ∙ ap (λ (o : Option ℕ). sides_of types (ports_of files o)) (sym none))
