use Rattle.std.proofs.Common.{◌∙◌}
use Rattle.unit_check.specs.Constraints.{constraints_of}
use Rattle.module_link.proofs.body.file_constraints.Goals as goal

pub returns-in-Ok-constraints_of-clause-constraints : goal.returns-in-Ok-constraints_of-clause-constraints
returns-in-Ok-constraints_of-clause-constraints c =
    let types = c.args.names.now.types in
    let scope = (c.in-Ok.ensures.answer c.args.file.now c.requires.number).1 in
    c.in-Ok-constraints_of.ensures.1 ∙ (λ i. constraints_of types (scope i) (c.requires.rules i))
