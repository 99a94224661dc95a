use Rattle.std.specs.Prelude.{[]}
use Rattle.design_model.specs.Wiring as wiring
use Rattle.unit_check.proofs.TypedLemmas.{above_typed, readable_typed, rules_typed}
use Rattle.unit_check.specs.Constraints.{constraints_of, scope_wiring}
use Rattle.unit_check.specs.Scopes.{readable}
use Rattle.unit_check.proofs.laws.rules_are_typed.Goals as goal

pub returns-clause-one : goal.returns-clause-one
returns-clause-one c = λ types scope place tree named none.
    let kinds = wiring.readable (scope_wiring scope []) in
    let w = above_typed types scope [] (c.expressions_have_meanings_or_faults.ensures.meaning types (readable scope)) (c.expressions_are_typed.ensures types kinds (readable scope) named (readable_typed types scope [])) place tree none in
    (w.0, w.1)

pub returns-clause-each : goal.returns-clause-each
returns-clause-each c = λ types scope rules named none.
    let constraints = constraints_of types scope rules in
    let kinds = wiring.readable (scope_wiring scope constraints) in
    rules_typed types scope constraints (c.expressions_have_meanings_or_faults.ensures.meaning types (readable scope)) (c.expressions_are_typed.ensures types kinds (readable scope) named (readable_typed types scope constraints)) rules none
