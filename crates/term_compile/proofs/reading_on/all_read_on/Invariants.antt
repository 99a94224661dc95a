use Rattle.std.proofs.Common.{◌≡◌, List, ◌++◌}
use Rattle.compiled_term.specs.Stages.{ReadOn, all_read_on}
use Rattle.design_model.specs.declared.expr.Constraint.{Constraint}
use Rattle.term_compile.proofs.reading_on.all_read_on.Given as goal

-- these constraints, and then what is left
abbrev pub with_before : List Constraint → ReadOn → ReadOn
with_before waiting rest = record { waiting = waiting ++ rest.waiting; made = rest.made }

-- The constraints so far, followed by those left, are all of them.
abbrev pub invariant-loop-constraint : goal.invariant-loop-constraint
invariant-loop-constraint l =
    all_read_on l.frame l.fn.constraints.items l.initial.made.items
    ≡ with_before l.waiting.items (all_read_on l.frame l.constraint-iterator.rest.items l.made.items)
