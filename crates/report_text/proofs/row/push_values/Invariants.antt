use Rattle.std.proofs.Common.{◌≡◌, ◌++◌, drop, string_bytes}
use Rattle.report_text.proofs.JoinedLemmas.{left}
use Rattle.report_text.specs.Texts.{joined, value_texts}
use Rattle.report_text.proofs.row.push_values.Given as goal

-- With what is left all of it was added.
abbrev pub invariant-loop-at : goal.invariant-loop-at
invariant-loop-at l =
    string_bytes l.text ++ left l.at (value_texts l.types (drop l.at l.ports) (drop l.at l.values))
    ≡ string_bytes l.initial.text ++ joined (value_texts l.types l.ports l.values)
