use Rattle.std.proofs.Common.{◌≡◌, ◌++◌, drop, map, string_bytes}
use Rattle.report_text.proofs.JoinedLemmas.{left}
use Rattle.report_text.specs.Texts.{element_name, joined}
use Rattle.report_text.proofs.element.push_names.Given as goal

-- With what is left all of it was added.
abbrev pub invariant-loop-at : goal.invariant-loop-at
invariant-loop-at l =
    string_bytes l.text ++ left l.at (map (element_name l.poset) (drop l.at l.members))
    ≡ string_bytes l.initial.text ++ joined (map (element_name l.poset) l.members)
