use Rattle.std.proofs.Common.{◌≡◌, ◌++◌, drop, map, string_bytes}
use Rattle.report_text.proofs.JoinedLemmas.{left}
use Rattle.report_text.specs.Texts.{joined, part_texts, value_text}
use Rattle.report_text.proofs.value.+push.Given as goal

-- With what is left all of it was added.
abbrev pub invariant-push_parts-loop-at : goal.invariant-push_parts-loop-at
invariant-push_parts-loop-at l =
    string_bytes l.text ++ left l.at (part_texts (map (value_text l.types) (drop l.at l.kinds)) (drop l.at l.units) (drop l.at l.values))
    ≡ string_bytes l.initial.text ++ joined (part_texts (map (value_text l.types) l.kinds) l.units l.values)
