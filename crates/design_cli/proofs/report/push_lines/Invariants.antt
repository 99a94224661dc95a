use Rattle.std.proofs.Common.{◌≡◌, ◌++◌, take, string_bytes}
use Rattle.std.specs.List.{flat_map}
use Rattle.design_cli.specs.Report.{line}
use Rattle.design_cli.proofs.report.push_lines.Given as goal

-- The lines so far were added.
abbrev pub invariant-loop-row : goal.invariant-loop-row
invariant-loop-row l = string_bytes l.text ≡ string_bytes l.initial.text ++ flat_map (line l.types l.ports) (take l.row-index l.rows)
