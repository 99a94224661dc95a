use Rattle.std.proofs.Common.{◌≡◌, arith, rules}
use Rattle.std.proofs.lemmas.Grind.{common_steps}
use Rattle.std.specs.Prelude.{codes}
use Rattle.report_text.proofs.TextLemmas.{no_ports_row, no_values_row, row_joined}
use Rattle.report_text.specs.Texts.{row_text}
use Rattle.report_text.proofs.row.push_row.Goals as goal
use Rattle.report_text.proofs.row.push_row.Goals.{then-is_empty-via-then-is_empty, then-is_empty-via-else-is_empty+then-is_empty-2}

pub returns-then-is_empty : goal.returns-then-is_empty
returns-then-is_empty c =
    let none : row_text c.args.types.now c.args.ports.now c.args.values.now ≡ codes "()" = elim c.then-is_empty.branch [
      | then-is_empty-via-then-is_empty w ↦ no_ports_row c.args.types.now c.args.ports.now c.args.values.now (grind (arith, common_steps))
      | then-is_empty-via-else-is_empty+then-is_empty-2 w ↦ no_values_row c.args.types.now c.args.ports.now c.args.values.now (grind (arith, common_steps))
    ] in
    rw none (search rules)

pub returns : goal.returns
returns c =
    let some = row_joined c.args.types.now c.args.ports.now c.args.values.now (grind (arith, common_steps)) (grind (arith, common_steps)) in
    rw some c.push_values.ensures
