use Rattle.std.proofs.Common.{rules}
use Rattle.row_values.specs.Cells as spec
use Rattle.row_values.proofs.FindsLemmas.{refused, name_left, name_missing}
use Rattle.row_values.proofs.table.cell.name_of_cell.Goals as goal

pub returns-in-Err : goal.returns-in-Err
returns-in-Err c = refused (spec.IsCut c.args.cell.now) (spec.IsName c.args.cell.now) c.in-Err.fault (λ y w. (w.tokens, w.cut)) c.in-Err.ensures

pub returns-then-left-gt0 : goal.returns-then-left-gt0
returns-then-left-gt0 c = name_left c.args.cell.now c.in-Ok.tokens c.of-lexemes.result c.in-Ok-name.name c.name.new.self c.in-Ok.ensures c.of-lexemes.ensures c.in-Ok-name.ensures (search rules)

pub returns-in-Err-Left : goal.returns-in-Err-Left
returns-in-Err-Left c = name_missing c.args.cell.now c.in-Ok.tokens c.of-lexemes.result c.in-Err-Left.field-0 c.in-Err-Left.field-0-0 c.in-Ok.ensures c.of-lexemes.ensures c.in-Err-Left.field-0-is c.in-Err-Left.ensures
