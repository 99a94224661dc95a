use Rattle.std.proofs.Common.{◌∙◌, refl, sym}
use Rattle.csv.specs.Records.{fields_of}
use Rattle.row_values.proofs.FindsLemmas.{never_at}
use Rattle.row_values.specs.Tables.{HeaderIs}
use Rattle.row_values.proofs.table.rows.judged.Goals as goal

pub returns-in-Err-Bad : goal.returns-in-Err-Bad
returns-in-Err-Bad c =
    (refl, (sym c.is_wide.ensures ∙ c.if-not-is_wide.false, never_at {A = Unit {0}} (λ _. HeaderIs c.args.columns.now.provides.now c.args.columns.now.requires_.now (fields_of c.args.cells.now)) c.in-Err-Bad.field-0 c.in-Err-Bad.field-0-is c.in-Err-Bad.ensures tt))
