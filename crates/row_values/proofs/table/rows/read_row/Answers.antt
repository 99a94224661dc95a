use Rattle.std.proofs.Common.{◌∙◌, ◌+◌, ap, refl, sym, ℕ, List}
use Rattle.std.specs.Prelude.{is_some}
use Rattle.csv.specs.Records.{fields_of}
use Rattle.fault_list.specs.declared.fault.FaultKind.TheVariants.{BadCell, RowWidth}
use Rattle.name_index.specs.Names.{number_of, with_name}
use Rattle.row_values.proofs.FindsLemmas.{never_at}
use Rattle.row_values.proofs.TableLemmas.{bad_row, kept_more, repeated}
use Rattle.row_values.specs.Tables.{RecordIs}
use Rattle.row_values.specs.declared.table.kept.KeptRows.{KeptRows}
use Rattle.row_values.proofs.table.rows.read_row.Goals as goal

pub returns-then-not-is_wide : goal.returns-then-not-is_wide
returns-then-not-is_wide c = λ header records so.
    let t = c.args.columns.now.types.now in
    let provides = c.args.columns.now.provides.now in
    let requires_ = c.args.columns.now.requires_.now in
    let kept = c.args.kept.now in
    let cells = fields_of c.args.cells.now in
    rw c.bad_record.ensures (bad_row t provides requires_ header records kept so c.requires.header cells RowWidth (c.len.result + 1) (ap (λ (n : ℕ). n + 1) (c.len.ensures ∙ kept.rows.ok.0)) (sym c.is_wide.ensures ∙ c.if-not-is_wide.true))

pub returns-in-Err-Bad : goal.returns-in-Err-Bad
returns-in-Err-Bad c = λ header records so.
    let t = c.args.columns.now.types.now in
    let provides = c.args.columns.now.provides.now in
    let requires_ = c.args.columns.now.requires_.now in
    let kept = c.args.kept.now in
    let cells = fields_of c.args.cells.now in
    let wide = sym c.is_wide.ensures ∙ c.if-not-is_wide.false in
    let never = never_at (RecordIs t provides requires_ cells) c.in-Err-Bad.field-0 c.in-Err-Bad.field-0-is c.in-Err-Bad.ensures in
    rw c.bad_record-in-Err-Bad.ensures (bad_row t provides requires_ header records kept so c.requires.header cells BadCell (c.len.result + 1) (ap (λ (n : ℕ). n + 1) (c.len.ensures ∙ kept.rows.ok.0)) (wide, λ w. never w.0 w.1.means))

pub returns-then-is_some : goal.returns-then-is_some
returns-then-is_some c = λ header records so.
    let t = c.args.columns.now.types.now in
    let provides = c.args.columns.now.provides.now in
    let requires_ = c.args.columns.now.requires_.now in
    let kept = c.args.kept.now in
    let cells = fields_of c.args.cells.now in
    let wide = sym c.is_wide.ensures ∙ c.if-not-is_wide.false in
    let there = ap (λ (name : List ℕ). is_some (number_of kept.names name)) (sym c.as_str.ensures) ∙ ap is_some (sym c.in_ok-add.ensures.before) ∙ sym c.is_some.ensures ∙ c.if-is_some.true in
    rw c.bad_record-then-is_some.ensures (bad_row t provides requires_ header records kept so c.requires.header cells BadCell (c.len.result + 1) (ap (λ (n : ℕ). n + 1) (c.len.ensures ∙ kept.rows.ok.0))
    (wide, repeated t provides requires_ header records kept so c.requires.header cells c.in-Ok.row c.in-Ok.ensures there))

pub returns : goal.returns
returns c = λ header records so.
    let t = c.args.columns.now.types.now in
    let provides = c.args.columns.now.provides.now in
    let requires_ = c.args.columns.now.requires_.now in
    let kept = c.args.kept.now in
    let cells = fields_of c.args.cells.now in
    let wide = sym c.is_wide.ensures ∙ c.if-not-is_wide.false in
    let new = ap (λ (name : List ℕ). is_some (number_of kept.names name)) (sym c.as_str.ensures) ∙ ap is_some (sym c.in_ok-add.ensures.before) ∙ sym c.is_some.ensures ∙ c.if-is_some.false in
    let after : KeptRows = record { header = kept.header; rows = c.push.new.self; names = c.add.new.self } in
    kept_more t provides requires_ header records kept so c.requires.header cells after c.in-Ok.row wide c.in-Ok.ensures new refl c.in_ok-push.ensures.items (c.in_ok-add.ensures.names ∙ ap (λ (name : List ℕ). with_name kept.names name 0) c.as_str.ensures)
