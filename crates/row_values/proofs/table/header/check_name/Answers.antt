use Rattle.std.proofs.Common.{◌≡◌, ◌∙◌, sym}
use Rattle.std.proofs.lemmas.Slice.Eq.{bytes_eq-Decides}
use Rattle.row_values.proofs.FindsLemmas.{name_same, refused}
use Rattle.row_values.specs.Cells.{IsName}
use Rattle.row_values.proofs.table.header.check_name.Goals as goal

pub returns-in-Ok : goal.returns-in-Ok
returns-in-Ok c = λ x is.
    let name = c.args.name.now in
    let cell = c.args.cell.now in
    let same : name ≡ c.as_str.result.now = name_same cell name c.in-Ok.found is c.in-Ok.ensures ∙ sym c.as_str.ensures in
    let yes = (bytes_eq-Decides name c.as_str.result.now).1 same in
    let off = sym c.eq.ensures ∙ c.if-eq.false in
    absurd (cc)

pub returns : goal.returns
returns c = refused (IsName c.args.cell.now) (λ (x : Unit {0}). IsName c.args.cell.now c.args.name.now) c.in-Err.fault (λ y q. (c.args.name.now, q)) c.in-Err.ensures
