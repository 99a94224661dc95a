use Rattle.std.proofs.Common.{subst, ℕ, List}
use Rattle.std.specs.Prelude.{Err}
use Rattle.csv.specs.Records.{fields_of}
use Rattle.row_values.proofs.RecordLemmas.{names_missing, names_next, names_refused}
use Rattle.row_values.specs.Cells.{Finds, IsName}
use Rattle.row_values.proofs.table.header.check_names.Goals as goal

pub returns-in-None : goal.returns-in-None
returns-in-None c = λ x are.
    names_missing c.args.ports.now (fields_of c.args.cells.now) c.args.from c.loop-at.at c.index-ports-at.result c.loop-at-test.true c.index-ports-at.is c.in-None.ensures.value (c.loop-at.invariant.1 are)

pub returns-in-Err : goal.returns-in-Err
returns-in-Err c =
    names_refused c.args.ports.now (fields_of c.args.cells.now) c.args.from c.loop-at.at c.index-ports-at.result c.loop-at-test.true c.index-ports-at.is c.in-Some.cell.now c.in-Some.ensures.value c.loop-at.invariant c.in-Err.fault
    (subst (λ (name : List ℕ). Finds {A = Unit {0}} (λ _. IsName c.in-Some.cell.now name) (Err c.in-Err.fault)) c.as_str.ensures c.in-Err.ensures)

pub loop-at-preserved : goal.loop-at-preserved
loop-at-preserved c =
    names_next c.args.ports.now (fields_of c.args.cells.now) c.args.from c.loop-at.at c.index-ports-at.result c.loop-at-test.true c.index-ports-at.is c.in-Some.cell.now c.in-Some.ensures.value c.loop-at.invariant
    (subst (λ (name : List ℕ). IsName c.in-Some.cell.now name) c.as_str.ensures c.in-Ok.ensures)
