use Rattle.std.proofs.Common.{◌≡◌, ◌∙◌, ◌<◌, [], sym, ap, length, arith, get_or}
use Rattle.std.proofs.lemmas.Bool.{cond-true, cond-false}
use Rattle.std.proofs.lemmas.List.{get_or_default}
use Rattle.reachability.specs.Rounds.{passed}
use Rattle.reachability.proofs.RoundLemmas.{row_passed}
use Rattle.reachability.proofs.rounds.pass.Goals as goal
use Rattle.reachability.proofs.rounds.pass.Goals.{then-has, else-has}

pub loop-row-preserved : goal.loop-row-preserved
loop-row-preserved c =
    let rows = c.loop-row.rows in
    let at = c.loop-row.row-index in
    let within : at < length rows = omega arith in
    let item : get_or rows at [] ≡ get_or rows at c.row-item.result = get_or_default rows at [] _ within in
    let f = passed c.args.through c.args.beyond.now in
    elim c.if-has.branch [
      | then-has w ↦
          w.rows-is
          ∙ row_passed f _ _ _ _ within c.loop-row-test.true c.loop-row.invariant (ap f item ∙ cond-true _ _ _ (sym c.has.ensures ∙ w.if-has.true) ∙ sym w.unite.ensures)
      | else-has w ↦
          w.rows-is
          ∙ row_passed f _ _ _ _ within c.loop-row-test.true c.loop-row.invariant (ap f item ∙ cond-false _ _ _ (sym c.has.ensures ∙ w.if-has.false))
    ]
