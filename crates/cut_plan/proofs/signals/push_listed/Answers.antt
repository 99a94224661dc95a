use Rattle.std.proofs.Common.{◌≡◌, ◌++◌, [], ◌∷◌, true, false, sym, ◌∙◌, append_assoc, rules}
use Rattle.cut_plan.specs.CutReads.{is_listed}
use Rattle.cut_plan.proofs.CutLaws.{ports_step}
use Rattle.cut_plan.proofs.signals.push_listed.Goals as goal
use Rattle.cut_plan.proofs.signals.push_listed.Goals.{else-is_listed-via-then-is_listed+else-is_err, else-is_listed-via-else-is_listed}

pub loop-port-preserved : goal.loop-port-preserved
loop-port-preserved c =
    let step = ports_step c.args.listed.now c.args.part c.loop-port.port c.args.count c.loop-port-test.true in
    elim c.else-is_listed.branch [
      | else-is_listed-via-then-is_listed+else-is_err w ↦
          let listed : is_listed c.args.listed.now c.args.part c.loop-port.port ≡ true = sym c.is_listed.ensures ∙ w.if-is_listed.true in
          let more = rw listed at step in
          let grown : c.else-is_listed.into.items ≡ c.loop-port.into.items ++ record { part = c.args.part; port = c.loop-port.port } ∷ [] = search rules in
          rw (grown, append_assoc, ← more) c.loop-port.invariant
      | else-is_listed-via-else-is_listed w ↦
          let listed : is_listed c.args.listed.now c.args.part c.loop-port.port ≡ false = sym c.is_listed.ensures ∙ w.if-is_listed.false in
          let more = rw listed at step in
          rw (w.into-is, ← more) c.loop-port.invariant
    ]
