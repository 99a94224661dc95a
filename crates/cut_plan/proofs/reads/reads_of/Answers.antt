use Rattle.std.proofs.Common.{◌≡◌, ◌++◌, [], ◌∷◌, append_assoc, rules}
use Rattle.cut_plan.proofs.ReadLemmas.{table_step}
use Rattle.cut_plan.proofs.reads.reads_of.Goals as goal

pub loop-part-preserved : goal.loop-part-preserved
loop-part-preserved c =
    let grown : c.push.new.self.items ≡ c.loop-part.table.items ++ c.in_ok-reads_into.field-0 ∷ [] = search rules in
    let step = table_step c.args.constraints.now c.loop-part.part c.args.count c.loop-part-test.true in
    rw (grown, append_assoc, c.in_ok-reads_into.ensures, ← step) c.loop-part.invariant
