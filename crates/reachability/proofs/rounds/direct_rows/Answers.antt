use Rattle.reachability.proofs.RowLemmas.{pair_has_room, pair_put}
use Rattle.reachability.proofs.rounds.direct_rows.Goals as goal

pub insert-requires : goal.insert-requires
insert-requires c = pair_has_room c.args.n c.args.pairs.now c.loop-a.a-index c.loop-a-test.true c.requires.pairs _ c.loop-a.invariant _ c.index_mut.ensures.value

pub loop-a-preserved : goal.loop-a-preserved
loop-a-preserved c =
    pair_put c.args.n c.args.pairs.now c.loop-a.a-index c.loop-a-test.true c.requires.pairs _ c.loop-a.invariant _ c.index_mut.ensures.value c.insert.new.self c.insert.ensures.width c.insert.ensures.has
