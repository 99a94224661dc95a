use Rattle.std.proofs.Common.{◌∙◌}
use Rattle.reachability.proofs.BitSetLemmas.{united_word}
use Rattle.reachability.proofs.bits.BitSet.unite.Goals as goal

pub loop-at-preserved : goal.loop-at-preserved
loop-at-preserved c =
    let others = c.as_slice-word-items.ensures.value ∙ c.other.view_is in
    united_word c.args.self.now c.args.other.now _ _ c.loop-at.at _ c.requires c.loop-at.invariant others c.loop-at-test.true c.index_mut.ensures.value
