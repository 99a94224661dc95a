use Rattle.name_index.specs.PlaceLaws.{places_more}
use Rattle.value_type.specs.declared.poset.Poset.{Poset}
use Rattle.name_table.proofs.posets.poset_names.Goals as goal

pub loop-at-preserved : goal.loop-at-preserved
loop-at-preserved c =
    λ name. rw (c.in_ok-add.ensures.names, c.as_str.ensures) (places_more (λ (p : Poset). p.name) c.args.posets.now c.loop-at.at c.index-posets-at.result c.loop-at-test.true c.index-posets-at.is c.loop-at.names c.loop-at.invariant name)
