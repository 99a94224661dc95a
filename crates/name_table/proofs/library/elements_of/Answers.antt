use Rattle.name_table.proofs.KnownLemmas.{pointwise_next}
use Rattle.name_table.specs.Stems.{AreElementsOf}
use Rattle.name_table.proofs.library.elements_of.Goals as goal

pub loop-file-preserved : goal.loop-file-preserved
loop-file-preserved c =
    rw c.in_ok-push.ensures.items (pointwise_next AreElementsOf c.args.files.now c.loop-file.file-index c.file-item.result c.loop-file.elements.items _ c.loop-file-test.true c.file-item.is c.loop-file.invariant c.in_ok-names.ensures)
