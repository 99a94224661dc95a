use Rattle.name_rules.specs.Unknown.{type_unknown}
use Rattle.name_rules.proofs.NoteLemmas.{left_next}
use Rattle.name_rules.proofs.UnknownLemmas.{of-Product}
use Rattle.name_rules.proofs.unknown.types.+types.Goals as goal

pub note_unknown_type-returns-in-Product : goal.note_unknown_type-returns-in-Product
note_unknown_type-returns-in-Product g t c = rw (c.in-Product.is, of-Product, ← c.items-in-Product.ensures) c.note_unknown_types.ensures

pub note_unknown_types-loop-tree-preserved : goal.note_unknown_types-loop-tree-preserved
note_unknown_types-loop-tree-preserved g t c =
    left_next (type_unknown (g.L.Library.known c.args.library.now)) c.args.trees.now c.loop-tree.tree-index c.tree-item.result c.loop-tree-test.true c.tree-item.is
    c.loop-tree.first c.note_unknown_type.new.first _ c.loop-tree.invariant c.note_unknown_type.ensures
