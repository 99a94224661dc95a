use Rattle.std.proofs.Common.{ap, Err}
use Rattle.library_load.proofs.StageLemmas.{files_some}
use Rattle.library_load.proofs.stages.linked.Goals as goal

pub unreachable-requires : goal.unreachable-requires
unreachable-requires c =
    let names = c.args.names.now in
    let found = c.in-Err-Unresolved.ensures.unresolved (ap Err c.in-Err-Unresolved.field-0-is) in
    c.references_are_resolved.ensures (files_some names.tables names.types names.files c.args.rows c.requires.rows) c.requires.references found.0 found.1 found.2
