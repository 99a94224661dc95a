use Rattle.std.proofs.Common.{sym}
use Rattle.design_world.proofs.Finding.{first_named-files, is_found}
use Rattle.design_world.proofs.memory.folder.MemoryFolderFolder.read.Goals as goal

pub unreachable-requires : goal.unreachable-requires
unreachable-requires c =
    let nothing = rw c.in_default.is at (sym c.first_named.ensures) in
    is_found c.items-2.result.now c.as_str.result.now nothing (rw (c.items-2.ensures, c.as_str.ensures) c.requires.there)

pub returns-clause-content : goal.returns-clause-content
returns-clause-content c =
    let found = rw c.in-Some.is at (sym c.first_named.ensures) in
    let first = first_named-files c.items-2.result.now c.as_str.result.now c.in-Some.file.now found in
    let named = rw (c.items-2.ensures, c.as_str.ensures) at first in
    rw named c.in_ok-content.ensures
