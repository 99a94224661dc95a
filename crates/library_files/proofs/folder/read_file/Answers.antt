use Rattle.std.proofs.Common.{subst}
use Rattle.design_world.specs.Files.{GivesContent}
use Rattle.library_files.proofs.ReadingLemmas.{longer_read, whole_read}
use Rattle.library_files.proofs.folder.read_file.Goals as goal

pub returns-in-Whole-clause-read : goal.returns-in-Whole-clause-read
returns-in-Whole-clause-read g c = λ files told.
    whole_read files c.args.name c.in-Whole.bytes (subst (GivesContent files c.args.name 1048576) c.in-Whole.is (c.in_ok-bytes.ensures.content files told))

pub returns-in-Longer-clause-read : goal.returns-in-Longer-clause-read
returns-in-Longer-clause-read g c = λ files told. longer_read files c.args.name (subst (GivesContent files c.args.name 1048576) c.in-Longer.is (c.in_ok-bytes.ensures.content files told))
