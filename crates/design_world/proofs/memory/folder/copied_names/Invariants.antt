use Rattle.std.proofs.Common.{◌≡◌, take}
use Rattle.design_world.specs.Files.{names_of}
use Rattle.design_world.specs.InMemory.{files_of}
use Rattle.design_world.proofs.memory.folder.copied_names.Given as goal

abbrev pub invariant-loop-file : goal.invariant-loop-file
invariant-loop-file l = l.names.items ≡ names_of (files_of (take l.file-index l.files))
