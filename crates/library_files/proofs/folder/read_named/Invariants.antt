use Rattle.std.proofs.Common.{◌≡◌, ◌≤◌, IsTrue, List, ℕ, map}
use Rattle.std.specs.Option.{ForSome}
use Rattle.design_world.specs.Fault.{NeverFall}
use Rattle.design_world.specs.Files.{SameFiles}
use Rattle.library_files.proofs.ReadingLemmas.{ReadSoFar}
use Rattle.library_files.proofs.folder.read_named.Given as goal

-- The names so far were read, and what is told of the folder and counted goes on.
abbrev pub invariant-loop-name : goal.invariant-loop-name
invariant-loop-name g l =
    let files = g.F.Folder.files in
    let faults = g.F.Folder.faults in
    let is_reliable = g.F.Folder.is_reliable in
    SameFiles (files l.initial.folder) (files l.folder)
    × NeverFall (faults l.initial.folder) (faults l.folder)
    × (IsTrue (is_reliable l.initial.folder) → IsTrue (is_reliable l.folder))
    × (IsTrue (is_reliable l.initial.folder) → (place : List ℕ) → faults l.folder place ≡ faults l.initial.folder place)
    × (map (λ file. file.name) l.read.items ≡ l.yielded)
    × (l.total ≤ 16777216)
    × ForSome (files l.initial.folder l.place) (λ files. ReadSoFar files l.yielded l.read.items l.total)
