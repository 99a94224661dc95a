use Rattle.std.proofs.Common.{◌∙◌, ◌+◌, ◌∷◌, [], ◌++◌, sym, ap, subst, arith, List, ℕ, length, drop, map}
use Rattle.std.proofs.lemmas.Iterator.Adapters.{YieldsList-from_vec}
use Rattle.std.proofs.lemmas.Iterator.Consumers.{YieldsList-so_far, YieldsList-turn}
use Rattle.std.proofs.lemmas.List.{map-append}
use Rattle.design_world.specs.Files.{HasNamed}
use Rattle.design_world.specs.declared.memory.folder.MemoryFile.{MemoryFile}
use Rattle.order_core.specs.PointwiseLaws.{each_all}
use Rattle.library_files.proofs.ReadingLemmas.{read_next, stopped_at, taken_next, too_long_at}
use Rattle.library_files.proofs.folder.read_named.Goals as goal

pub read_file-requires : goal.read_file-requires
read_file-requires g c =
    let into = c.into_iter-name-iterator.ensures.into_iter_gives in
    let turn = YieldsList-turn (YieldsList-from_vec {s = c.into_iter-name-iterator.result} c.args.names.items into.0 (into.1 ∙ c.args.names.ok.0))
    c.loop-name.yielded c.loop-name.name-iterator c.loop-name.yielded_by c.next.result c.next.new.self c.in-Some.name c.in-Some.is c.next.ensures.steps in
    λ files told.
    subst (λ (n : List ℕ). HasNamed files n) (sym turn.1) (each_all (HasNamed files) c.args.names.items (c.requires files (sym (c.loop-name.invariant.0 c.args.place.now) ∙ told)) (length c.loop-name.yielded) c.in-Some.name turn.0)

pub returns-in-Err-clause-read : goal.returns-in-Err-clause-read
returns-in-Err-clause-read g c =
    let into = c.into_iter-name-iterator.ensures.into_iter_gives in
    let yields = YieldsList-from_vec {s = c.into_iter-name-iterator.result} c.args.names.items into.0 (into.1 ∙ c.args.names.ok.0) in
    let turn = YieldsList-turn yields c.loop-name.yielded c.loop-name.name-iterator c.loop-name.yielded_by c.next.result c.next.new.self c.in-Some.name c.in-Some.is c.next.ensures.steps in
    let so_far = YieldsList-so_far yields c.loop-name.yielded c.loop-name.name-iterator c.loop-name.yielded_by in
    λ files told.
    stopped_at files c.loop-name.yielded c.loop-name.read.items c.loop-name.total (c.loop-name.invariant.6 files told) c.in-Some.name (drop (length c.loop-name.yielded + 1) c.args.names.items) c.args.names.items
    (taken_next c.args.names.items c.loop-name.yielded c.in-Some.name so_far turn.0 turn.1) c.in-Err.fault (c.in-Err.ensures.read files (c.loop-name.invariant.0 c.args.place.now ∙ told))

pub returns-then-total-gt-MAX_LIBRARY-clause-read : goal.returns-then-total-gt-MAX_LIBRARY-clause-read
returns-then-total-gt-MAX_LIBRARY-clause-read g c =
    let into = c.into_iter-name-iterator.ensures.into_iter_gives in
    let yields = YieldsList-from_vec {s = c.into_iter-name-iterator.result} c.args.names.items into.0 (into.1 ∙ c.args.names.ok.0) in
    let turn = YieldsList-turn yields c.loop-name.yielded c.loop-name.name-iterator c.loop-name.yielded_by c.next.result c.next.new.self c.in-Some.name c.in-Some.is c.next.ensures.steps in
    let so_far = YieldsList-so_far yields c.loop-name.yielded c.loop-name.name-iterator c.loop-name.yielded_by in
    λ files told.
    too_long_at files c.loop-name.yielded c.loop-name.read.items c.loop-name.total (c.loop-name.invariant.6 files told) c.in-Some.name (drop (length c.loop-name.yielded + 1) c.args.names.items) c.args.names.items
    (taken_next c.args.names.items c.loop-name.yielded c.in-Some.name so_far turn.0 turn.1) c.in-Ok.file (c.in-Ok.ensures.read files (c.loop-name.invariant.0 c.args.place.now ∙ told))
    (rw c.items.ensures at c.if-total-gt-MAX_LIBRARY.true)

pub loop-name-preserved : goal.loop-name-preserved
loop-name-preserved g c =
    let v = c.loop-name.invariant in
    let e = c.read_file.ensures in (
      λ place. e.same place ∙ v.0 place,
      λ place. omega (arith, v.1 place, e.counts place),
      λ r. (e.reliable (v.2 r)).0,
      λ r place. (e.reliable (v.2 r)).1 place ∙ v.3 r place,
      ap (map (λ (file : MemoryFile). file.name)) c.in_ok-push.ensures.items ∙ map-append (λ (file : MemoryFile). file.name) c.loop-name.read.items (c.in-Ok.file ∷ []) ∙ ap (λ names. names ++ c.in-Ok.file.name ∷ []) v.4
          ∙ ap (λ name. c.loop-name.yielded ++ name ∷ []) c.in-Ok.ensures.name,
      c.if-total-gt-MAX_LIBRARY.false,
      λ files told. rw (c.in_ok-push.ensures.items, c.items.ensures) (read_next files c.loop-name.yielded c.loop-name.read.items c.loop-name.total (v.6 files told) c.in-Some.name c.in-Ok.file
          (c.in-Ok.ensures.read files (v.0 c.args.place.now ∙ told)) (rw c.items.ensures at c.if-total-gt-MAX_LIBRARY.false)),
    )
