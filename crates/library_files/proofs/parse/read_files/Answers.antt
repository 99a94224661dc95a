use Rattle.std.proofs.Common.{◌∙◌, ◌+◌, IsTrue, List, sym, subst, length, drop}
use Rattle.std.proofs.lemmas.Iterator.Adapters.{YieldsList-from_vec}
use Rattle.std.proofs.lemmas.Iterator.Consumers.{YieldsList-end, YieldsList-so_far, YieldsList-turn}
use Rattle.std.proofs.lemmas.List.{map-id}
use Rattle.design_world.specs.declared.memory.folder.MemoryFile.{MemoryFile}
use Rattle.library_files.specs.Names.{is_recognised}
use Rattle.library_files.specs.Parsed.{AreParsed, IsMade}
use Rattle.library_files.specs.declared.parse.Parsed.{Parsed}
use Rattle.library_files.proofs.ParsedLemmas.{all_gone_through, few_sources, few_tables, next_source, next_table, stopped_at_file}
use Rattle.library_files.proofs.ReadingLemmas.{taken_next}
use Rattle.name_table.specs.Library.{AreSmall}
use Rattle.name_table.specs.declared.source.SourceFile.{SourceFile}
use Rattle.order_core.specs.Pointwise.{Each}
use Rattle.order_core.specs.PointwiseLaws.{Each-map, each_all}
use Rattle.library_files.proofs.parse.read_files.Goals as goal

pub made_of-requires : goal.made_of-requires
made_of-requires c =
    let items = c.into_vec-file-items.result in
    let into = c.into_iter-file-iterator.ensures.into_iter_gives in
    let turn = YieldsList-turn (YieldsList-from_vec {s = c.into_iter-file-iterator.result} items.items into.0 (into.1 ∙ items.ok.0))
    c.loop-file.yielded c.loop-file.file-iterator c.loop-file.yielded_by c.next.result c.next.new.self c.in-Some.file c.in-Some.is c.next.ensures.steps in
    let recognised = subst (λ (fs : List MemoryFile). Each (λ (file : MemoryFile). IsTrue (is_recognised file.name)) fs) (sym c.into_vec-file-items.ensures)
    (subst (λ (T : Type 0). T) (sym (Each-map (λ (file : MemoryFile). file.name) (λ name. IsTrue (is_recognised name)) c.args.files)) c.requires) in
    subst (λ (file : MemoryFile). IsTrue (is_recognised file.name)) (sym turn.1) (each_all (λ (file : MemoryFile). IsTrue (is_recognised file.name)) items.items recognised (length c.loop-file.yielded) c.in-Some.file turn.0)

pub returns-in-Err-clause-read : goal.returns-in-Err-clause-read
returns-in-Err-clause-read c =
    let items = c.into_vec-file-items.result in
    let into = c.into_iter-file-iterator.ensures.into_iter_gives in
    let yields = YieldsList-from_vec {s = c.into_iter-file-iterator.result} items.items into.0 (into.1 ∙ items.ok.0) in
    let turn = YieldsList-turn yields c.loop-file.yielded c.loop-file.file-iterator c.loop-file.yielded_by c.next.result c.next.new.self c.in-Some.file c.in-Some.is c.next.ensures.steps in
    let so_far = YieldsList-so_far yields c.loop-file.yielded c.loop-file.file-iterator c.loop-file.yielded_by in
    let rest = drop (length c.loop-file.yielded + 1) items.items in
    let v = c.loop-file.invariant in
    stopped_at_file c.loop-file.yielded c.loop-file.sources.items c.loop-file.tables.items v.0 v.1 c.in-Some.file c.args.files rest (λ (made : Parsed). AreParsed c.args.files made × AreSmall made.files)
    (sym c.into_vec-file-items.ensures ∙ taken_next items.items c.loop-file.yielded c.in-Some.file so_far turn.0 turn.1) c.in-Err.stop c.in-Err.ensures

pub loop-file-preserved : goal.loop-file-preserved
loop-file-preserved c =
    let v = c.loop-file.invariant in
    rw c.in_ok-push-in-Ok-Table.ensures.items
    (next_table c.loop-file.yielded c.loop-file.sources.items c.loop-file.tables.items v.0 v.1 c.in-Some.file c.in-Ok-Table.table (subst (IsMade c.in-Some.file) c.in-Ok-Table.field-0-is c.in-Ok-Table.ensures))

pub loop-file-preserved-in-Continue-1 : goal.loop-file-preserved-in-Continue-1
loop-file-preserved-in-Continue-1 c =
    let v = c.loop-file.invariant in
    rw c.in_ok-push-in-Ok-Source.ensures.items
    (next_source c.loop-file.yielded c.loop-file.sources.items c.loop-file.tables.items v.0 v.1 c.in-Some.file c.in-Ok-Source.source (subst (IsMade c.in-Some.file) c.in-Ok-Source.field-0-is c.in-Ok-Source.ensures))

pub returns : goal.returns
returns c =
    let items = c.into_vec-file-items.result in
    let into = c.into_iter-file-iterator.ensures.into_iter_gives in
    let yields = YieldsList-from_vec {s = c.into_iter-file-iterator.result} items.items into.0 (into.1 ∙ items.ok.0) in
    let end = YieldsList-end yields c.loop-file.yielded c.loop-file.file-iterator c.loop-file.yielded_by c.next.result c.next.new.self c.in-None.is c.next.ensures.steps in
    let all = sym (map-id c.loop-file.yielded) ∙ end.0 ∙ c.into_vec-file-items.ensures in
    let gone = all_gone_through c.args.files c.loop-file.yielded c.loop-file.sources.items c.loop-file.tables.items (record { files = c.of.result; tables = c.of-2.result }) all c.of.ensures c.of-2.ensures c.loop-file.invariant in
    let small = subst (λ (fs : List SourceFile). AreSmall fs) (c.deref.ensures.value ∙ sym c.of.ensures) (c.are_small.ensures.0 c.if-not-are_small.false) in
    record { read = (gone.0, (gone.1, small)); few_files = few_sources c.args.files _ gone.1; few_tables = few_tables c.args.files _ gone.1 }
