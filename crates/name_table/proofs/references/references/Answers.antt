use Rattle.std.proofs.Common.{◌∙◌, ◌++◌, ◌∷◌, ◌+◌, ap, sym, drop, map, List}
use Rattle.std.proofs.lemmas.List.{drop_more}
use Rattle.name_index.specs.Names.{number_of}
use Rattle.name_table.proofs.PairLemmas.{part_next}
use Rattle.name_table.specs.References.{file_refers, references_from}
use Rattle.name_table.specs.declared.source.SourceFile.{SourceFile}
use Rattle.name_table.proofs.references.references.Goals as goal

pub loop-number-preserved : goal.loop-number-preserved
loop-number-preserved c =
    let find = number_of c.args.designs.now in
    let files = c.args.files.now in
    let i = c.loop-number.number in
    let f = c.index-files-number.result in
    let left = drop_more files i f c.loop-number-test.true ∙ ap (λ (g : SourceFile). g ∷ drop (i + 1) files) (sym c.index-files-number.is) in
    part_next (references_from find 0 files) c.loop-number.pairs.items (map (λ j. (i, j)) (file_refers find f.tree)) (references_from find (i + 1) (drop (i + 1) files)) c.add_file.new.pairs.items
    (c.loop-number.invariant ∙ ap (λ (fs : List SourceFile). c.loop-number.pairs.items ++ references_from find i fs) left) c.in_ok-add_file.ensures
