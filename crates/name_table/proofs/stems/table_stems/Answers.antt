use Rattle.std.proofs.Common.{◌++◌, ◌∷◌, [], refl, take}
use Rattle.name_table.proofs.StemLemmas.{left_next, own_table, sized, table_added}
use Rattle.name_table.specs.Listing.{taken_tables}
use Rattle.name_table.specs.Stems.{AreTableStems}
use Rattle.name_table.proofs.stems.table_stems.Goals as goal

pub loop-number-preserved : goal.loop-number-preserved
loop-number-preserved c =
    let tables = c.args.tables.now in
    let i = c.loop-number.number in
    let t = c.index-tables-number.result in
    let inside = c.loop-number-test.true in
    let is = c.index-tables-number.is in
    let size = sized taken_tables own_table AreTableStems (λ _ _ _. refl) tables i t inside is in
    let added : AreTableStems (take i tables ++ t ∷ []) c.add_name.new.stems = rw c.in_ok-add_name.ensures.1 (table_added (take i tables) t c.loop-number.stems i size c.loop-number.invariant.1) in
    let none = rw (c.loop-number.invariant.1 t.stem) at c.in_ok-add_name.ensures.0 in
    left_next taken_tables own_table AreTableStems (λ _ _ _. refl) tables i t inside is c.loop-number.stems c.add_name.new.stems c.loop-number.invariant none added
