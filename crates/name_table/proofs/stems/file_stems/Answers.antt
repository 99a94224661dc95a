use Rattle.std.proofs.Common.{refl, take, [], ◌∷◌, ◌++◌}
use Rattle.std.proofs.lemmas.Result.{err_from_is_err_and}
use Rattle.name_table.proofs.StemLemmas.{left_done, left_next, left_stopped, own_stem, sized}
use Rattle.name_table.specs.Listing.{taken_stems}
use Rattle.name_table.specs.Stems.{AreStems}
use Rattle.name_table.specs.declared.stems.FileStems.{FileStems}
use Rattle.name_table.proofs.stems.file_stems.Goals as goal

pub loop-number-preserved : goal.loop-number-preserved
loop-number-preserved c =
    let files = c.args.files.now in
    let i = c.loop-number.number in
    let f = c.index-files-number.result in
    let inside = c.loop-number-test.true in
    let is = c.index-files-number.is in
    let told = c.in_ok-add_stem.ensures (take i files) c.loop-number.invariant.1 (sized taken_stems own_stem AreStems (λ _ _ _. refl) files i f inside is) in
    left_next taken_stems own_stem AreStems (λ _ _ _. refl) files i f inside is c.loop-number.stems c.add_stem.new.stems c.loop-number.invariant told.0 told.1

pub returns-in_err-add_stem : goal.returns-in_err-add_stem
returns-in_err-add_stem c =
    let files = c.args.files.now in
    let i = c.loop-number.number in
    let f = c.index-files-number.result in
    let inside = c.loop-number-test.true in
    let is = c.index-files-number.is in
    let told = c.in_err-add_stem.ensures (take i files) c.loop-number.invariant.1 (sized taken_stems own_stem AreStems (λ _ _ _. refl) files i f inside is) in
    let p = err_from_is_err_and c.from_residual.result c.from_residual.ensures.1 in
    rw (p.1, p.2) (left_stopped taken_stems own_stem AreStems (λ _ _ _. refl) files i f inside is {B = Unit {0}} {C = FileStems} c.loop-number.stems (λ _. AreStems (take i files ++ f ∷ []) c.add_stem.new.stems) (AreStems files) c.in_err-add_stem.field-0.0 c.loop-number.invariant told)

pub returns : goal.returns
returns c = left_done taken_stems AreStems (λ _. refl) c.args.files.now c.loop-number.number c.loop-number.stems c.loop-number-test.false c.loop-number.invariant
