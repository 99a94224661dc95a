use Rattle.std.proofs.Common.{◌≡◌, ◌<◌, ◌∙◌, ap, get_or, length, refl, subst, sym, List}
use Rattle.std.proofs.lemmas.Option.{slice_get_read}
use Rattle.std.specs.Option.{option_copied}
use Rattle.std.specs.Prelude.{slice_get}
use Rattle.fault_list.specs.FirstBadLaws.{first_here, good_next}
use Rattle.design_measure.specs.declared.measures.Measured.{Measured}
use Rattle.library_load.proofs.LimitLemmas.{past, placed_here, within}
use Rattle.library_load.proofs.MadeLemmas.{design_measured}
use Rattle.library_load.specs.Accepted.{IsInLimits, IsPastLimit}
use Rattle.library_load.specs.Limits.{passed}
use Rattle.name_table.specs.declared.source.SourceFile.{SourceFile}
use Rattle.library_load.proofs.limits.check_limits.Goals as goal

pub returns-in-Some : goal.returns-in-Some
returns-in-Some c =
    let names = c.args.names.now in
    let i = c.loop-number.number in
    let f = c.file-item.result in
    let inside = subst (λ (fs : List SourceFile). i < length fs) c.items-file-items.ensures c.loop-number-test.true in
    let is = c.file-item.is ∙ ap (λ (fs : List SourceFile). get_or fs i f) c.items-file-items.ensures in
    let there = slice_get_read names.files (length names.files) i f refl inside is in
    let measured = design_measured names.files names.tables names.types c.args.modules.now c.requires.modules (c.files_have_one_list_of_rows.ensures names.tables names.types)
    (λ source b m X. c.modules_denote_what_files_do.ensures.files c.requires.modules.sources c.args.modules.now c.requires.modules.are_modules source b m X)
    names.in_order.faultless c.requires.meanings c.in_ok-measured.measured c.in_ok-measured.ensures i f there in
    let looked : option_copied c.measured_at.result ≡ slice_get c.in_ok-measured.measured i = c.measured_at.ensures ∙ ap (λ (ms : List Measured). slice_get ms i) c.items.ensures in
    let kind = c.in-Some.kind in
    let bad = past names.files names.tables names.types f (slice_get c.in_ok-measured.measured i) kind (ap (passed f) (sym looked) ∙ sym c.in-Some.ensures) measured in
    placed_here (IsInLimits names.files names.tables names.types) (IsPastLimit names.files names.tables names.types) names.files f.name (record { kind = kind; at = 0 }) c.in_file.result c.in_file.ensures
    (first_here (IsInLimits names.files names.tables names.types) (IsPastLimit names.files names.tables names.types) names.files i f inside is c.loop-number.invariant (record { file = f.name; kind = kind; at = 0 }) bad)

pub loop-number-preserved : goal.loop-number-preserved
loop-number-preserved c =
    let names = c.args.names.now in
    let i = c.loop-number.number in
    let f = c.file-item.result in
    let inside = subst (λ (fs : List SourceFile). i < length fs) c.items-file-items.ensures c.loop-number-test.true in
    let is = c.file-item.is ∙ ap (λ (fs : List SourceFile). get_or fs i f) c.items-file-items.ensures in
    let there = slice_get_read names.files (length names.files) i f refl inside is in
    let measured = design_measured names.files names.tables names.types c.args.modules.now c.requires.modules (c.files_have_one_list_of_rows.ensures names.tables names.types)
    (λ source b m X. c.modules_denote_what_files_do.ensures.files c.requires.modules.sources c.args.modules.now c.requires.modules.are_modules source b m X)
    names.in_order.faultless c.requires.meanings c.in_ok-measured.measured c.in_ok-measured.ensures i f there in
    let looked : option_copied c.measured_at.result ≡ slice_get c.in_ok-measured.measured i = c.measured_at.ensures ∙ ap (λ (ms : List Measured). slice_get ms i) c.items.ensures in
    good_next (IsInLimits names.files names.tables names.types) (IsPastLimit names.files names.tables names.types) names.files i f inside is c.loop-number.invariant
    (within names.files names.tables names.types f (slice_get c.in_ok-measured.measured i) (ap (passed f) (sym looked) ∙ sym c.in-None.ensures) measured)
