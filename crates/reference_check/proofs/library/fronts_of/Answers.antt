use Rattle.std.proofs.Common.{◌≡◌, ◌∙◌, ◌<◌, ◌≤◌, ap, get_or, length, refl, subst, sym, List}
use Rattle.std.proofs.lemmas.Option.{slice_get_read}
use Rattle.name_table.specs.SmallLaws.{small_at}
use Rattle.name_table.specs.declared.source.SourceFile.{SourceFile}
use Rattle.reference_check.proofs.FrontLemmas.{fronts_done}
use Rattle.reference_check.specs.LibraryFronts.{AreFrontsOf}
use Rattle.reference_check.specs.declared.front.Front.{Front}
use Rattle.std.specs.Prelude.{Option}
use Rattle.reference_check.proofs.library.fronts_of.Goals as goal

pub front_of_file-requires-clause-small : goal.front_of_file-requires-clause-small
front_of_file-requires-clause-small c =
    let files = c.args.names.now.files in
    let k = c.loop-number.number in
    let f = c.file-item.result in
    let inside = subst (λ (fs : List SourceFile). k < length fs) c.items-file-items.ensures c.loop-number-test.true in
    let is : f ≡ get_or files k f = c.file-item.is ∙ ap (λ (fs : List SourceFile). get_or fs k f) c.items-file-items.ensures in
    small_at files k f c.args.names.now.small (slice_get_read files (length files) k f refl inside is)

pub returns-clause-answer : goal.returns-clause-answer
returns-clause-answer c =
    let files = c.args.names.now.files in
    let types = c.args.names.now.types in
    (refl, subst (λ (made : List (Option Front)). AreFrontsOf files types made) (sym c.of.ensures) (fronts_done files types c.loop-number.number c.loop-number.made.items (subst (λ (fs : List SourceFile). length fs ≤ c.loop-number.number) c.items-file-items.ensures c.loop-number-test.false) c.loop-number.invariant.1))
