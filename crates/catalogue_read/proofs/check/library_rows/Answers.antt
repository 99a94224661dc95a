use Rattle.std.proofs.Common.{◌≡◌, ◌<◌, ◌≤◌, ◌∙◌, [], ◌∷◌, ◌++◌, ap, subst, sym, get_or, length, take, List}
use Rattle.std.proofs.lemmas.List.{take_all, take_more}
use Rattle.catalogue_read.specs.Catalogues.{HasBadRow, HasRows, HasSomeRows}
use Rattle.catalogue_read.proofs.FileLemmas.{file_there}
use Rattle.fault_list.specs.FirstBadLaws.{good_next, stopped_here}
use Rattle.name_table.specs.PartnerLaws.{pointwise_push}
use Rattle.design_model.specs.declared.design.CatRow.{CatRow}
use Rattle.name_table.specs.SmallLaws.{small_at}
use Rattle.name_table.specs.declared.source.SourceFile.{SourceFile}
use Rattle.order_core.specs.Pointwise.{Each, Pointwise}
use Rattle.catalogue_read.proofs.check.library_rows.Goals as goal

pub file_rows-requires-clause-small : goal.file_rows-requires-clause-small
file_rows-requires-clause-small c =
    let names = c.args.names.now in
    let i = c.loop-file.file-index in
    let f = c.file-item.result in
    let inside = subst (λ (fs : List SourceFile). i < length fs) c.items-file-items.ensures c.loop-file-test.true in
    small_at names.files i f names.small (file_there names.files c.items-file-items.result.now i f c.items-file-items.ensures inside c.file-item.is)

pub returns-in-Err : goal.returns-in-Err
returns-in-Err c =
    let names = c.args.names.now in
    let i = c.loop-file.file-index in
    let f = c.file-item.result in
    let inside = subst (λ (fs : List SourceFile). i < length fs) c.items-file-items.ensures c.loop-file-test.true in
    let is = c.file-item.is ∙ ap (λ (fs : List SourceFile). get_or fs i f) c.items-file-items.ensures in
    stopped_here (HasSomeRows names.tables names.types) (HasBadRow names.tables names.types) names.files i f inside is c.loop-file.invariant.0 {B = List CatRow} {C = List (List CatRow)} (HasRows names.tables names.types f) (Pointwise (HasRows names.tables names.types) names.files) c.in-Err.stop c.in-Err.ensures

pub loop-file-preserved : goal.loop-file-preserved
loop-file-preserved c =
    let names = c.args.names.now in
    let i = c.loop-file.file-index in
    let f = c.file-item.result in
    let inside = subst (λ (fs : List SourceFile). i < length fs) c.items-file-items.ensures c.loop-file-test.true in
    let is = c.file-item.is ∙ ap (λ (fs : List SourceFile). get_or fs i f) c.items-file-items.ensures in
    let has = HasRows names.tables names.types in
    let more = take_more names.files i f inside ∙ ap (λ (g : SourceFile). take i names.files ++ g ∷ []) (sym is) in (
      good_next (HasSomeRows names.tables names.types) (HasBadRow names.tables names.types) names.files i f inside is c.loop-file.invariant.0 (c.in-Ok.rows, c.in-Ok.ensures),
      subst (λ (fs : List SourceFile). Pointwise has fs c.push.new.self.items) (sym more)
          (rw c.in_ok-push-in-Ok.ensures.items (pointwise_push has (take i names.files) c.loop-file.made.items f c.in-Ok.rows c.loop-file.invariant.1 c.in-Ok.ensures)),
    )

pub returns : goal.returns
returns c =
    let names = c.args.names.now in
    let i = c.loop-file.file-index in
    let all : take i names.files ≡ names.files = take_all i names.files (subst (λ (fs : List SourceFile). length fs ≤ i) c.items-file-items.ensures c.loop-file-test.false) in (
      subst (Each (HasSomeRows names.tables names.types)) all c.loop-file.invariant.0,
      rw c.of.ensures (subst (λ (fs : List SourceFile). Pointwise (HasRows names.tables names.types) fs c.loop-file.made.items) all c.loop-file.invariant.1),
    )
