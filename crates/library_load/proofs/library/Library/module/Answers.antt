use Rattle.std.proofs.Common.{◌≡◌, ◌∙◌, ◌<◌, ap, get_or, length, refl, subst, sym, List}
use Rattle.std.proofs.lemmas.Option.{slice_get_read, slice_get_within}
use Rattle.std.specs.Option.{option_copied}
use Rattle.std.specs.Prelude.{option_and_then, slice_get, true, false}
use Rattle.library_load.proofs.LibraryLemmas.{module_named, no_place, not_closed}
use Rattle.library_load.proofs.SourceLemmas.{stem_found}
use Rattle.name_table.specs.Files.{is_design}
use Rattle.name_table.specs.declared.source.SourceFile.{SourceFile}
use Rattle.reference_meaning.specs.Sources.{is_closed}
use Rattle.library_load.proofs.library.Library.module.Goals as goal

pub bounds-items-number : goal.bounds-items-number
bounds-items-number c =
    let files = c.args.self.now.names.files in
    let found = stem_found files is_design c.args.stem.now c.in-Some.number (sym c.in-Some.ensures) in
    subst (λ (fs : List SourceFile). c.in-Some.number < length fs) (sym c.items.ensures) (slice_get_within files c.in-Some.number found.0 found.1)

pub returns-in_default : goal.returns-in_default
returns-in_default c = no_place c.args.self.now.names.files c.args.self.now.names.tables c.requires.rules.names c.args.stem.now (sym c.in_default.ensures)

pub returns-then-not-is_closed : goal.returns-then-not-is_closed
returns-then-not-is_closed c =
    let names = c.args.self.now.names in
    let found = stem_found names.files is_design c.args.stem.now c.in-Some.number (sym c.in-Some.ensures) in
    let f = c.index-items-number.result in
    let is = c.index-items-number.is ∙ ap (λ (fs : List SourceFile). get_or fs c.in-Some.number f) c.items.ensures in
    let there = slice_get_read names.files (length names.files) c.in-Some.number f refl (slice_get_within names.files c.in-Some.number found.0 found.1) is in
    let shut = c.is_closed.ensures in let no = c.if-not-is_closed.true in
    let open_ : is_closed f.tree ≡ false = cc in
    not_closed names.files names.tables c.requires.rules.names c.args.stem.now c.in-Some.number f (sym c.in-Some.ensures) there open_

pub returns : goal.returns
returns c =
    let library = c.args.self.now in
    let names = library.names in
    let found = stem_found names.files is_design c.args.stem.now c.in-Some.number (sym c.in-Some.ensures) in
    let f = c.index-items-number.result in
    let is = c.index-items-number.is ∙ ap (λ (fs : List SourceFile). get_or fs c.in-Some.number f) c.items.ensures in
    let there = slice_get_read names.files (length names.files) c.in-Some.number f refl (slice_get_within names.files c.in-Some.number found.0 found.1) is in
    let shut = c.is_closed.ensures in let no = c.if-not-is_closed.false in
    let closed : is_closed f.tree ≡ true = cc in
    module_named library c.requires c.args.stem.now c.in-Some.number f (option_copied c.module_at.result) (sym c.in-Some.ensures) there closed
    (c.module_at.ensures ∙ ap (λ ms. option_and_then (λ m. m) (slice_get ms c.in-Some.number)) c.items-2.ensures)
