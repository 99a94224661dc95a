use Rattle.std.proofs.Common.{◌≡◌, subst, sym}
use Rattle.design_model.specs.declared.design.Design.{Design}
use Rattle.library_load.proofs.LibraryLemmas.{named_makes}
use Rattle.library_load.specs.Designs.{IsDesign}
use Rattle.reference_meaning.specs.Modules.{ModuleMakes}
use Rattle.library_load.proofs.library.Library.design.Goals as goal

pub expand-requires : goal.expand-requires
expand-requires c =
    let library = c.args.self.now in
    let made = named_makes library c.requires c.args.stem.now (c.files_have_one_list_of_rows.ensures library.names.tables library.names.types)
    (λ source b m X. c.modules_denote_what_files_do.ensures.files c.requires.modules.sources library.modules c.requires.modules.are_modules source b m X) c.in-Some.named.now c.in-Some.ensures in
    (made.0, subst (λ ms. ModuleMakes ms c.in-Some.named.now made.0) (sym c.items.ensures) made.2, made.3)

pub returns-in_ok-expand-in-Some : goal.returns-in_ok-expand-in-Some
returns-in_ok-expand-in-Some c =
    let library = c.args.self.now in
    let made = named_makes library c.requires c.args.stem.now (c.files_have_one_list_of_rows.ensures library.names.tables library.names.types)
    (λ source b m X. c.modules_denote_what_files_do.ensures.files c.requires.modules.sources library.modules c.requires.modules.are_modules source b m X) c.in-Some.named.now c.in-Some.ensures in
    let same : made.0 ≡ c.in_ok-expand-in-Some.field-0 = c.in_ok-expand-in-Some.ensures made.0 (subst (λ ms. ModuleMakes ms c.in-Some.named.now made.0) (sym c.items.ensures) made.2) in
    let is = subst (λ (X : Design). IsDesign library.names.files library.names.tables library.names.types c.args.stem.now X) same made.1 in
    (is, c.designs_are_typed.ensures c.requires.rules.typed c.requires.few_rows c.requires.rules.references c.requires.branches c.args.stem.now c.in_ok-expand-in-Some.field-0 is)
