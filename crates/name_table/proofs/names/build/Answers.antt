use Rattle.std.proofs.Common.{◌≡◌, ◌∙◌, sym, subst, List}
use Rattle.std.proofs.lemmas.Result.{err_from_is_err_and}
use Rattle.fault_list.specs.AnswersLaws.{stopped_same}
use Rattle.name_table.specs.Found.{AreFound}
use Rattle.name_table.specs.Library.{AreIndexed, ArePosets}
use Rattle.name_table.specs.NameFaults.{name_faults}
use Rattle.name_table.specs.declared.examine.Found.{Found}
use Rattle.name_table.specs.declared.names.Names.{Names}
use Rattle.name_table.specs.declared.source.SourceFile.{SourceFile}
use Rattle.name_table.specs.declared.source.Table.{Table}
use Rattle.name_table.proofs.names.build.Goals as goal

pub returns-in_err-found : goal.returns-in_err-found
returns-in_err-found c =
    let p = err_from_is_err_and c.from_residual.result c.from_residual.ensures.1 in
    rw (p.1, p.2) (stopped_same {A = Found} {B = Names} (name_faults c.items.result.now c.items-2.result.now) (name_faults c.args.files c.args.tables) (AreFound c.items.result.now c.items-2.result.now)
    (λ names. (names.files ≡ c.args.files) × (names.tables ≡ c.args.tables) × ArePosets c.args.files names.types.posets) c.in_err-found.field-0.0 (λ i. name_faults (sym c.items.ensures i) (sym c.items-2.ensures i)) c.in_err-found.ensures)

pub invariant_of-result : goal.invariant_of-result
invariant_of-result c =
    let found = c.in_ok-found.found in
    record {
      in_order = record {
        few_files = c.requires.few_files;
        few_tables = c.requires.few_tables;
        faultless = (λ i. name_faults (sym c.items.ensures i) (sym c.items-2.ensures i)) ∙ c.in_ok-found.ensures.0;
      };
      small = ∣ c.requires.small ∣₁;
      posets_are = ∣ subst (λ (files : List SourceFile). ArePosets files found.types.posets) c.items.ensures c.in_ok-found.ensures.1.posets ∣₁;
      named = c.in_ok-found.ensures.1.named;
      indexed = subst (λ (files : List SourceFile). AreIndexed files c.args.tables found.types found.library found.posets found.ranks) c.items.ensures
          (subst (λ (tables : List Table). AreIndexed c.items.result.now tables found.types found.library found.posets found.ranks) c.items-2.ensures c.in_ok-found.ensures.1.indexed);
    }
