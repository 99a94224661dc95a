use Rattle.std.proofs.Common.{◌∙◌, ◌<◌, ◌^◌, ◌++◌, ap, subst, sym, ℕ, List, length}
use Rattle.std.specs.Prelude.{Err}
use Rattle.fault_list.specs.Answers.{Answers}
use Rattle.std.proofs.lemmas.Result.{err_from_is_err_and}
use Rattle.std.specs.List.{flat_map}
use Rattle.name_index.specs.Places.{place_of}
use Rattle.name_rules.specs.Known.{Known}
use Rattle.name_table.proofs.PosetLemmas.{posets_few, posets_named}
use Rattle.name_table.proofs.WholeLemmas.{passed_two, stopped_second, stopped_third}
use Rattle.name_table.specs.Files.{known_in}
use Rattle.name_table.specs.Found.{AreFound}
use Rattle.name_table.specs.Library.{ArePosets}
use Rattle.name_table.specs.Listing.{listing_faults}
use Rattle.name_table.specs.NameFaults.{file_faults}
use Rattle.name_table.specs.Ranks.{AreRanks}
use Rattle.name_table.specs.References as refs
use Rattle.name_table.specs.Stems.{known_by}
use Rattle.name_table.specs.declared.examine.Found.{Found}
use Rattle.value_type.specs.declared.poset.Poset.{Poset}
use Rattle.name_table.proofs.examine.examine.Goals as goal

pub returns-in_err-posets : goal.returns-in_err-posets
returns-in_err-posets c =
    let files = c.args.files.now in
    let tables = c.args.tables.now in
    let p = err_from_is_err_and c.from_residual-in_err-posets.result c.from_residual-in_err-posets.ensures.1 in
    let stop = c.in_err-posets.field-0.0 in
    rw (p.1, p.2) (subst (λ (known : Known). Answers (listing_faults files tables ++ flat_map (file_faults known) files ++ refs.circular_faults files) (AreFound files tables) (Err stop)) c.in_ok-library.ensures.1.2
    (stopped_second (listing_faults files tables) (flat_map (file_faults (known_by c.in_ok-library.library)) files) (refs.circular_faults files) {A = List Poset} {B = Found} (ArePosets files) (AreFound files tables) stop c.in_ok-library.ensures.0 c.in_err-posets.ensures))

pub poset_names-requires : goal.poset_names-requires
poset_names-requires c = record {
  few = subst (λ (posets : List Poset). length posets < 2 ^ 32) (sym c.items.ensures) (posets_few c.args.files.now c.in_ok-posets.posets c.in_ok-posets.ensures.1 c.requires.few_files);
}

pub returns-in_err-names : goal.returns-in_err-names
returns-in_err-names c =
    let p = err_from_is_err_and c.from_residual-in_err-names.result c.from_residual-in_err-names.ensures.1 in
    rw (p.1, p.2) tt

pub returns-in_err-ranks : goal.returns-in_err-ranks
returns-in_err-ranks c =
    let files = c.args.files.now in
    let tables = c.args.tables.now in
    let p = err_from_is_err_and c.from_residual-in_err-ranks.result c.from_residual-in_err-ranks.ensures.1 in
    let spelled = rw c.in_ok-library.ensures.1.2 at c.in_ok-posets.ensures.0 in
    rw (p.1, p.2) (stopped_third (listing_faults files tables) (flat_map (file_faults (known_in files tables)) files) (refs.circular_faults files) {A = List ℕ} {B = Found} (AreRanks (length files) (refs.references files)) (AreFound files tables) c.in_err-ranks.field-0.0 c.in_ok-library.ensures.0 spelled c.in_err-ranks.ensures)

pub returns : goal.returns
returns c =
    let files = c.args.files.now in
    let tables = c.args.tables.now in
    let posets = c.in_ok-posets.posets in
    let spelled = rw c.in_ok-library.ensures.1.2 at c.in_ok-posets.ensures.0 in (
      passed_two (listing_faults files tables) (flat_map (file_faults (known_in files tables)) files) (refs.circular_faults files) c.in_ok-library.ensures.0 spelled ∙ c.in_ok-ranks.ensures.0,
      record {
        posets = c.in_ok-posets.ensures.1;
        named = posets_named files posets c.in_ok-posets.ensures.1 c.requires.few_files;
        indexed = record {
          stems = c.in_ok-library.ensures.1.0;
          tables_are = c.in_ok-library.ensures.1.1;
          posets_are = λ name. c.in_ok-names.ensures name ∙ ap (λ (ps : List Poset). place_of (λ (p : Poset). p.name) ps name) c.items.ensures;
          ranks_are = c.in_ok-ranks.ensures.1;
        };
      },
    )
