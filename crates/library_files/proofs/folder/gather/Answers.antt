use Rattle.std.proofs.Common.{◌∙◌, sym, ap, Some, arith, ◌<◌, ◌≤◌, length, map}
use Rattle.design_world.specs.Files.{names_of}
use Rattle.library_files.specs.declared.fault.LibraryFault.TheVariants.{TooManyFiles}
use Rattle.library_files.specs.Reading.{file_named}
use Rattle.library_files.proofs.TakenLemmas.{are_taken, gathers_files, gathers_none, listed_there, some_taken, too_many_names}
use Rattle.library_files.proofs.folder.gather.Goals as goal

pub read_named-requires : goal.read_named-requires
read_named-requires g c = λ files told. listed_there (names_of files) c.in-Ok.names.items (c.in-Ok.ensures.listed files (sym (c.in-Ok.ensures.same c.args.place.now) ∙ told))

pub returns-in-Err-Failed-clause-gathered : goal.returns-in-Err-Failed-clause-gathered
returns-in-Err-Failed-clause-gathered g c = λ files told. let taken = some_taken files in (taken.0, taken.1, tt)

pub returns-in-Err-Memory-clause-gathered : goal.returns-in-Err-Memory-clause-gathered
returns-in-Err-Memory-clause-gathered g c = λ files told. let taken = some_taken files in (taken.0, taken.1, tt)

pub returns-then-count-gt-MAX_FILES-clause-gathered : goal.returns-then-count-gt-MAX_FILES-clause-gathered
returns-then-count-gt-MAX_FILES-clause-gathered g c = λ files told.
    let many : 1000 < length c.in-Ok.names.items = omega (arith, c.if-count-gt-MAX_FILES.true, c.len-count.ensures, c.in-Ok.names.ok.0) in (
      map (file_named files) c.in-Ok.names.items,
      are_taken files c.in-Ok.names.items (c.in-Ok.ensures.listed files told) c.in-Ok.ensures.ordered,
      too_many_names files c.in-Ok.names.items many ∙ ap (λ k. Some (TooManyFiles k)) (sym c.in-Ok.names.ok.0 ∙ sym c.len-count.ensures),
    )

pub returns-in-Err-clause-gathered : goal.returns-in-Err-clause-gathered
returns-in-Err-clause-gathered g c = λ files told.
    let few : length c.in-Ok.names.items ≤ 1000 = omega (arith, c.if-count-gt-MAX_FILES.false, c.len-count.ensures, c.in-Ok.names.ok.0) in (
      map (file_named files) c.in-Ok.names.items,
      are_taken files c.in-Ok.names.items (c.in-Ok.ensures.listed files told) c.in-Ok.ensures.ordered,
      gathers_none files c.in-Ok.names.items few c.in-Err.fault (c.in-Err.ensures.read files (c.in-Ok.ensures.same c.args.place.now ∙ told)),
    )

pub returns-clause-gathered : goal.returns-clause-gathered
returns-clause-gathered g c = λ files told.
    let few : length c.in-Ok.names.items ≤ 1000 = omega (arith, c.if-count-gt-MAX_FILES.false, c.len-count.ensures, c.in-Ok.names.ok.0) in (
      map (file_named files) c.in-Ok.names.items,
      are_taken files c.in-Ok.names.items (c.in-Ok.ensures.listed files told) c.in-Ok.ensures.ordered,
      gathers_files files c.in-Ok.names.items few c.in-Ok-read_named.files c.of.result (c.in-Ok-read_named.ensures.read files (c.in-Ok.ensures.same c.args.place.now ∙ told)) (c.of.ensures ∙ c.new.ensures.items),
    )
