use Rattle.std.proofs.Common.{◌∙◌, sym, Some, None}
use Rattle.library_files.proofs.NameLemmas.{parts_split}
use Rattle.library_files.proofs.name.parts_of.Goals as goal

pub returns-in-Some-ending_named : goal.returns-in-Some-ending_named
returns-in-Some-ending_named c =
    let cut = parts_split c.args.name.now (Some (c.in-Some.stem, c.in-Some.ending)) c.in-Some.ensures.cases in
    (cut.0, cut.1 ∙ sym c.in-Some-ending_named.ensures)

pub returns-in-None-ending_named : goal.returns-in-None-ending_named
returns-in-None-ending_named c =
    let cut = parts_split c.args.name.now (Some (c.in-Some.stem, c.in-Some.ending)) c.in-Some.ensures.cases in
    cut.1 ∙ sym c.in-None-ending_named.ensures

pub returns-in-None : goal.returns-in-None
returns-in-None c = parts_split c.args.name.now None c.in-None.ensures.cases
