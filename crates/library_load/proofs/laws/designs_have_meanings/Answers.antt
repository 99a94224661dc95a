use Rattle.library_load.proofs.FrontLemmas.{fronts_known}
use Rattle.library_load.proofs.MeaningLemmas.{design_made}
use Rattle.library_load.proofs.SourceLemmas.{sources_made}
use Rattle.library_load.proofs.laws.designs_have_meanings.Goals as goal

pub returns : goal.returns
returns c =
    let names = c.args.names.now in
    let choices = c.choices_have_the_ports_of_their_first_branch.ensures in
    λ typed rows none f m closed.
    let sources = sources_made names.files names.tables names.types rows in
    let fronts = fronts_known names.files names.types choices.first choices.own names.tables sources.0 sources.1 in
    design_made sources.0 names.files names.ranks names.tables names.types sources.1 fronts c.references_fall.ensures none (c.falling_references_denote.ensures sources.0) f m closed
