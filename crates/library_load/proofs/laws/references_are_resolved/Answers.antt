use Rattle.library_load.proofs.FrontLemmas.{fronts_known}
use Rattle.library_load.proofs.ResolvedLemmas.{none_unresolved}
use Rattle.library_load.proofs.SourceLemmas.{sources_made}
use Rattle.library_load.proofs.laws.references_are_resolved.Goals as goal

pub returns : goal.returns
returns c =
    let names = c.args.names.now in
    let choices = c.choices_have_the_ports_of_their_first_branch.ensures in
    λ rows none f m bad.
    let sources = sources_made names.files names.tables names.types rows in
    let fronts = fronts_known names.files names.types choices.first choices.own names.tables sources.0 sources.1 in
    none_unresolved names.files names.ranks names.tables names.types sources.0 sources.1 fronts c.references_fall.ensures none f m bad
