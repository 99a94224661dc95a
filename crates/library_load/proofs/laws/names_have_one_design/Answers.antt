use Rattle.std.proofs.Common.{subst, List, []}
use Rattle.library_load.proofs.LibraryLemmas.{design_there}
use Rattle.library_load.proofs.SourceLemmas.{design_same, sources_same}
use Rattle.reference_meaning.specs.Denotes.{DesignDenotes}
use Rattle.reference_meaning.specs.Sources.{Source}
use Rattle.library_load.proofs.laws.names_have_one_design.Goals as goal

pub returns-clause-there : goal.returns-clause-there
returns-clause-there c = λ files tables types name X d e. design_there files tables types name X d e

pub returns-clause-one : goal.returns-clause-one
returns-clause-one c = λ files tables types name X Y p q.
    let same = sources_same files tables types (c.files_have_one_list_of_rows.ensures tables types) q.sources p.sources q.are_sources p.are_sources in
    design_same p.sources (c.meaning_is_unique.ensures p.sources []) name X Y p.denotes (subst (λ (sources : List Source). DesignDenotes sources name Y) same q.denotes)
