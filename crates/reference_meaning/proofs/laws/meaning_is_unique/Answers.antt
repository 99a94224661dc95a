use Rattle.reference_meaning.specs.DenotesLaws.{at_most_one}
use Rattle.reference_meaning.proofs.laws.meaning_is_unique.Goals as goal

pub returns : goal.returns
returns c = at_most_one
