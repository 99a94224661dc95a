use Rattle.unit_core.specs.RatioLaws.{lowest_is, lowest_only}
use Rattle.unit_core.proofs.laws.lowest_is_in_lowest_terms.Goals as goal

pub returns : goal.returns
returns c = record { is = lowest_is; only = lowest_only }
