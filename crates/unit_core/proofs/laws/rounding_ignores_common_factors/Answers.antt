use Rattle.unit_core.specs.RoundingLaws.{ceiling_lowest, floor_lowest}
use Rattle.unit_core.proofs.laws.rounding_ignores_common_factors.Goals as goal

pub returns : goal.returns
returns c = record { up = ceiling_lowest; down = floor_lowest }
