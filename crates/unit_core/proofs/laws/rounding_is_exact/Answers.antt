use Rattle.unit_core.specs.RoundingLaws.{ceiling_is, floor_is}
use Rattle.unit_core.proofs.laws.rounding_is_exact.Goals as goal

pub returns : goal.returns
returns c = record { up = ceiling_is; down = floor_is }
