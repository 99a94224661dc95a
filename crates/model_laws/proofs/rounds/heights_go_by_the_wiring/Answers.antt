use Rattle.design_model.specs.HeightsLaws.{surveyed_is}
use Rattle.model_laws.proofs.rounds.heights_go_by_the_wiring.Goals as goal

pub returns : goal.returns
returns c = surveyed_is
