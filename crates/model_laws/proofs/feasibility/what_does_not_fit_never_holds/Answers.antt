use Rattle.design_model.specs.HoldsLaws.{holds_fits}
use Rattle.model_laws.proofs.feasibility.what_does_not_fit_never_holds.Goals as goal

pub returns : goal.returns
returns c = holds_fits
