use Rattle.std.proofs.Common.{refl}
use Rattle.design_model.proofs.AboveLaws.{witnessed_provided}
use Rattle.design_model.proofs.constraint.greater_value.Goals as goal

pub returns-in-Some : goal.returns-in-Some
returns-in-Some c = rw (c.in-Inner.is, witnessed_provided, c.get-in-Some.ensures, ← c.in-Some.ensures) refl

pub returns-in-None : goal.returns-in-None
returns-in-None c = rw (c.in-Inner.is, witnessed_provided, ← c.in-None.ensures) refl
