use Rattle.std.proofs.Common.{sym, ◌∙◌}
use Rattle.design_model.proofs.AboveLaws.{witnessed_required, tested, passes}
use Rattle.design_model.proofs.constraint.satisfied.Goals as goal

pub returns : goal.returns
returns c =
    let same = rw (c.greater_kind-kind.ensures, c.greater_value-value.ensures, ← witnessed_required) at c.at_least.ensures in
    ((λ h. tested _ _ _ _ (sym same ∙ h)), λ h. same ∙ passes _ _ _ _ h)
