use Rattle.design_model.specs.ExprRisesLaws.{typed_value}
use Rattle.design_model.proofs.laws.typed_expressions_have_values.Goals as goal

pub returns : goal.returns
returns c = typed_value
