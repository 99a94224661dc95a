use Rattle.expr_lower.specs.TypedLaws.{reading_typed}
use Rattle.expr_lower.proofs.laws.expressions_are_typed.Goals as goal

pub returns : goal.returns
returns c = reading_typed
