use Rattle.expr_lower.proofs.WorkedLemmas.{constants_multiplied, scaled_left, scaled_right, sum_left, sum_right}
use Rattle.expr_lower.proofs.laws.expressions_worked_out.Goals as goal

pub returns : goal.returns
returns c = record { sum_left = sum_left; sum_right = sum_right; constants = constants_multiplied; scaled_left = scaled_left; scaled_right = scaled_right }
