use Rattle.design_model.specs.Reading.{reads_port}
use Rattle.design_model.specs.ExprRisesLaws.{expression_rises, value_rises}
use Rattle.design_model.proofs.laws.expressions_are_monotone.Goals as goal

pub returns : goal.returns
returns c = record {
  orders = λ t has order orders ports low high e k h reads. expression_rises t has order orders ports (reads_port e) low high reads e (λ i j r. r) k h;
  values = λ t ports low high e k h reads. value_rises t ports (reads_port e) low high reads e (λ i j r. r) k h;
}
