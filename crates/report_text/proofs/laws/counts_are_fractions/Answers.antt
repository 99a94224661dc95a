use Rattle.report_text.specs.CountLaws.{fraction_text}
use Rattle.report_text.proofs.laws.counts_are_fractions.Goals as goal

pub returns : goal.returns
returns c = fraction_text
