use Rattle.expr_lower.specs.MeaningLaws.{reading_decided}
use Rattle.expr_lower.specs.ReadingLaws.{reading_at}
use Rattle.expr_lower.proofs.laws.expressions_have_meanings_or_faults.Goals as goal

pub returns-clause-meaning : goal.returns-clause-meaning
returns-clause-meaning c types ports tree = (reading_decided types ports tree).there

pub returns-clause-faultless : goal.returns-clause-faultless
returns-clause-faultless c types ports tree = (reading_decided types ports tree).faultless

pub returns-clause-place : goal.returns-clause-place
returns-clause-place c = reading_at
