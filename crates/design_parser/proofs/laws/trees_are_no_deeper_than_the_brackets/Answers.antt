use Rattle.design_parser.proofs.BracketDepths.{reference_bounded, type_bounded, value_bounded}
use Rattle.design_parser.proofs.laws.trees_are_no_deeper_than_the_brackets.Goals as goal

pub returns-clause-types : goal.returns-clause-types
returns-clause-types c = λ room ts x w. type_bounded room ts x w

pub returns-clause-values : goal.returns-clause-values
returns-clause-values c = λ room ts x w. value_bounded room ts x w

pub returns-clause-references : goal.returns-clause-references
returns-clause-references c = λ room ts x w. reference_bounded room ts x w
