use Rattle.design_parser.proofs.Depths.{read_depth, rule_depth}
use Rattle.design_parser.proofs.laws.expressions_are_no_deeper_than_the_limits.Goals as goal

pub returns-clause-rules : goal.returns-clause-rules
returns-clause-rules c = λ ts place lower w. rule_depth ts place lower w

pub returns-clause-on_the_way : goal.returns-clause-on_the_way
returns-clause-on_the_way c = λ room ts rest x h e. read_depth room ts rest x h e
