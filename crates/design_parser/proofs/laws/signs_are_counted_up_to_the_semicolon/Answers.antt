use Rattle.design_lexer.specs.Syntax.FewLaws.{few_statement, statement_few}
use Rattle.design_parser.proofs.Statements.{rule_statements}
use Rattle.design_parser.proofs.laws.signs_are_counted_up_to_the_semicolon.Goals as goal

pub returns : goal.returns
returns c = λ ts more x limit w. (few_statement limit ts more (rule_statements ts x w), statement_few limit ts more (rule_statements ts x w))
