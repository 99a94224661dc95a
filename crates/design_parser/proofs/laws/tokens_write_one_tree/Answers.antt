use Rattle.design_lexer.specs.Syntax.Classes.{one_of}
use Rattle.design_lexer.specs.Syntax.FaultLaws.{written_once}
use Rattle.design_lexer.specs.Syntax.Parts.{none}
use Rattle.design_parser.specs.Grammar.{Query, Written}
use Rattle.design_parser.specs.Readers.{file_at, maybe_cells_at}
use Rattle.design_parser.proofs.BodyParts.{file_part, query_part}
use Rattle.design_parser.proofs.ValueParts.{cells_on}
use Rattle.design_parser.proofs.laws.tokens_write_one_tree.Goals as goal

pub returns-clause-files : goal.returns-clause-files
returns-clause-files c = λ kind ts a b. written_once none (Written kind) (file_at kind) (file_part kind) ts a b

pub returns-clause-queries : goal.returns-clause-queries
returns-clause-queries c = λ ts a b. written_once (one_of cells_on) Query maybe_cells_at query_part ts a b
