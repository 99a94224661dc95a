use Rattle.design_lexer.specs.AsciiLaws.{form_ascii}
use Rattle.design_lexer.specs.CutLaws.{tokens_stand}
use Rattle.design_lexer.proofs.laws.tokens_have_their_bytes.Goals as goal

pub returns-clause-ascii : goal.returns-clause-ascii
returns-clause-ascii c = form_ascii

pub returns-clause-tokens : goal.returns-clause-tokens
returns-clause-tokens c = tokens_stand
