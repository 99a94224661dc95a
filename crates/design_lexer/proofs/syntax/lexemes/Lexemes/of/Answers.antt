use Rattle.design_lexer.specs.CutLaws.{tokens_stand}
use Rattle.design_lexer.proofs.syntax.lexemes.Lexemes.of.Goals as goal

pub invariant_of-result : goal.invariant_of-result
invariant_of-result c = rw c.items.ensures (tokens_stand c.args.text.now c.args.tokens.now c.requires)
