use Rattle.std.proofs.Common.{sym, ◌∙◌}
use Rattle.design_lexer.proofs.Short.{whole_short}
use Rattle.design_lexer.proofs.syntax.lexemes.Lexemes.whole.Goals as goal

pub whole_of-requires-clause-short : goal.whole_of-requires-clause-short
whole_of-requires-clause-short c =
    whole_short c.self.inside.text.now c.self.inside.tokens.now _ c.in-len1-up.len_at_least (sym c.is.ensures ∙ c.if-not-is.false) c.self.invariant
