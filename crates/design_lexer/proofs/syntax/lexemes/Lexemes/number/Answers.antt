use Rattle.std.proofs.Common.{sym, ap, ◌∙◌}
use Rattle.design_lexer.specs.Syntax.Classes.{starts, one_of}
use Rattle.design_lexer.specs.Syntax.Spelled.{numbers}
use Rattle.design_lexer.proofs.Short.{number_short}
use Rattle.design_lexer.proofs.syntax.lexemes.Lexemes.number.Goals as goal

pub number_of-number-requires-clause-short : goal.number_of-number-requires-clause-short
number_of-number-requires-clause-short c =
    number_short c.self.inside.text.now c.self.inside.tokens.now _
    (ap (starts (one_of numbers)) c.self.view_is ∙ sym c.starts_any.ensures ∙ c.if-not-starts_any.false) c.self.invariant
