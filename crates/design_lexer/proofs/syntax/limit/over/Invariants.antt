use Rattle.std.proofs.Common.{◌≡◌, drop}
use Rattle.design_lexer.specs.Syntax.Classes.{lexemes_of}
use Rattle.design_lexer.specs.Syntax.Reading.{over}
use Rattle.design_lexer.proofs.syntax.limit.over.Given as goal

-- what is left is past what is left of the limit where all is past the limit
abbrev pub invariant-loop-at : goal.invariant-loop-at
invariant-loop-at l = over l.left (lexemes_of l.text (drop l.at l.tokens)) ≡ over l.limit (lexemes_of l.text l.tokens)
