use Rattle.std.proofs.Common.{◌≡◌, drop}
use Rattle.design_lexer.specs.Syntax.Classes.{starts, one_of}
use Rattle.design_lexer.proofs.syntax.lexemes.Lexemes.starts_any.Given as goal

abbrev pub invariant-loop-class : goal.invariant-loop-class
invariant-loop-class l = starts (one_of (drop l.class-index l.classes)) l.self ≡ starts (one_of l.classes) l.self
