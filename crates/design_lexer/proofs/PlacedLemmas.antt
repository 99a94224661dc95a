-- The place of a part's first token.
use Rattle.std.proofs.Common.{◌≡◌, List, [], ◌∷◌, ◌++◌, refl, sym, ap}
use Rattle.design_lexer.specs.Syntax.Classes.{Lexeme}
use Rattle.design_lexer.specs.Syntax.Parts.{SameHead}
use Rattle.design_lexer.specs.Syntax.Words.{place_or}

head_place : (front ts us : List Lexeme) → SameHead ts us → place_or 0 (front ++ us) ≡ place_or 0 (front ++ ts)
head_place [] [] us h = absurd h
head_place [] (t ∷ ts) [] h = absurd h
head_place [] (t ∷ ts) (u ∷ us) h = ap (λ z. z.at) (sym h)
head_place (t ∷ front) ts us h = refl
