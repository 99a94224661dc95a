-- The first byte of a piece tells of it.
use Rattle.std.proofs.Common.{◌≡◌, refl, subst, ℕ, Bool, true, false, cond, ◌==◌, IsTrue, Some, None}
use Rattle.design_lexer.specs.Pieces.{is_space, is_letter, is_digit, is_sign}
use Rattle.design_lexer.specs.Scan.{start_of}
use Rattle.design_lexer.specs.StartLaws.{some_is}
use Rattle.design_lexer.specs.Starts.{tells}
use Rattle.design_lexer.specs.declared.piece.Start.TheVariants as start
use Rattle.design_lexer.specs.declared.piece.Start.{Start}

pub start_tells : (s : Start) (b : ℕ) → start_of b ≡ Some s → IsTrue (tells s b)
unfolding start_of
start_tells s b h = chain (is_space b) (b == 35) (is_letter b) (is_digit b) (is_sign b) refl refl refl refl refl h
  where
    at : (t : Start) → IsTrue (tells t b) → Some t ≡ Some s → IsTrue (tells s b)
    at t k e = subst (λ z. IsTrue (tells z b)) (some_is t s e) k

    chain : (p q r t u : Bool) → is_space b ≡ p → (b == 35) ≡ q → is_letter b ≡ r → is_digit b ≡ t → is_sign b ≡ u
        → cond p (Some start.Space) (cond q (Some start.Hash) (cond r (Some start.Letter) (cond t (Some start.Digit) (cond u (Some start.Sign) None)))) ≡ Some s
        → IsTrue (tells s b)
    chain true q r t u f1 f2 f3 f4 f5 e = at start.Space f1 e
    chain false true r t u f1 f2 f3 f4 f5 e = at start.Hash f2 e
    chain false false true t u f1 f2 f3 f4 f5 e = at start.Letter f3 e
    chain false false false true u f1 f2 f3 f4 f5 e = at start.Digit f4 e
    chain false false false false true f1 f2 f3 f4 f5 e = at start.Sign f5 e
    chain false false false false false f1 f2 f3 f4 f5 e = absurd (cc)
