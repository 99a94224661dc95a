-- The first byte of a piece tells of it.
use Rattle.std.proofs.Common.{◌≡◌, refl, sym, subst, arith, ℕ, Bool, true, false, not, ◌&&◌, ◌||◌, ◌==◌, IsTrue, List, [], ◌∷◌, ◌++◌, Some}
use Rattle.std.proofs.lemmas.Bool.Decides.{nat_tests}
use Rattle.std.proofs.lemmas.Slice.Eq.{bytes_eq-Decides}
use Rattle.std.specs.List.{list_all}
use Rattle.std.specs.Prelude.{codes}
use Rattle.std.specs.Str.{bytes_eq}
use Rattle.design_lexer.specs.Pieces.{is_space, is_letter, is_digit, is_sign, is_pair, is_run, is_named, is_reserved, reserved, is_symbol, IsPiece}
use Rattle.design_lexer.specs.Scan.{start_of}
use Rattle.design_lexer.specs.Starts.{start_for}
use Rattle.design_lexer.specs.declared.piece.PieceKind.TheVariants as kind
use Rattle.design_lexer.specs.declared.piece.PieceKind.{PieceKind}
use Rattle.design_lexer.specs.declared.piece.Start.TheVariants as start
use Rattle.design_lexer.specs.declared.piece.Start.{Start}
use Rattle.design_lexer.specs.declared.token.TokenKind.TheVariants as token
use Rattle.order_core.specs.MemberLaws.{first, second, both, not_true, any_elim, all_elim}
use Rattle.std.proofs.lemmas.Bool.{or_left}

pub some_is : (s t : Start) → Some s ≡ Some t → s ≡ t
some_is s t e = cc

pub all_of_run : (test : ℕ → Bool) (bs : List ℕ) → IsTrue (is_run test bs) → IsTrue (list_all test bs)
all_of_run test [] h = refl
all_of_run test (b ∷ bs) h = h

pub named_all : (bs : List ℕ) → IsTrue (is_named bs) → IsTrue (list_all (λ c. is_letter c || is_digit c) bs)
named_all [] h = refl
named_all (b ∷ bs) h = both (is_letter b || is_digit b) _ (or_left (is_letter b) _ (first (is_letter b) _ h)) (second (is_letter b) _ h)

-- ---- from the first byte's tests to what it tells

letter_apart : (b : ℕ) → IsTrue (is_letter b) → (is_space b ≡ false) × ((b == 35) ≡ false)
letter_apart b h = (grind (arith, nat_tests, h), grind (arith, nat_tests, h))

digit_apart : (b : ℕ) → IsTrue (is_digit b) → (is_space b ≡ false) × ((b == 35) ≡ false) × (is_letter b ≡ false)
digit_apart b h = (grind (arith, nat_tests, h), grind (arith, nat_tests, h), grind (arith, nat_tests, h))

hash_apart : (b : ℕ) → IsTrue (b == 35) → is_space b ≡ false
hash_apart b h = grind (arith, nat_tests, h)

abbrev plain : ℕ → Bool
plain b = not (is_space b) && (not (b == 35) && (not (is_letter b) && not (is_digit b)))

pub same_byte : (a b : ℕ) → IsTrue (a == b) → a ≡ b
same_byte a b h = grind (arith, nat_tests, h)

sign_plain : (b : ℕ) → IsTrue (is_sign b) → IsTrue (plain b)
sign_plain b h =
    let found = any_elim (λ sign. sign == b) (codes "{}[]()<>=:;,./*+^-") h in
    let all : IsTrue (list_all plain (codes "{}[]()<>=:;,./*+^-")) = refl in
    subst (λ z. IsTrue (plain z)) (same_byte found.0 b found.2) (all_elim plain (codes "{}[]()<>=:;,./*+^-") found.0 all found.1)

pair_sign : (a b : ℕ) → IsTrue (is_pair a b) → IsTrue (is_sign a)
pair_sign a b h = one (a == 60) (a == 62) (a == 45) refl refl refl
  where
    one : (p q r : Bool) → (a == 60) ≡ p → (a == 62) ≡ q → (a == 45) ≡ r → IsTrue (is_sign a)
    one true q r e f g = subst (λ z. IsTrue (is_sign z)) (sym (same_byte a 60 e)) refl
    one false true r e f g = subst (λ z. IsTrue (is_sign z)) (sym (same_byte a 62 f)) refl
    one false false true e f g = subst (λ z. IsTrue (is_sign z)) (sym (same_byte a 45 g)) refl
    one false false false e f g = absurd (let z : false ≡ true = rw (e, f, g) at h in cc)

pub start_space : (b : ℕ) → IsTrue (is_space b) → start_of b ≡ Some start.Space
unfolding start_of
start_space b h = rw h refl

pub start_hash : (b : ℕ) → IsTrue (b == 35) → start_of b ≡ Some start.Hash
unfolding start_of
start_hash b h = rw (hash_apart b h, h) refl

pub start_letter : (b : ℕ) → IsTrue (is_letter b) → start_of b ≡ Some start.Letter
unfolding start_of
start_letter b h = let a = letter_apart b h in rw (a.0, a.1, h) refl

pub start_digit : (b : ℕ) → IsTrue (is_digit b) → start_of b ≡ Some start.Digit
unfolding start_of
start_digit b h = let a = digit_apart b h in rw (a.0, a.1, a.2, h) refl

pub start_sign : (b : ℕ) → IsTrue (is_sign b) → start_of b ≡ Some start.Sign
unfolding start_of
start_sign b h =
    let p = sign_plain b h in
    let q = second (not (is_space b)) _ p in
    let r = second (not (b == 35)) _ q in
    rw (not_true _ (first (not (is_space b)) _ p), not_true _ (first (not (b == 35)) _ q), not_true _ (first (not (is_letter b)) _ r), not_true _ (second (not (is_letter b)) _ r), h) refl

-- a reserved word has the bytes of a name
pub reserved_named : (bs : List ℕ) → IsTrue (is_reserved bs) → IsTrue (is_named bs)
unfolding is_reserved
reserved_named bs h =
    let found = any_elim (λ word. bytes_eq word bs) reserved h in
    let all : IsTrue (list_all is_named reserved) = refl in
    let same : found.0 ≡ bs = (bytes_eq-Decides found.0 bs).0 found.2 in
    subst (λ z. IsTrue (is_named z)) same (all_elim is_named reserved found.0 all found.1)

decimal_first : (b : ℕ) (bs whole part : List ℕ) → b ∷ bs ≡ whole ++ 46 ∷ part → IsTrue (is_run is_digit whole) → IsTrue (is_digit b)
decimal_first b bs [] part e h = absurd (let z : false ≡ true = h in cc)
decimal_first b bs (w ∷ ws) part e h =
    let same : b ≡ w = cc in
    subst (λ z. IsTrue (is_digit z)) (sym same) (first _ _ h)

symbol_first : (b : ℕ) (bs : List ℕ) → IsTrue (is_symbol (b ∷ bs)) → IsTrue (is_sign b)
symbol_first b [] h = h
symbol_first b (c ∷ []) h = pair_sign b c h
symbol_first b (c ∷ d ∷ ds) h = absurd (let z : false ≡ true = h in cc)

pub starts : (k : PieceKind) (b : ℕ) (bs : List ℕ) → IsPiece k (b ∷ bs) → start_of b ≡ Some (start_for k)
starts kind.Spaces b bs h = start_space b (first _ _ h)
starts kind.Comment b bs h = start_hash b (first _ _ h)
starts (kind.Token token.Name) b bs h = start_letter b (first (is_letter b) _ (first (is_named (b ∷ bs)) _ h))
starts (kind.Token token.Word) b bs h = start_letter b (first (is_letter b) _ (reserved_named (b ∷ bs) h))
starts (kind.Token token.Whole) b bs h = start_digit b (first _ _ h)
starts (kind.Token token.Decimal) b bs h = start_digit b (decimal_first b bs h.whole h.part h.parts h.whole_digits)
starts (kind.Token token.Symbol) b bs h = start_sign b (symbol_first b bs h)

-- no piece is empty
pub not_empty : (k : PieceKind) → IsPiece k [] → ⊥
not_empty kind.Spaces h = let z : false ≡ true = h in absurd (cc)
not_empty kind.Comment h = let z : false ≡ true = h in absurd (cc)
not_empty (kind.Token token.Name) h = let z : false ≡ true = h in absurd (cc)
not_empty (kind.Token token.Word) h = let z : false ≡ true = reserved_named [] h in absurd (cc)
not_empty (kind.Token token.Whole) h = let z : false ≡ true = h in absurd (cc)
not_empty (kind.Token token.Decimal) h = never h.whole h.part h.parts
  where
    never : (whole part : List ℕ) → [] ≡ whole ++ 46 ∷ part → ⊥
    never [] part e = absurd (cc)
    never (w ∷ ws) part e = absurd (cc)
not_empty (kind.Token token.Symbol) h = let z : false ≡ true = h in absurd (cc)
