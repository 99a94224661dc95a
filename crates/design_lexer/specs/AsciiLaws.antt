-- The bytes of a token are ASCII.
use Rattle.std.proofs.Common.{◌≡◌, ◌∙◌, ◌<◌, refl, ap, subst, arith, ℕ, Bool, true, false, ◌||◌, ◌==◌, nat_lt, IsTrue, List, [], ◌∷◌}
use Rattle.std.specs.Prelude.{codes}
use Rattle.std.specs.List.{list_all, All}
use Rattle.std.specs.Str.{IsAscii}
use Rattle.std.proofs.lemmas.Bool.Decides.{nat_tests}
use Rattle.std.proofs.lemmas.List.Elements.{All-nil, All-cons}
use Rattle.std.proofs.lemmas.List.Folds.{list_all-append}
use Rattle.std.proofs.lemmas.Str.Ascii.{IsAscii-from_all}
use Rattle.order_core.specs.MemberLaws.{first, second, both, any_elim, all_elim}
use Rattle.design_lexer.specs.declared.token.TokenKind.{TokenKind}
use Rattle.design_lexer.specs.declared.token.TokenKind.TheVariants as token
use Rattle.design_lexer.specs.Pieces.{is_letter, is_digit, is_sign, is_pair, is_named, is_symbol, HasForm}
use Rattle.design_lexer.specs.StartLaws.{same_byte, all_of_run, named_all, reserved_named}

abbrev is_low : ℕ → Bool
is_low b = nat_lt b 128

below : (b : ℕ) → IsTrue (is_low b) → b < 128
below b h = grind (arith, nat_tests, h)

low_name : (b : ℕ) → IsTrue (is_letter b || is_digit b) → IsTrue (is_low b)
low_name b h = grind (arith, nat_tests, h)

low_digit : (b : ℕ) → IsTrue (is_digit b) → IsTrue (is_low b)
low_digit b h = grind (arith, nat_tests, h)

low_pair : (a b : ℕ) → IsTrue (is_pair a b) → IsTrue (is_low a) × IsTrue (is_low b)
low_pair a b h = (grind (arith, nat_tests, h), grind (arith, nat_tests, h))

low_sign : (b : ℕ) → IsTrue (is_sign b) → IsTrue (is_low b)
low_sign b h =
    let found = any_elim (λ sign. sign == b) (codes "{}[]()<>=:;,./*+^-") h in
    let all : IsTrue (list_all is_low (codes "{}[]()<>=:;,./*+^-")) = refl in
    subst (λ z. IsTrue (is_low z)) (same_byte found.0 b found.2) (all_elim is_low (codes "{}[]()<>=:;,./*+^-") found.0 all found.1)

all_low : (test : ℕ → Bool) → ((b : ℕ) → IsTrue (test b) → IsTrue (is_low b)) → (bs : List ℕ) → IsTrue (list_all test bs) → IsTrue (list_all is_low bs)
all_low test f [] h = refl
all_low test f (b ∷ bs) h = both (is_low b) _ (f b (first (test b) _ h)) (all_low test f bs (second (test b) _ h))

symbol_low : (bs : List ℕ) → IsTrue (is_symbol bs) → IsTrue (list_all is_low bs)
symbol_low [] h = refl
symbol_low (a ∷ []) h = both (is_low a) _ (low_sign a h) refl
symbol_low (a ∷ b ∷ []) h = let p = low_pair a b h in both (is_low a) _ p.0 (both (is_low b) _ p.1 refl)
symbol_low (a ∷ b ∷ c ∷ bs) h = absurd (let z : false ≡ true = h in cc)

form_low : (k : TokenKind) (bs : List ℕ) → HasForm k bs → IsTrue (list_all is_low bs)
form_low token.Name bs h = all_low _ low_name bs (named_all bs (first (is_named bs) _ h))
form_low token.Word bs h = all_low _ low_name bs (named_all bs (reserved_named bs h))
form_low token.Whole bs h = all_low is_digit low_digit bs (all_of_run is_digit bs h)
form_low token.Decimal bs h =
    let front = all_low is_digit low_digit h.whole (all_of_run is_digit h.whole h.whole_digits) in
    let back = all_low is_digit low_digit h.part (all_of_run is_digit h.part h.part_digits) in
    ap (list_all is_low) h.parts ∙ list_all-append is_low h.whole (46 ∷ h.part) ∙ both (list_all is_low h.whole) _ front back
form_low token.Symbol bs h = symbol_low bs h

all_below : (bs : List ℕ) → IsTrue (list_all is_low bs) → All (λ b. b < 128) bs
all_below [] h = All-nil (λ b. b < 128)
all_below (b ∷ bs) h = All-cons (λ b. b < 128) b bs (below b (first (is_low b) _ h)) (all_below bs (second (is_low b) _ h))

pub form_ascii : (k : TokenKind) (bs : List ℕ) → HasForm k bs → IsAscii bs
form_ascii k bs h = IsAscii-from_all bs (all_below bs (form_low k bs h))
