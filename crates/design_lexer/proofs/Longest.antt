-- The piece that is computed is the longest.
use Rattle.std.proofs.Common.{◌≡◌, ◌∙◌, ◌≤◌, ◌<◌, ◌+◌, refl, sym, ap, subst, arith, ℕ, zero, suc, Bool, true, false, not, cond, ◌||◌, ◌==◌, IsTrue, List, [], ◌∷◌, ◌++◌, length, take, drop, Some, inl, inr}
use Rattle.std.specs.List.{list_all}
use Rattle.std.proofs.lemmas.Bool.Decides.{nat_tests}
use Rattle.std.proofs.lemmas.List.{length-drop}
use Rattle.order_core.specs.MemberLaws.{first, second, both, decide, true_not}
use Rattle.design_lexer.specs.declared.token.TokenKind.TheVariants as token
use Rattle.design_lexer.specs.declared.piece.PieceKind.{PieceKind}
use Rattle.design_lexer.specs.declared.piece.PieceKind.TheVariants as kind
use Rattle.design_lexer.specs.declared.piece.Start.{Start}
use Rattle.design_lexer.specs.declared.piece.Start.TheVariants as start
use Rattle.design_lexer.specs.Pieces.{is_space, is_letter, is_digit, is_sign, is_pair, is_run, is_comment, is_named, is_reserved, IsDecimal, is_symbol, IsPiece}
use Rattle.design_lexer.specs.Cut.{IsLongest}
use Rattle.design_lexer.specs.Scan.{start_of, goes_on, run, word_kind, point_and, fraction, number_kind, number, symbol_len, longest_piece}
use Rattle.design_lexer.specs.Starts.{start_for}
use Rattle.design_lexer.specs.StartLaws.{some_is, same_byte, all_of_run, named_all, starts, reserved_named, not_empty}
use Rattle.design_lexer.proofs.StartLemmas.{start_tells}
use Rattle.std.proofs.lemmas.Bool.{or_left}

-- ---- runs

run_within : (test : ℕ → Bool) (bs : List ℕ) → run test bs ≤ length bs
run_within test [] = omega arith
run_within test (b ∷ bs) = elim (decide (test b)) [ inl h ↦ rw h (let l = run_within test bs in omega arith) | inr h ↦ rw h (omega arith) ]

run_all : (test : ℕ → Bool) (bs : List ℕ) → IsTrue (list_all test (take (run test bs) bs))
run_all test [] = refl
run_all test (b ∷ bs) = elim (decide (test b)) [ inl h ↦ rw (h, h) (run_all test bs) | inr h ↦ rw h refl ]

run_most : (test : ℕ → Bool) (bs : List ℕ) (m : ℕ) → m ≤ length bs → IsTrue (list_all test (take m bs)) → m ≤ run test bs
run_most test bs zero l h = omega arith
run_most test [] (suc m) l h = l
run_most test (b ∷ bs) (suc m) l h =
    elim (decide (test b)) [
      | inl t ↦ rw t (let r = run_most test bs m (omega arith) (rw t at h) in omega arith)
      | inr t ↦ absurd (let z : false ≡ true = rw t at h in cc)
    ]

run_first : (test : ℕ → Bool) (b : ℕ) (bs : List ℕ) → IsTrue (test b) → run test (b ∷ bs) ≡ suc (run test bs)
run_first test b bs h = rw h refl

begins : (j : PieceKind) (b : ℕ) (bs : List ℕ) (m : ℕ) (s : Start) → start_of b ≡ Some s → IsPiece j (take m (b ∷ bs)) → start_for j ≡ s
begins j b bs zero s h q = absurd (not_empty j q)
begins j b bs (suc m) s h q = some_is (start_for j) s (sym (starts j b (take m bs) q) ∙ h)

-- ---- spaces, comments and words

abbrev is_run_start : Start → Bool
is_run_start start.Space = true
is_run_start start.Hash = true
is_run_start start.Letter = true
is_run_start start.Digit = false
is_run_start start.Sign = false

hash_goes_on : (b : ℕ) → IsTrue (b == 35) → IsTrue (not (b == 10))
hash_goes_on b h = grind (arith, nat_tests, h)

named_passes : (bs : List ℕ) → IsTrue (is_named bs) → IsTrue (list_all (goes_on start.Letter) bs)
unfolding goes_on
named_passes bs h = named_all bs h

comment_passes : (bs : List ℕ) → IsTrue (is_comment bs) → IsTrue (list_all (goes_on start.Hash) bs)
unfolding goes_on
comment_passes [] h = refl
comment_passes (b ∷ bs) h = both (not (b == 10)) _ (hash_goes_on b (first (b == 35) _ h)) (second (b == 35) _ h)

spaces_pass : (bs : List ℕ) → IsTrue (is_run is_space bs) → IsTrue (list_all (goes_on start.Space) bs)
unfolding goes_on
spaces_pass bs h = all_of_run is_space bs h

passes : (j : PieceKind) (bs : List ℕ) → IsTrue (is_run_start (start_for j)) → IsPiece j bs → IsTrue (list_all (goes_on (start_for j)) bs)
passes kind.Spaces bs r h = spaces_pass bs h
passes kind.Comment bs r h = comment_passes bs h
passes (kind.Token token.Name) bs r h = named_passes bs (first (is_named bs) _ h)
passes (kind.Token token.Word) bs r h = named_passes bs (reserved_named bs h)
passes (kind.Token token.Whole) bs r h = absurd (let z : false ≡ true = r in cc)
passes (kind.Token token.Decimal) bs r h = absurd (let z : false ≡ true = r in cc)
passes (kind.Token token.Symbol) bs r h = absurd (let z : false ≡ true = r in cc)

run_longest : (k : PieceKind) (s : Start) (b : ℕ) (bs : List ℕ) → IsTrue (is_run_start s) → start_of b ≡ Some s
    → IsPiece k (take (run (goes_on s) (b ∷ bs)) (b ∷ bs)) → IsLongest (record { kind = k; len = run (goes_on s) (b ∷ bs) }) (b ∷ bs)
run_longest k s b bs r h p = record {
  within = run_within (goes_on s) (b ∷ bs);
  is_piece = p;
  longest = λ j m l q.
      let e = begins j b bs m s h q in
      run_most (goes_on s) (b ∷ bs) m l
      (subst (λ z. IsTrue (list_all (goes_on z) (take m (b ∷ bs)))) e (passes j (take m (b ∷ bs)) (subst (λ z. IsTrue (is_run_start z)) (sym e) r) q));
}

spaces_piece : (b : ℕ) (bs : List ℕ) → IsTrue (is_space b) → IsTrue (is_run is_space (take (run (goes_on start.Space) (b ∷ bs)) (b ∷ bs)))
unfolding goes_on
spaces_piece b bs h =
    subst (λ n. IsTrue (is_run is_space (take n (b ∷ bs)))) (sym (run_first is_space b bs h)) (both (is_space b) _ h (run_all is_space bs))

comment_piece : (b : ℕ) (bs : List ℕ) → IsTrue (b == 35) → IsTrue (is_comment (take (run (goes_on start.Hash) (b ∷ bs)) (b ∷ bs)))
unfolding goes_on
comment_piece b bs h =
    subst (λ n. IsTrue (is_comment (take n (b ∷ bs)))) (sym (run_first (λ c. not (c == 10)) b bs (hash_goes_on b h)))
    (both (b == 35) _ h (run_all (λ c. not (c == 10)) bs))

named_piece : (b : ℕ) (bs : List ℕ) → IsTrue (is_letter b) → IsTrue (is_named (take (run (goes_on start.Letter) (b ∷ bs)) (b ∷ bs)))
unfolding goes_on
named_piece b bs h =
    subst (λ n. IsTrue (is_named (take n (b ∷ bs)))) (sym (run_first (λ c. is_letter c || is_digit c) b bs (or_left (is_letter b) _ h)))
    (both (is_letter b) _ h (run_all (λ c. is_letter c || is_digit c) bs))

word_piece : (bs : List ℕ) → IsTrue (is_named bs) → IsPiece (kind.Token (word_kind bs)) bs
word_piece bs h = of (is_reserved bs) refl
  where
    of : (r : Bool) → is_reserved bs ≡ r → IsPiece (kind.Token (cond r token.Word token.Name)) bs
    of true e = e
    of false e = both (is_named bs) _ h (true_not (is_reserved bs) e)

-- ---- numbers

take_none : (m : ℕ) → take {A = ℕ} m [] ≡ []
take_none zero = refl
take_none (suc m) = refl

take_sum : (n m : ℕ) (bs : List ℕ) → take (n + m) bs ≡ take n bs ++ take m (drop n bs)
take_sum zero m bs = let e : 0 + m ≡ m = omega arith in ap (λ z. take z bs) e
take_sum (suc n) m [] = take_none (suc n + m) ∙ sym (take_none m)
take_sum (suc n) m (b ∷ bs) =
    let e : suc n + m ≡ suc (n + m) = omega arith in
    ap (λ z. take z (b ∷ bs)) e ∙ ap (λ z. b ∷ z) (take_sum n m bs)

append_none : (bs : List ℕ) → bs ++ [] ≡ bs
append_none [] = refl
append_none (b ∷ bs) = ap (λ z. b ∷ z) (append_none bs)

not_zero : (k : ℕ) → (suc k == 0) ≡ false
not_zero k = grind (arith, nat_tests)

point_is : (k : ℕ) → point_and (suc k) ≡ suc (suc k)
point_is k = let e : suc k + 1 ≡ suc (suc k) = omega arith in rw (not_zero k) e

decimal_is : (k : ℕ) → number_kind (suc (suc k)) ≡ token.Decimal
decimal_is k = rw (not_zero (suc k)) refl

digits_run : (ds : List ℕ) (k : ℕ) → run (goes_on start.Digit) ds ≡ suc k → IsTrue (is_run is_digit (take (suc k) ds))
unfolding goes_on
digits_run [] k e = absurd (omega (arith, e))
digits_run (d ∷ ds) k e = subst (λ n. IsTrue (list_all is_digit (take n (d ∷ ds)))) e (run_all is_digit (d ∷ ds))

front_piece : (front rest : List ℕ) → IsTrue (is_run is_digit front) → IsPiece (kind.Token (number_kind (fraction rest))) (front ++ take (fraction rest) rest)
front_piece front [] h = subst (λ z. IsTrue (is_run is_digit z)) (sym (append_none front)) h
front_piece front (p ∷ ds) h = of (p == 46) refl (run (goes_on start.Digit) ds) refl
  where
    whole : IsTrue (is_run is_digit (front ++ []))
    whole = subst (λ z. IsTrue (is_run is_digit z)) (sym (append_none front)) h

    of : (q : Bool) → (p == 46) ≡ q → (r : ℕ) → run (goes_on start.Digit) ds ≡ r
        → IsPiece (kind.Token (number_kind (cond q (point_and r) 0))) (front ++ take (cond q (point_and r) 0) (p ∷ ds))
    of false e r f = whole
    of true e zero f = whole
    of true e (suc k) f =
        let is : IsDecimal (front ++ take (suc (suc k)) (p ∷ ds)) =
        record {
          whole = front;
          part = take (suc k) ds;
          parts = ap (λ z. front ++ z ∷ take (suc k) ds) (same_byte p 46 e);
          whole_digits = h;
          part_digits = digits_run ds k f;
        } in
        subst (λ z. IsPiece (kind.Token (number_kind z)) (front ++ take z (p ∷ ds))) (sym (point_is k))
        (subst (λ t. IsPiece (kind.Token t) (front ++ take (suc (suc k)) (p ∷ ds))) (sym (decimal_is k)) is)

fraction_within : (rest : List ℕ) → fraction rest ≤ length rest
fraction_within [] = omega arith
fraction_within (p ∷ ds) = of (p == 46) (run (goes_on start.Digit) ds) (run_within (goes_on start.Digit) ds)
  where
    of : (q : Bool) (r : ℕ) → r ≤ length ds → cond q (point_and r) 0 ≤ suc (length ds)
    of false r l = omega arith
    of true zero l = omega arith
    of true (suc k) l = subst (λ z. z ≤ suc (length ds)) (sym (point_is k)) (omega arith)

decimal_most : (whole part bs : List ℕ) (m : ℕ) → m ≤ length bs → take m bs ≡ whole ++ 46 ∷ part → IsTrue (list_all is_digit whole) → IsTrue (is_run is_digit part)
    → m ≤ run is_digit bs + fraction (drop (run is_digit bs) bs)
unfolding goes_on
decimal_most whole part bs zero l e w p = omega arith
decimal_most whole part [] (suc m) l e w p = absurd (omega arith)
decimal_most [] part (b ∷ bs) (suc m) l e w p =
    let is_point : b ≡ 46 = cc in
    let rest : take m bs ≡ part = cc in
    let digits = subst (λ z. IsTrue (is_run is_digit z)) (sym rest) p in
    subst (λ z. suc m ≤ run is_digit (z ∷ bs) + fraction (drop (run is_digit (z ∷ bs)) (z ∷ bs))) (sym is_point)
    (after (run is_digit bs) m (run_most is_digit bs m (omega arith) (all_of_run is_digit (take m bs) digits)) (some m digits))
  where
    some : (m : ℕ) → IsTrue (is_run is_digit (take m bs)) → 0 < m
    some zero h = absurd (let z : false ≡ true = h in cc)
    some (suc m) h = omega arith

    after : (r m : ℕ) → m ≤ r → 0 < m → suc m ≤ 0 + point_and r
    after zero m l s = absurd (omega arith)
    after (suc r) m l s = subst (λ z. suc m ≤ 0 + z) (sym (point_is r)) (omega arith)
decimal_most (w ∷ ws) part (b ∷ bs) (suc m) l e h p =
    let same : b ≡ w = cc in
    let rest : take m bs ≡ ws ++ 46 ∷ part = cc in
    let digit : is_digit b ≡ true = subst (λ z. IsTrue (is_digit z)) (sym same) (first (is_digit w) _ h) in
    let r = decimal_most ws part bs m (omega arith) rest (second (is_digit w) _ h) p in
    rw (digit) (omega (arith, r))

number_most : (j : PieceKind) (bs : List ℕ) (m : ℕ) → m ≤ length bs → start_for j ≡ start.Digit → IsPiece j (take m bs)
    → m ≤ run (goes_on start.Digit) bs + fraction (drop (run (goes_on start.Digit) bs) bs)
unfolding goes_on
number_most (kind.Token token.Whole) bs m l e h = let r = run_most is_digit bs m l (all_of_run is_digit (take m bs) h) in omega (arith, r)
number_most (kind.Token token.Decimal) bs m l e h = decimal_most h.whole h.part bs m l h.parts (all_of_run is_digit h.whole h.whole_digits) h.part_digits
number_most kind.Spaces bs m l e h = absurd (cc)
number_most kind.Comment bs m l e h = absurd (cc)
number_most (kind.Token token.Name) bs m l e h = absurd (cc)
number_most (kind.Token token.Word) bs m l e h = absurd (cc)
number_most (kind.Token token.Symbol) bs m l e h = absurd (cc)

digits_piece : (b : ℕ) (bs : List ℕ) → IsTrue (is_digit b) → IsTrue (is_run is_digit (take (run (goes_on start.Digit) (b ∷ bs)) (b ∷ bs)))
unfolding goes_on
digits_piece b bs h =
    subst (λ n. IsTrue (is_run is_digit (take n (b ∷ bs)))) (sym (run_first is_digit b bs h)) (both (is_digit b) _ h (run_all is_digit bs))

number_longest : (b : ℕ) (bs : List ℕ) → start_of b ≡ Some start.Digit → IsLongest (number (b ∷ bs)) (b ∷ bs)
number_longest b bs h =
    let n = run (goes_on start.Digit) (b ∷ bs) in
    record {
      within = omega (arith, run_within (goes_on start.Digit) (b ∷ bs), fraction_within (drop n (b ∷ bs)), length-drop n (b ∷ bs));
      is_piece =
          subst (λ z. IsPiece (kind.Token (number_kind (fraction (drop n (b ∷ bs))))) z) (sym (take_sum n (fraction (drop n (b ∷ bs))) (b ∷ bs)))
          (front_piece (take n (b ∷ bs)) (drop n (b ∷ bs)) (digits_piece b bs (start_tells start.Digit b h)));
      longest = λ j m l q. number_most j (b ∷ bs) m l (begins j b bs m start.Digit h q) q;
    }

-- ---- symbols

symbol_is : (j : PieceKind) (bs : List ℕ) → start_for j ≡ start.Sign → IsPiece j bs → IsTrue (is_symbol bs)
symbol_is (kind.Token token.Symbol) bs e h = h
symbol_is (kind.Token token.Whole) bs e h = absurd (cc)
symbol_is (kind.Token token.Decimal) bs e h = absurd (cc)
symbol_is kind.Spaces bs e h = absurd (cc)
symbol_is kind.Comment bs e h = absurd (cc)
symbol_is (kind.Token token.Name) bs e h = absurd (cc)
symbol_is (kind.Token token.Word) bs e h = absurd (cc)

symbol_within : (b : ℕ) (bs : List ℕ) → symbol_len (b ∷ bs) ≤ length (b ∷ bs)
symbol_within b [] = omega arith
symbol_within b (c ∷ cs) = elim (decide (is_pair b c)) [ inl h ↦ rw h (omega arith) | inr h ↦ rw h (omega arith) ]

symbol_piece : (b : ℕ) (bs : List ℕ) → IsTrue (is_sign b) → IsTrue (is_symbol (take (symbol_len (b ∷ bs)) (b ∷ bs)))
symbol_piece b [] h = h
symbol_piece b (c ∷ cs) h = of (is_pair b c) refl
  where
    of : (q : Bool) → is_pair b c ≡ q → IsTrue (is_symbol (take (cond q 2 1) (b ∷ c ∷ cs)))
    of true e = e
    of false e = h

symbol_most : (bs : List ℕ) (m : ℕ) → m ≤ length bs → IsTrue (is_symbol (take m bs)) → m ≤ symbol_len bs
symbol_most bs zero l h = omega arith
symbol_most [] (suc m) l h = absurd (omega arith)
symbol_most (b ∷ []) (suc m) l h = l
symbol_most (b ∷ c ∷ cs) (suc zero) l h = elim (decide (is_pair b c)) [ inl q ↦ rw q (omega arith) | inr q ↦ rw q (omega arith) ]
symbol_most (b ∷ c ∷ cs) (suc (suc zero)) l h = rw h (omega arith)
symbol_most (b ∷ c ∷ []) (suc (suc (suc m))) l h = absurd (omega arith)
symbol_most (b ∷ c ∷ d ∷ ds) (suc (suc (suc m))) l h = absurd (let z : false ≡ true = h in cc)

-- ---- all together

pub piece_longest : (s : Start) (b : ℕ) (bs : List ℕ) → start_of b ≡ Some s → IsLongest (longest_piece s (b ∷ bs)) (b ∷ bs)
piece_longest start.Space b bs h = run_longest kind.Spaces start.Space b bs refl h (spaces_piece b bs (start_tells start.Space b h))
piece_longest start.Hash b bs h = run_longest kind.Comment start.Hash b bs refl h (comment_piece b bs (start_tells start.Hash b h))
piece_longest start.Letter b bs h =
    let named = named_piece b bs (start_tells start.Letter b h) in
    run_longest (kind.Token (word_kind (take (run (goes_on start.Letter) (b ∷ bs)) (b ∷ bs)))) start.Letter b bs refl h
    (word_piece (take (run (goes_on start.Letter) (b ∷ bs)) (b ∷ bs)) named)
piece_longest start.Digit b bs h = number_longest b bs h
piece_longest start.Sign b bs h = record {
  within = symbol_within b bs;
  is_piece = symbol_piece b bs (start_tells start.Sign b h);
  longest = λ j m l q. symbol_most (b ∷ bs) m l (symbol_is j (take m (b ∷ bs)) (begins j b bs m start.Sign h q) q);
}
