-- How many items of a list pass a test.
use Rattle.std.specs.Prelude.{◌≡◌, ◌+◌, ◌≤◌, ◌<◌, ℕ, Bool, true, false, IsTrue, List, [], ◌∷◌, length}
use Rattle.std.proofs.Common.{refl, sym, ap, subst, ◌∙◌, arith, inl, inr}
use Rattle.order_core.specs.Members.{IsMember}

abbrev one_if : Bool → ℕ
one_if true = 1
one_if false = 0

abbrev pub passing : {A : Type 0} → (A → Bool) → List A → ℕ
passing test [] = 0
passing test (x ∷ xs) = one_if (test x) + passing test xs

one_if_at_most : (b : Bool) → one_if b ≤ 1
one_if_at_most true = omega arith
one_if_at_most false = omega arith

one_if_rises : (b c : Bool) → (IsTrue b → IsTrue c) → one_if b ≤ one_if c
one_if_rises false c wider = omega arith
one_if_rises true true wider = omega arith
one_if_rises true false wider = let wrong = wider refl in absurd (cc)

one_if_same : (b c : Bool) → one_if b ≡ one_if c → IsTrue c → IsTrue b
one_if_same true c e h = refl
one_if_same false true e h = absurd (omega arith)
one_if_same false false e h = h

pub passing_at_most : {A : Type 0} (test : A → Bool) (xs : List A) → passing test xs ≤ length xs
passing_at_most test [] = omega arith
passing_at_most test (x ∷ xs) = let here = one_if_at_most (test x) in let rest = passing_at_most test xs in omega arith

-- A wider test passes no fewer items.
pub passing_rises : {A : Type 0} (test wider : A → Bool) (xs : List A) → ((x : A) → IsMember x xs → IsTrue (test x) → IsTrue (wider x)) → passing test xs ≤ passing wider xs
passing_rises test wider [] widens = omega arith
passing_rises test wider (x ∷ xs) widens =
    let here = one_if_rises (test x) (wider x) (widens x (inl refl)) in
    let rest = passing_rises test wider xs (λ y m. widens y (inr m)) in omega arith

-- And where it passes no more, it passes the same ones.
pub passing_same : {A : Type 0} (test wider : A → Bool) (xs : List A) → ((x : A) → IsMember x xs → IsTrue (test x) → IsTrue (wider x)) → passing test xs ≡ passing wider xs
    → (x : A) → IsMember x xs → IsTrue (wider x) → IsTrue (test x)
passing_same test wider [] widens e x m h = absurd m
passing_same {A = A} test wider (y ∷ ys) widens e x m h = first_or_later m (passing_same test wider ys (λ z k. widens z (inr k)))
  where
    here : one_if (test y) ≤ one_if (wider y)
    here = one_if_rises (test y) (wider y) (widens y (inl refl))

    rest : passing test ys ≤ passing wider ys
    rest = passing_rises test wider ys (λ z k. widens z (inr k))

    first_or_later : IsMember x (y ∷ ys) → (passing test ys ≡ passing wider ys → (z : A) → IsMember z ys → IsTrue (wider z) → IsTrue (test z)) → IsTrue (test x)
    first_or_later (inl is) later =
        let same : one_if (test y) ≡ one_if (wider y) = omega (arith, here, rest, e) in
        subst (λ z. IsTrue (test z)) (sym is) (one_if_same (test y) (wider y) same (subst (λ z. IsTrue (wider z)) is h))
    first_or_later (inr k) later = later (omega (arith, here, rest, e)) x k h

pub some_pass : {A : Type 0} (test : A → Bool) (xs : List A) (x : A) → IsMember x xs → IsTrue (test x) → 0 < passing test xs
some_pass test [] x m h = absurd m
some_pass test (y ∷ ys) x (inl is) h = let one : one_if (test y) ≡ 1 = ap one_if (sym (ap test is) ∙ h) in omega arith
some_pass test (y ∷ ys) x (inr m) h = let rest = some_pass test ys x m h in omega arith
