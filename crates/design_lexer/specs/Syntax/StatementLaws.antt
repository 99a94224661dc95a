-- What has no token of a class, and what ends with its only `;`.
use Rattle.std.proofs.Common.{◌≡◌, Bool, true, false, ◌||◌, IsTrue, List, [], ◌∷◌, ◌++◌, refl, sym, ap, subst, ◌∙◌, append_assoc, inl, inr}
use Rattle.std.proofs.lemmas.List.Folds.{list_all-append}
use Rattle.std.specs.List.{list_all}
use Rattle.design_lexer.specs.Syntax.ClassLaws.{apart, apart_any}
use Rattle.design_lexer.specs.Syntax.Classes.{Lexeme, is, one_of, has, disjoint}
use Rattle.design_lexer.specs.Syntax.Statements.{AreStatements, HasNoEnd, is_plain}
use Rattle.design_lexer.specs.Syntax.Words.{One, Nothing, Then, Made, Either, Many, Folded, Sym}
use Rattle.design_lexer.specs.declared.syntax.class.Class.TheVariants as class
use Rattle.design_lexer.specs.declared.syntax.class.Class.{Class}
use Rattle.order_core.specs.MemberLaws.{both, true_not}

pub plain_append : (a b : List Lexeme) → IsTrue (list_all is_plain a) → IsTrue (list_all is_plain b) → IsTrue (list_all is_plain (a ++ b))
plain_append a b h k = list_all-append is_plain a b ∙ both (list_all is_plain a) _ h k

plain_one : (t : Lexeme) → is class.Semicolon t ≡ false → IsTrue (list_all is_plain (t ∷ []))
plain_one t h = both (is_plain t) true (true_not (is class.Semicolon t) h) refl

pub one_no_end : (test : Lexeme → Bool) → ((t : Lexeme) → IsTrue (test t) → is class.Semicolon t ≡ false) → HasNoEnd (One test)
one_no_end test f ts x o = subst (λ z. IsTrue (list_all is_plain z)) (sym o.is) (plain_one x (f x o.passes))

no_or : (b : Bool) → (b || false) ≡ false → b ≡ false
no_or true h = h
no_or false h = refl

-- one token of the classes
pub class_no_end : (ds : List Class) → disjoint ds (class.Semicolon ∷ []) ≡ true → HasNoEnd (One (one_of ds))
class_no_end ds k = one_no_end (one_of ds) (λ t h. no_or (is class.Semicolon t) (apart_any ds (class.Semicolon ∷ []) k t h))

pub one_class_no_end : (c : Class) → has c (class.Semicolon ∷ []) ≡ false → HasNoEnd (One (is c))
one_class_no_end c k = one_no_end (is c) (λ t h. no_or (is class.Semicolon t) (apart c (class.Semicolon ∷ []) k t h))

pub nothing_no_end : {A : Type 0} (x : A) → HasNoEnd (Nothing x)
nothing_no_end x ts y n = subst (λ z. IsTrue (list_all is_plain z)) (sym n.is) refl

pub made_no_end : {A B : Type 0} (f : A → B) (W : List Lexeme → A → Type 0) → HasNoEnd W → HasNoEnd (Made f W)
made_no_end f W h ts x w = h ts w.value w.written

pub then_no_end : {A B : Type 0} (W : List Lexeme → A → Type 0) (V : A → List Lexeme → B → Type 0) → HasNoEnd W → ((x : A) → HasNoEnd (V x)) → HasNoEnd (Then W V)
then_no_end W V h k ts y w = subst (λ z. IsTrue (list_all is_plain z)) (sym w.parts) (plain_append w.front w.back (h w.front w.value w.first) (k w.value w.back y w.second))

pub either_no_end : {A : Type 0} (W V : List Lexeme → A → Type 0) → HasNoEnd W → HasNoEnd V → HasNoEnd (Either W V)
either_no_end W V h k ts x (inl w) = h ts x w
either_no_end W V h k ts x (inr v) = k ts x v

many_no_end : {A : Type 0} (W : List Lexeme → A → Type 0) → HasNoEnd W → (xs : List A) (ts : List Lexeme) → Many W ts xs → IsTrue (list_all is_plain ts)
many_no_end W h [] ts m = subst (λ z. IsTrue (list_all is_plain z)) (sym m) refl
many_no_end W h (x ∷ xs) ts m = subst (λ z. IsTrue (list_all is_plain z)) (sym m.2) (plain_append m.0 m.1 (h m.0 x m.3) (many_no_end W h xs m.1 m.4))

pub folded_no_end : {A B : Type 0} (f : B → A → B) (y : B) (W : List Lexeme → A → Type 0) → HasNoEnd W → HasNoEnd (Folded f y W)
folded_no_end f y W h ts z w = many_no_end W h w.value ts w.written

pub sym_no_end : {B : Type 0} (c : Class) → has c (class.Semicolon ∷ []) ≡ false → (V : List Lexeme → B → Type 0) → HasNoEnd V → HasNoEnd (Sym c V)
sym_no_end c k V h = then_no_end (One (is c)) (λ _. V) (one_class_no_end c k) (λ _. h)

-- ---- statements

pub end_statement : {A : Type 0} (x : A) → AreStatements (Sym class.Semicolon (Nothing x))
end_statement x ts y w = record { body = []; stop = w.value; parts = w.parts ∙ last w.front w.back w.value w.first.is w.second.is; plain = refl; ends = w.first.passes }
  where
    last : (front back : List Lexeme) (t : Lexeme) → front ≡ t ∷ [] → back ≡ [] → front ++ back ≡ t ∷ []
    last front back t e k = rw (e, k) refl

pub then_statement : {A B : Type 0} (W : List Lexeme → A → Type 0) (V : A → List Lexeme → B → Type 0) → HasNoEnd W → ((x : A) → AreStatements (V x)) → AreStatements (Then W V)
then_statement W V h k ts y w =
    let s = k w.value w.back y w.second in
    record {
      body = w.front ++ s.body;
      stop = s.stop;
      parts = w.parts ∙ ap (λ (z : List Lexeme). w.front ++ z) s.parts ∙ sym (append_assoc w.front s.body (s.stop ∷ []));
      plain = plain_append w.front s.body (h w.front w.value w.first) s.plain;
      ends = s.ends;
    }

pub sym_statement : {B : Type 0} (c : Class) → has c (class.Semicolon ∷ []) ≡ false → (V : List Lexeme → B → Type 0) → AreStatements V → AreStatements (Sym c V)
sym_statement c k V h = then_statement (One (is c)) (λ _. V) (one_class_no_end c k) (λ _. h)

pub either_statement : {A : Type 0} (W V : List Lexeme → A → Type 0) → AreStatements W → AreStatements V → AreStatements (Either W V)
either_statement W V h k ts x (inl w) = h ts x w
either_statement W V h k ts x (inr v) = k ts x v
