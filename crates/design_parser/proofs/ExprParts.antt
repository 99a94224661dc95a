-- Places, expressions and rules are read as they are written.
use Rattle.std.proofs.Common.{◌≡◌, ℕ, zero, suc, true, List, [], ◌∷◌, Some, None, Result, refl}
use Rattle.design_lexer.specs.declared.tree.NameAt.{NameAt}
use Rattle.design_lexer.specs.declared.tree.ExprTree.{ExprTree}
use Rattle.design_lexer.specs.declared.tree.ExprTree.TheVariants as expr
use Rattle.design_lexer.specs.declared.tree.RuleTree.TheVariants as rule
use Rattle.design_lexer.specs.declared.syntax.class.Class.{Class}
use Rattle.design_lexer.specs.declared.syntax.class.Class.TheVariants as class
use Rattle.design_lexer.specs.Syntax.Classes.{Lexeme, is, one_of, has, all_in}
use Rattle.design_lexer.specs.Syntax.Words.{Nothing, Then, Made, Either, Sym, Mark, Maybe}
use Rattle.design_lexer.specs.Syntax.Reading.{made_at, either_at, sym_at, mark_at, maybe_at}
use Rattle.design_lexer.specs.Syntax.Spelled.{numbers, name_at}
use Rattle.design_lexer.specs.Syntax.Parts.{Part, Begins, none}
use Rattle.design_lexer.specs.Syntax.PartLaws.{made_part, nothing_part}
use Rattle.design_lexer.specs.Syntax.ClassLaws.{mark_part, begins_mark, sym_part, closed_then, open_then, begins_made, begins_then, begins_either, begins_in, begins_more, begins_sym, choice_part, choice_any, choice_or, optional_part, after_part, with_more, swapped, shared, else_or, made_or}
use Rattle.design_lexer.specs.Syntax.FewLaws.{few_part}
use Rattle.design_parser.specs.Trees.{literal_expr, place, sum, product, greatest, lesser}
use Rattle.design_parser.specs.Grammar.{Name, Constant, LiteralAfter, LiteralOf, Bracketed, PlaceAfter, Place, PlainItem, Round, Operands, Call, Term, Sums, Item, Expr, RuleOf, Rule}
use Rattle.design_parser.specs.Readers.{constant_at, literal_after, bracketed_at, plain_starts, place_after, place_at, named_after, named_at, plain_item_at, round_at, operands_at, greatest_at, lesser_at, tuple_at, opened_at, term_of, sums_of, item_at, term_at, expr_at, above_at, ignore_at, whole_rule_at, rule_at}
use Rattle.design_parser.proofs.NameParts.{name_part, begins_name, constant_on, constant_part, begins_constant, literal_after_part, begins_literal}
use Rattle.design_parser.proofs.ValueParts.{bracketed_part, begins_bracketed}
use Rattle.design_parser.proofs.Statements.{rule_statements}

-- ---- places

pub place_after_part : (first : NameAt) → Part (one_of (class.Dot ∷ [])) (PlaceAfter first) (place_after first)
place_after_part first = made_part (one_of (class.Dot ∷ [])) (place first) (Maybe (Sym class.Dot Name)) (maybe_at (is class.Dot) (sym_at class.Dot name_at))
    (optional_part (class.Dot ∷ []) class.Dot refl (Made (λ x. Some x) (Sym class.Dot Name)) None _ (begins_made (is class.Dot) (λ x. Some x) _ (begins_sym class.Dot Name))
    (with_more [] (class.Dot ∷ []) refl _ _ (made_part none (λ x. Some x) _ _ (sym_part class.Dot refl none Name name_at name_part))))

pub place_part : Part (one_of (class.Dot ∷ [])) Place place_at
place_part = closed_then (one_of (class.Dot ∷ [])) Name _ name_at _ name_part place_after_part

pub begins_place : Begins (is class.Name) Place
begins_place = begins_then (is class.Name) Name _ begins_name

-- ---- items without brackets

abbrev pub named_on : List Class
named_on = class.Colon ∷ class.Dot ∷ []

named_after_part : (n : NameAt) → Part (one_of named_on) (Either (Made literal_expr (LiteralAfter n)) (Made (λ p. expr.Place p) (PlaceAfter n))) (named_after n)
named_after_part n =
    choice_or named_on (class.Dot ∷ []) class.Colon refl refl (Made literal_expr (LiteralAfter n)) (Made (λ p. expr.Place p) (PlaceAfter n)) (made_at literal_expr (literal_after n)) (made_at (λ p. expr.Place p) (place_after n))
    (begins_made (is class.Colon) literal_expr (LiteralAfter n) (begins_sym class.Colon _))
    (made_or (one_of (class.Dot ∷ [])) (λ p. expr.Place p) (PlaceAfter n) (made_or (one_of (class.Dot ∷ [])) (place n) (Maybe (Sym class.Dot Name))
    (else_or (one_of (class.Dot ∷ [])) None (Made (λ x. Some x) (Sym class.Dot Name)) (begins_in class.Dot (class.Dot ∷ []) refl _ (begins_made (is class.Dot) (λ x. Some x) _ (begins_sym class.Dot Name))))))
    (with_more [] named_on refl _ _ (made_part none literal_expr (LiteralAfter n) (literal_after n) (literal_after_part n)))
    (with_more (class.Dot ∷ []) named_on refl _ _ (made_part (one_of (class.Dot ∷ [])) (λ p. expr.Place p) (PlaceAfter n) (place_after n) (place_after_part n)))

named_part : Part (one_of named_on) (Either (Made literal_expr LiteralOf) (Made (λ p. expr.Place p) Place)) named_at
named_part = shared (one_of named_on) Name literal_expr LiteralAfter (λ p. expr.Place p) PlaceAfter named_at (closed_then (one_of named_on) Name _ name_at _ name_part named_after_part)

begins_named : Begins (is class.Name) (Either (Made literal_expr LiteralOf) (Made (λ p. expr.Place p) Place))
begins_named = begins_either (is class.Name) (Made literal_expr LiteralOf) (Made (λ p. expr.Place p) Place) (begins_made (is class.Name) literal_expr LiteralOf begins_literal) (begins_made (is class.Name) _ Place begins_place)

abbrev pub plain_on : List Class
plain_on = class.Colon ∷ constant_on

plain_item_part : Part (one_of plain_on) PlainItem plain_item_at
plain_item_part =
    choice_any plain_on (class.Name ∷ []) numbers refl (Made (λ c. expr.Constant c) Constant) _ (made_at (λ c. expr.Constant c) constant_at) named_at
    (begins_made (one_of numbers) _ Constant begins_constant) (begins_in class.Name (class.Name ∷ []) refl _ begins_named)
    (with_more constant_on plain_on refl _ _ (made_part (one_of constant_on) _ Constant constant_at constant_part)) (with_more named_on plain_on refl _ _ named_part)

begins_plain_item : Begins (one_of plain_starts) PlainItem
begins_plain_item = begins_either (one_of plain_starts) (Made (λ c. expr.Constant c) Constant) _
    (begins_more numbers plain_starts refl _ (begins_made (one_of numbers) _ Constant begins_constant)) (begins_in class.Name plain_starts refl _ begins_named)

-- ---- items with brackets

abbrev pub sums_on : List Class
sums_on = class.Plus ∷ class.Star ∷ plain_on

round_part : (E : List Lexeme → ExprTree → Type 0) (e : List Lexeme → Result (ExprTree × List Lexeme) ℕ) → Part (one_of sums_on) E e → Part none (Round E) (round_at e)
round_part E e g =
    sym_part class.LeftRound refl none _ _ (
    open_then sums_on none class.RightRound refl E _ e _ g (λ x.
    sym_part class.RightRound refl none _ _ (nothing_part none x)))

operands_part : (E : List Lexeme → ExprTree → Type 0) (e : List Lexeme → Result (ExprTree × List Lexeme) ℕ) → Part (one_of sums_on) E e → Part none (Operands E) (operands_at e)
operands_part E e g =
    sym_part class.LeftRound refl none _ _ (
    open_then sums_on none class.Comma refl E _ e _ g (λ left.
    sym_part class.Comma refl none _ _ (
    open_then sums_on none class.RightRound refl E _ e _ g (λ right.
    sym_part class.RightRound refl none _ _ (nothing_part none (left, right))))))

call_part : (E : List Lexeme → ExprTree → Type 0) (e : List Lexeme → Result (ExprTree × List Lexeme) ℕ) → Part (one_of sums_on) E e → Part none (Call E) (either_at (is class.Max) (greatest_at e) (lesser_at e))
call_part E e g =
    choice_part [] (class.Min ∷ []) class.Max refl (Then (Mark class.Max) (λ at. Made (greatest at) (Operands E))) (Then (Mark class.Min) (λ at. Made (lesser at) (Operands E))) (greatest_at e) (lesser_at e)
    (begins_then (is class.Max) (Mark class.Max) _ (begins_mark class.Max)) (begins_in class.Min (class.Min ∷ []) refl _ (begins_then (is class.Min) (Mark class.Min) _ (begins_mark class.Min)))
    (closed_then none (Mark class.Max) _ (mark_at class.Max) _ (mark_part class.Max refl) (λ at. made_part none (greatest at) (Operands E) (operands_at e) (operands_part E e g)))
    (closed_then none (Mark class.Min) _ (mark_at class.Min) _ (mark_part class.Min refl) (λ at. made_part none (lesser at) (Operands E) (operands_at e) (operands_part E e g)))

abbrev callers : List Class
callers = class.Max ∷ class.Min ∷ []

begins_call : (ds : List Class) → has class.Max ds ≡ true → has class.Min ds ≡ true → (E : List Lexeme → ExprTree → Type 0) → Begins (one_of ds) (Call E)
begins_call ds k m E = begins_either (one_of ds) (Then (Mark class.Max) (λ at. Made (greatest at) (Operands E))) (Then (Mark class.Min) (λ at. Made (lesser at) (Operands E)))
    (begins_in class.Max ds k _ (begins_then (is class.Max) (Mark class.Max) _ (begins_mark class.Max))) (begins_in class.Min ds m _ (begins_then (is class.Min) (Mark class.Min) _ (begins_mark class.Min)))

begins_tuple : (E : List Lexeme → ExprTree → Type 0) → Begins (is class.Less) (Made (λ t. expr.Tuple t.1 t.0) (Bracketed E))
begins_tuple E = begins_made (is class.Less) _ (Bracketed E) (begins_bracketed E)

call_or_tuple : (E : List Lexeme → ExprTree → Type 0) (e : List Lexeme → Result (ExprTree × List Lexeme) ℕ) → Part (one_of sums_on) E e
    → Part none (Either (Call E) (Made (λ t. expr.Tuple t.1 t.0) (Bracketed E))) (either_at (is class.Less) (tuple_at e) (either_at (is class.Max) (greatest_at e) (lesser_at e)))
call_or_tuple E e g =
    swapped none (Made (λ t. expr.Tuple t.1 t.0) (Bracketed E)) (Call E) _
    (choice_part [] callers class.Less refl (Made (λ t. expr.Tuple t.1 t.0) (Bracketed E)) (Call E) (tuple_at e) _ (begins_tuple E) (begins_call callers refl refl E)
    (made_part none _ (Bracketed E) (bracketed_at e) (bracketed_part sums_on refl refl E e g)) (call_part E e g))

abbrev after_round : List Class
after_round = class.Less ∷ callers

abbrev openers : List Class
openers = class.LeftRound ∷ after_round

begins_after_round : (ds : List Class) → has class.Max ds ≡ true → has class.Min ds ≡ true → has class.Less ds ≡ true → (E : List Lexeme → ExprTree → Type 0) → Begins (one_of ds) (Either (Call E) (Made (λ t. expr.Tuple t.1 t.0) (Bracketed E)))
begins_after_round ds k m n E = begins_either (one_of ds) (Call E) (Made (λ t. expr.Tuple t.1 t.0) (Bracketed E)) (begins_call ds k m E) (begins_in class.Less ds n _ (begins_tuple E))

abbrev Opened : (List Lexeme → ExprTree → Type 0) → List Lexeme → ExprTree → Type 0
Opened E = Either (Round E) (Either (Call E) (Made (λ t. expr.Tuple t.1 t.0) (Bracketed E)))

opened_part : (E : List Lexeme → ExprTree → Type 0) (e : List Lexeme → Result (ExprTree × List Lexeme) ℕ) → Part (one_of sums_on) E e → Part none (Opened E) (opened_at e)
opened_part E e g =
    choice_part [] after_round class.LeftRound refl (Round E) _ (round_at e) _ (begins_sym class.LeftRound _) (begins_after_round after_round refl refl refl E) (round_part E e g) (call_or_tuple E e g)

begins_opened : (E : List Lexeme → ExprTree → Type 0) → Begins (one_of openers) (Opened E)
begins_opened E = begins_either (one_of openers) (Round E) _ (begins_in class.LeftRound openers refl _ (begins_sym class.LeftRound _)) (begins_after_round openers refl refl refl E)

item_by : (E : List Lexeme → ExprTree → Type 0) (e : List Lexeme → Result (ExprTree × List Lexeme) ℕ) → Part (one_of sums_on) E e → Part (one_of plain_on) (Either PlainItem (Opened E)) (either_at (one_of plain_starts) plain_item_at (opened_at e))
item_by E e g = choice_any plain_on openers plain_starts refl PlainItem (Opened E) plain_item_at (opened_at e) begins_plain_item (begins_opened E) plain_item_part (with_more [] plain_on refl _ _ (opened_part E e g))

-- ---- expressions

abbrev pub term_on : List Class
term_on = class.Star ∷ plain_on

term_by : (I : List Lexeme → ExprTree → Type 0) (i : List Lexeme → Result (ExprTree × List Lexeme) ℕ) → Part (one_of plain_on) I i → Part (one_of term_on) (Term I) (term_of i)
term_by I i g = after_part plain_on class.Star refl product (λ x. x) I i g

sums_by : (I : List Lexeme → ExprTree → Type 0) (i : List Lexeme → Result (ExprTree × List Lexeme) ℕ) → Part (one_of plain_on) I i → Part (one_of sums_on) (Sums I) (sums_of i)
sums_by I i g = after_part term_on class.Plus refl sum (λ x. x) (Term I) (term_of i) (term_by I i g)

pub item_part : (room : ℕ) → Part (one_of plain_on) (Item room) (item_at room)
unfolding Item item_at
item_part zero = plain_item_part
item_part (suc room) = item_by (Sums (Item room)) (sums_of (item_at room)) (sums_by (Item room) (item_at room) (item_part room))

pub term_part : (room : ℕ) → Part (one_of term_on) (Term (Item room)) (term_at room)
term_part room = term_by (Item room) (item_at room) (item_part room)

pub expr_part : (room : ℕ) → Part (one_of sums_on) (Expr room) (expr_at room)
expr_part room = sums_by (Item room) (item_at room) (item_part room)

-- ---- rules

above_part : Part none (Then Place (λ p. Sym class.AtLeast (Then (Expr 64) (λ e. Sym class.Semicolon (Nothing (rule.Above p e)))))) above_at
above_part =
    open_then (class.Dot ∷ []) none class.AtLeast refl Place _ place_at _ place_part (λ p.
    sym_part class.AtLeast refl none _ _ (
    open_then sums_on none class.Semicolon refl (Expr 64) _ (expr_at 64) _ (expr_part 64) (λ e.
    sym_part class.Semicolon refl none _ _ (nothing_part none (rule.Above p e)))))

ignore_part : Part none (Sym class.Ignore (Then Place (λ p. Sym class.Semicolon (Nothing (rule.Ignore p))))) ignore_at
ignore_part =
    sym_part class.Ignore refl none _ _ (
    open_then (class.Dot ∷ []) none class.Semicolon refl Place _ place_at _ place_part (λ p.
    sym_part class.Semicolon refl none _ _ (nothing_part none (rule.Ignore p))))

pub whole_rule_part : Part none RuleOf whole_rule_at
whole_rule_part = choice_part [] (class.Ignore ∷ []) class.Name refl _ _ above_at ignore_at
    (begins_then (is class.Name) Place _ begins_place) (begins_in class.Ignore (class.Ignore ∷ []) refl _ (begins_sym class.Ignore _)) above_part ignore_part

pub rule_part : Part none Rule rule_at
rule_part = few_part 1000 RuleOf whole_rule_at rule_statements whole_rule_part

abbrev pub rule_starts : List Class
rule_starts = class.Name ∷ class.Ignore ∷ []

pub begins_rule : (ds : List Class) → all_in rule_starts ds ≡ true → Begins (one_of ds) Rule
begins_rule ds k = record { at = λ ts x w. (begins_more rule_starts ds k RuleOf begins_whole_rule).at ts x w.written }
  where
    begins_whole_rule : Begins (one_of rule_starts) RuleOf
    begins_whole_rule = begins_either (one_of rule_starts) (Then Place _) (Sym class.Ignore _) (begins_in class.Name rule_starts refl _ (begins_then (is class.Name) Place _ begins_place)) (begins_in class.Ignore rule_starts refl _ (begins_sym class.Ignore _))
