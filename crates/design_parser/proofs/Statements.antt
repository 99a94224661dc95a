-- A rule ends with its only `;`.
use Rattle.std.proofs.Common.{◌≡◌, ℕ, zero, suc, Bool, true, false, List, [], ◌∷◌, Some, refl}
use Rattle.design_lexer.specs.declared.tree.ExprTree.{ExprTree}
use Rattle.design_lexer.specs.declared.tree.ExprTree.TheVariants as expr
use Rattle.design_lexer.specs.declared.tree.RuleTree.TheVariants as rule
use Rattle.design_lexer.specs.declared.syntax.class.Class.{Class}
use Rattle.design_lexer.specs.declared.syntax.class.Class.TheVariants as class
use Rattle.design_lexer.specs.Syntax.Classes.{Lexeme, is, one_of, has}
use Rattle.design_lexer.specs.Syntax.Spelled.{numbers, unit_names, name_of}
use Rattle.design_lexer.specs.Syntax.Statements.{HasNoEnd, AreStatements}
use Rattle.design_lexer.specs.Syntax.StatementLaws.{class_no_end, one_class_no_end, nothing_no_end, made_no_end, then_no_end, either_no_end, folded_no_end, sym_no_end, end_statement, then_statement, sym_statement, either_statement}
use Rattle.design_lexer.specs.Syntax.Words.{One, Nothing, Made, Sym, Mark, Else, Listed, Joined, at_end}
use Rattle.design_parser.specs.Trees.{no_power, power, factor, constant, element_of, upper_of, literal_expr, place, sum, product, greatest, lesser}
use Rattle.design_parser.specs.Grammar.{Name, Names, WholeOf, NumberAt, UnitName, Negative, PowerOf, Factor, FurtherFactor, Unit_, Constant, LiteralAfter, LiteralOf, Bracketed, PlaceAfter, Place, PlainItem, Round, Operands, Call, Term, Sums, Item, Expr, RuleOf}

-- ---- the words put together

mark_no_end : (c : Class) → has c (class.Semicolon ∷ []) ≡ false → HasNoEnd (Mark c)
mark_no_end c k = made_no_end (λ t. t.at) (One (is c)) (one_class_no_end c k)

else_no_end : {A : Type 0} (x : A) (W : List Lexeme → A → Type 0) → HasNoEnd W → HasNoEnd (Else x W)
else_no_end x W h = either_no_end W (Nothing x) h (nothing_no_end x)

listed_no_end : {A : Type 0} (c : Class) → has c (class.Semicolon ∷ []) ≡ false → (W : List Lexeme → A → Type 0) → HasNoEnd W → HasNoEnd (Listed c W)
listed_no_end c k W h = then_no_end W _ h (λ x. folded_no_end at_end (x ∷ []) (Sym c W) (sym_no_end c k W h))

joined_no_end : {A : Type 0} (f : A → A → A) (c : Class) → has c (class.Semicolon ∷ []) ≡ false → (W : List Lexeme → A → Type 0) → HasNoEnd W → HasNoEnd (Joined f c W)
joined_no_end f c k W h = then_no_end W _ h (λ x. folded_no_end f x (Sym c W) (sym_no_end c k W h))

-- ---- names, units and constants

name_no_end : HasNoEnd Name
name_no_end = made_no_end name_of (One (is class.Name)) (one_class_no_end class.Name refl)

names_no_end : HasNoEnd Names
names_no_end = else_no_end [] (Listed class.Comma Name) (listed_no_end class.Comma refl Name name_no_end)

number_no_end : HasNoEnd NumberAt
number_no_end = made_no_end _ (One (one_of numbers)) (class_no_end numbers refl)

negative_no_end : HasNoEnd Negative
negative_no_end = else_no_end false (Sym class.Minus (Nothing true)) (sym_no_end class.Minus refl (Nothing true) (nothing_no_end true))

power_no_end : HasNoEnd PowerOf
power_no_end = else_no_end no_power _ (sym_no_end class.Caret refl _ (then_no_end Negative _ negative_no_end (λ negative. made_no_end (power negative) WholeOf (made_no_end _ (One (is class.Whole)) (one_class_no_end class.Whole refl)))))

factor_no_end : (divided : Bool) → HasNoEnd (Factor divided)
factor_no_end divided = then_no_end UnitName _ (made_no_end name_of (One (one_of unit_names)) (class_no_end unit_names refl)) (λ name. made_no_end (factor divided name) PowerOf power_no_end)

unit_no_end : HasNoEnd Unit_
unit_no_end = then_no_end (Factor false) _ (factor_no_end false) (λ f. folded_no_end at_end (f ∷ []) FurtherFactor
    (either_no_end (Sym class.Dot (Factor false)) (Sym class.Slash (Factor true)) (sym_no_end class.Dot refl _ (factor_no_end false)) (sym_no_end class.Slash refl _ (factor_no_end true))))

constant_no_end : HasNoEnd Constant
constant_no_end = then_no_end NumberAt _ number_no_end (λ over. then_no_end _ _
    (else_no_end _ _ (made_no_end (λ x. Some x) _ (sym_no_end class.Slash refl _ (made_no_end _ NumberAt number_no_end))))
    (λ under. made_no_end (constant over under) _ (else_no_end [] Unit_ unit_no_end)))

-- ---- literals and places

literal_no_end : HasNoEnd LiteralOf
literal_no_end = then_no_end Name LiteralAfter name_no_end (λ p. sym_no_end class.Colon refl _
    (either_no_end (Made (element_of p) Name) _ (made_no_end (element_of p) Name name_no_end)
    (sym_no_end class.LeftBrace refl _ (then_no_end Names _ names_no_end (λ es. sym_no_end class.RightBrace refl _ (nothing_no_end (upper_of p es)))))))

place_no_end : HasNoEnd Place
place_no_end = then_no_end Name PlaceAfter name_no_end (λ first. made_no_end (place first) _ (else_no_end _ _ (made_no_end (λ x. Some x) _ (sym_no_end class.Dot refl Name name_no_end))))

-- ---- expressions

plain_item_no_end : HasNoEnd PlainItem
plain_item_no_end = either_no_end (Made (λ c. expr.Constant c) Constant) _ (made_no_end _ Constant constant_no_end)
    (either_no_end (Made literal_expr LiteralOf) (Made (λ p. expr.Place p) Place) (made_no_end literal_expr LiteralOf literal_no_end) (made_no_end _ Place place_no_end))

round_no_end : (E : List Lexeme → ExprTree → Type 0) → HasNoEnd E → HasNoEnd (Round E)
round_no_end E h = sym_no_end class.LeftRound refl _ (then_no_end E _ h (λ e. sym_no_end class.RightRound refl _ (nothing_no_end e)))

operands_no_end : (E : List Lexeme → ExprTree → Type 0) → HasNoEnd E → HasNoEnd (Operands E)
operands_no_end E h = sym_no_end class.LeftRound refl _ (then_no_end E _ h (λ left. sym_no_end class.Comma refl _ (then_no_end E _ h (λ right. sym_no_end class.RightRound refl _ (nothing_no_end (left, right))))))

call_no_end : (E : List Lexeme → ExprTree → Type 0) → HasNoEnd E → HasNoEnd (Call E)
call_no_end E h = either_no_end _ _ (then_no_end (Mark class.Max) _ (mark_no_end class.Max refl) (λ at. made_no_end (greatest at) (Operands E) (operands_no_end E h)))
    (then_no_end (Mark class.Min) _ (mark_no_end class.Min refl) (λ at. made_no_end (lesser at) (Operands E) (operands_no_end E h)))

bracketed_no_end : (E : List Lexeme → ExprTree → Type 0) → HasNoEnd E → HasNoEnd (Bracketed E)
bracketed_no_end E h = then_no_end (Mark class.Less) _ (mark_no_end class.Less refl) (λ at. then_no_end (Listed class.Comma E) _ (listed_no_end class.Comma refl E h) (λ parts. sym_no_end class.Greater refl _ (nothing_no_end (at, parts))))

pub sums_no_end : (I : List Lexeme → ExprTree → Type 0) → HasNoEnd I → HasNoEnd (Sums I)
sums_no_end I h = joined_no_end sum class.Plus refl (Term I) (joined_no_end product class.Star refl I h)

pub item_no_end : (room : ℕ) → HasNoEnd (Item room)
unfolding Item
item_no_end zero = plain_item_no_end
item_no_end (suc room) =
    let h = sums_no_end (Item room) (item_no_end room) in
    either_no_end PlainItem _ plain_item_no_end (either_no_end (Round (Sums (Item room))) _ (round_no_end _ h) (either_no_end (Call (Sums (Item room))) _ (call_no_end _ h) (made_no_end _ (Bracketed (Sums (Item room))) (bracketed_no_end _ h))))

-- ---- rules

pub rule_statements : AreStatements RuleOf
rule_statements = either_statement _ _
    (then_statement Place _ place_no_end (λ p. sym_statement class.AtLeast refl _ (then_statement (Expr 64) _ (sums_no_end (Item 64) (item_no_end 64)) (λ e. end_statement (rule.Above p e)))))
    (sym_statement class.Ignore refl _ (then_statement Place _ place_no_end (λ p. end_statement (rule.Ignore p))))
