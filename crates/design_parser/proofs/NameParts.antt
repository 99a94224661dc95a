-- Names, numbers, units, constants and literals are read as they are written.
use Rattle.std.proofs.Common.{Bool, true, false, List, [], ◌∷◌, None, refl}
use Rattle.design_lexer.specs.declared.tree.NameAt.{NameAt}
use Rattle.design_lexer.specs.declared.syntax.class.Class.{Class}
use Rattle.design_lexer.specs.declared.syntax.class.Class.TheVariants as class
use Rattle.design_lexer.specs.Syntax.Classes.{is, one_of}
use Rattle.design_lexer.specs.Syntax.Words.{One, Nothing, Made, Sym, Maybe, Listed, at_end}
use Rattle.design_lexer.specs.Syntax.Reading.{token_at, made_at, sym_at, give, listed_at}
use Rattle.design_lexer.specs.Syntax.Spelled.{numbers, unit_names, name_of, name_at, unit_name_at, number_at, whole_at}
use Rattle.design_lexer.specs.Syntax.Parts.{Part, Begins, none}
use Rattle.design_lexer.specs.Syntax.PartLaws.{made_part, nothing_part}
use Rattle.design_lexer.specs.Syntax.Repeats.{Repeated}
use Rattle.design_lexer.specs.Syntax.RepeatLaws.{repeated}
use Rattle.design_lexer.specs.Syntax.ClassLaws.{class_part, classes_part, sym_part, closed_then, open_then, open_before, open_maybe, begins_one, begins_made, begins_then, begins_either, begins_in, begins_sym, choice_part, optional_part, maybe_part, run_part, listed_part, with_more}
use Rattle.design_parser.specs.Trees.{no_power, power, factor, constant, element_of, upper_of}
use Rattle.design_parser.specs.Grammar.{Name, Names, WholeOf, NumberAt, UnitName, Negative, PowerOf, Factor, FurtherFactor, Unit_, Constant, LiteralAfter, LiteralOf}
use Rattle.design_parser.specs.Readers.{names_at, joints, negative_at, written_power_at, power_at, factor_at, further_factor_at, unit_at, under_at, maybe_unit_at, constant_at, literal_after, literal_at}

pub name_part : Part none Name name_at
name_part = made_part none name_of (One (is class.Name)) (token_at (is class.Name)) (class_part class.Name refl)

pub begins_name : Begins (is class.Name) Name
begins_name = begins_made (is class.Name) name_of (One (is class.Name)) (begins_one (is class.Name))

pub names_listed : (sep : Class) → Part (one_of (sep ∷ [])) (Listed sep Name) (listed_at sep name_at)
names_listed sep = listed_part [] sep refl Name name_at name_part

abbrev pub names_on : List Class
names_on = class.Name ∷ class.Comma ∷ []

pub names_part : Part (one_of names_on) Names names_at
names_part = optional_part names_on class.Name refl (Listed class.Comma Name) [] (listed_at class.Comma name_at)
    (begins_then (is class.Name) Name _ begins_name) (with_more (class.Comma ∷ []) names_on refl _ _ (names_listed class.Comma))

number_part : Part none NumberAt number_at
number_part = made_part none _ (One (one_of numbers)) (token_at (one_of numbers)) (classes_part class.Whole numbers refl refl)

begins_number : Begins (one_of numbers) NumberAt
begins_number = begins_made (one_of numbers) _ (One (one_of numbers)) (begins_one (one_of numbers))

whole_part : Part none WholeOf whole_at
whole_part = made_part none _ (One (is class.Whole)) (token_at (is class.Whole)) (class_part class.Whole refl)

-- ---- units

negative_part : Part (one_of (class.Minus ∷ [])) Negative negative_at
negative_part = optional_part (class.Minus ∷ []) class.Minus refl (Sym class.Minus (Nothing true)) false (sym_at class.Minus (give true))
    (begins_sym class.Minus (Nothing true)) (with_more [] (class.Minus ∷ []) refl _ _ (sym_part class.Minus refl none _ _ (nothing_part none true)))

power_part : Part (one_of (class.Caret ∷ [])) PowerOf power_at
power_part = optional_part (class.Caret ∷ []) class.Caret refl _ no_power written_power_at (begins_sym class.Caret _)
    (with_more [] (class.Caret ∷ []) refl _ _ (sym_part class.Caret refl none _ _ (
    open_before (class.Minus ∷ []) (class.Whole ∷ []) none refl Negative (λ negative. Made (power negative) WholeOf) negative_at (λ negative. made_at (power negative) whole_at) negative_part
    (λ negative. begins_in class.Whole (class.Whole ∷ []) refl _ (begins_made (is class.Whole) (power negative) WholeOf (begins_made (is class.Whole) _ (One (is class.Whole)) (begins_one (is class.Whole)))))
    (λ negative. made_part none (power negative) WholeOf whole_at whole_part))))

unit_name_part : Part none UnitName unit_name_at
unit_name_part = made_part none name_of (One (one_of unit_names)) (token_at (one_of unit_names)) (classes_part class.Name unit_names refl refl)

begins_factor : (divided : Bool) → Begins (one_of unit_names) (Factor divided)
begins_factor divided = begins_then (one_of unit_names) UnitName _ (begins_made (one_of unit_names) name_of (One (one_of unit_names)) (begins_one (one_of unit_names)))

pub factor_part : (divided : Bool) → Part (one_of (class.Caret ∷ [])) (Factor divided) (factor_at divided)
factor_part divided = closed_then (one_of (class.Caret ∷ [])) UnitName _ unit_name_at _ unit_name_part
    (λ name. made_part (one_of (class.Caret ∷ [])) (factor divided name) PowerOf power_at power_part)

further_part : Part (one_of (class.Caret ∷ [])) FurtherFactor further_factor_at
further_part = choice_part (class.Caret ∷ []) (class.Slash ∷ []) class.Dot refl (Sym class.Dot (Factor false)) (Sym class.Slash (Factor true)) (sym_at class.Dot (factor_at false)) (sym_at class.Slash (factor_at true))
    (begins_sym class.Dot _) (begins_in class.Slash (class.Slash ∷ []) refl _ (begins_sym class.Slash _))
    (sym_part class.Dot refl _ _ _ (factor_part false)) (sym_part class.Slash refl _ _ _ (factor_part true))

begins_further : Begins (one_of joints) FurtherFactor
begins_further = begins_either (one_of joints) (Sym class.Dot (Factor false)) (Sym class.Slash (Factor true))
    (begins_in class.Dot joints refl _ (begins_sym class.Dot _)) (begins_in class.Slash joints refl _ (begins_sym class.Slash _))

pub further_item : Repeated (one_of (class.Caret ∷ [])) (one_of joints) FurtherFactor further_factor_at
further_item = repeated _ (one_of joints) FurtherFactor further_factor_at further_part.reads begins_further

abbrev pub unit_on : List Class
unit_on = class.Dot ∷ class.Slash ∷ class.Caret ∷ []

pub unit_part : Part (one_of unit_on) Unit_ unit_at
unit_part = run_part (class.Caret ∷ []) joints unit_on refl refl refl at_end (λ f. f ∷ []) (Factor false) FurtherFactor (factor_at false) further_factor_at (factor_part false) begins_further further_part

pub begins_unit : Begins (one_of unit_names) Unit_
begins_unit = begins_then (one_of unit_names) (Factor false) _ (begins_factor false)

-- ---- constants

under_part : Part (one_of (class.Slash ∷ [])) (Maybe (Sym class.Slash (Made (λ n. n.0) NumberAt))) under_at
under_part = optional_part (class.Slash ∷ []) class.Slash refl _ None _ (begins_made (is class.Slash) _ _ (begins_sym class.Slash _))
    (with_more [] (class.Slash ∷ []) refl _ _ (made_part none _ _ _ (sym_part class.Slash refl none _ _ (made_part none _ NumberAt number_at number_part))))

abbrev pub constant_on : List Class
constant_on = class.Name ∷ class.Min ∷ unit_on

pub constant_part : Part (one_of constant_on) Constant constant_at
constant_part =
    closed_then (one_of constant_on) NumberAt _ number_at _ number_part (λ over.
    open_maybe (class.Slash ∷ []) unit_names constant_on refl refl (Maybe (Sym class.Slash (Made (λ n. n.0) NumberAt))) (constant over) Unit_ [] under_at (λ under. made_at (constant over under) maybe_unit_at) under_part begins_unit (λ under.
    made_part (one_of constant_on) (constant over under) _ maybe_unit_at
    (maybe_part constant_on unit_names refl Unit_ [] unit_at begins_unit (with_more unit_on constant_on refl _ _ unit_part))))

pub begins_constant : Begins (one_of numbers) Constant
begins_constant = begins_then (one_of numbers) NumberAt _ begins_number

-- ---- literals

pub literal_after_part : (p : NameAt) → Part none (LiteralAfter p) (literal_after p)
literal_after_part p = sym_part class.Colon refl none _ _ (
    choice_part [] (class.LeftBrace ∷ []) class.Name refl (Made (element_of p) Name) _ (made_at (element_of p) name_at) _
    (begins_made (is class.Name) (element_of p) Name begins_name) (begins_in class.LeftBrace (class.LeftBrace ∷ []) refl _ (begins_sym class.LeftBrace _))
    (made_part none (element_of p) Name name_at name_part)
    (sym_part class.LeftBrace refl none _ _ (
    open_then names_on none class.RightBrace refl Names _ names_at _ names_part (λ es.
    sym_part class.RightBrace refl none _ _ (nothing_part none (upper_of p es))))))

pub literal_part : Part none LiteralOf literal_at
literal_part = closed_then none Name _ name_at _ name_part literal_after_part

pub begins_literal : Begins (is class.Name) LiteralOf
begins_literal = begins_then (is class.Name) Name _ begins_name
