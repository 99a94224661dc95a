-- Values, types and ports are read as they are written.
use Rattle.std.proofs.Common.{◌≡◌, ℕ, zero, suc, true, false, List, [], ◌∷◌, Result, refl}
use Rattle.design_lexer.specs.declared.tree.TypeTree.TheVariants as type
use Rattle.design_lexer.specs.declared.tree.Side.TheVariants as side
use Rattle.design_lexer.specs.declared.tree.ValueTree.TheVariants as value
use Rattle.design_lexer.specs.declared.tree.ValueTree.{ValueTree}
use Rattle.design_lexer.specs.declared.tree.TypeTree.{TypeTree}
use Rattle.design_lexer.specs.declared.syntax.class.Class.{Class}
use Rattle.design_lexer.specs.declared.syntax.class.Class.TheVariants as class
use Rattle.design_lexer.specs.Syntax.Classes.{Lexeme, is, one_of, has, all_in}
use Rattle.design_lexer.specs.Syntax.Words.{Nothing, Then, Made, Either, Placed, Sym, Mark, Else, Any, Listed, at_end}
use Rattle.design_lexer.specs.Syntax.Reading.{made_at, either_at, sym_at, mark_at, placed_at, give, listed_at}
use Rattle.design_lexer.specs.Syntax.Spelled.{numbers, unit_names, name_at}
use Rattle.design_lexer.specs.Syntax.Parts.{Part, Begins, none}
use Rattle.design_lexer.specs.Syntax.PartLaws.{made_part, nothing_part}
use Rattle.design_lexer.specs.Syntax.Repeats.{Repeated}
use Rattle.design_lexer.specs.Syntax.RepeatLaws.{repeated}
use Rattle.design_lexer.specs.Syntax.ClassLaws.{mark_part, begins_mark, sym_part, closed_then, open_then, begins_made, begins_then, begins_either, begins_in, begins_more, begins_sym, choice_part, choice_any, maybe_part, listed_part, any_part, with_more, swapped}
use Rattle.design_lexer.specs.Syntax.PlacedLaws.{placed_part}
use Rattle.design_parser.specs.Trees.{literal_value, port}
use Rattle.design_parser.specs.Grammar.{Name, Unit_, Constant, LiteralOf, Bracketed, PlainValue, Value, PlainType, Type_, SideOf, Port, Cells}
use Rattle.design_parser.specs.Readers.{unit_at, constant_at, literal_at, bracketed_at, plain_value_at, tuple_value_at, value_at, plain_type_at, product_at, type_at, side_at, port_at, ports_at, sides, cells_at, maybe_cells_at, cell_starts}
use Rattle.design_parser.proofs.NameParts.{name_part, unit_on, unit_part, begins_unit, constant_on, constant_part, begins_constant, literal_part, begins_literal}

-- ---- values

pub bracketed_part : {A : Type 0} (on : List Class) → has class.Comma on ≡ false → has class.Greater (class.Comma ∷ on) ≡ false → (W : List Lexeme → A → Type 0) (p : List Lexeme → Result (A × List Lexeme) ℕ)
    → Part (one_of on) W p → Part none (Bracketed W) (bracketed_at p)
bracketed_part on k m W p g =
    closed_then none (Mark class.Less) _ (mark_at class.Less) _ (mark_part class.Less refl) (λ at.
    open_then (class.Comma ∷ on) none class.Greater m (Listed class.Comma W) _ (listed_at class.Comma p) _ (listed_part on class.Comma k W p g) (λ parts.
    sym_part class.Greater refl none _ _ (nothing_part none (at, parts))))

pub begins_bracketed : {A : Type 0} (W : List Lexeme → A → Type 0) → Begins (is class.Less) (Bracketed W)
begins_bracketed W = begins_then (is class.Less) (Mark class.Less) _ (begins_mark class.Less)

abbrev plain_value_starts : List Class
plain_value_starts = class.Top ∷ class.Whole ∷ class.Decimal ∷ class.Name ∷ []

abbrev after_top : List Class
after_top = class.Whole ∷ class.Decimal ∷ class.Name ∷ []

plain_value_part : Part (one_of constant_on) PlainValue plain_value_at
plain_value_part =
    choice_part constant_on after_top class.Top refl (Made (λ at. value.Top at) (Mark class.Top)) _ (made_at (λ at. value.Top at) (mark_at class.Top)) _
    (begins_made (is class.Top) _ _ (begins_mark class.Top))
    (begins_either (one_of after_top) (Made (λ c. value.Constant c) Constant) (Made literal_value LiteralOf) (begins_more numbers after_top refl _ (begins_made (one_of numbers) _ Constant begins_constant)) (begins_in class.Name after_top refl _ (begins_made (is class.Name) literal_value LiteralOf begins_literal)))
    (with_more [] constant_on refl _ _ (made_part none _ _ _ (mark_part class.Top refl)))
    (choice_any constant_on (class.Name ∷ []) numbers refl (Made (λ c. value.Constant c) Constant) (Made literal_value LiteralOf) (made_at (λ c. value.Constant c) constant_at) (made_at literal_value literal_at)
    (begins_made (one_of numbers) _ Constant begins_constant) (begins_in class.Name (class.Name ∷ []) refl _ (begins_made (is class.Name) literal_value LiteralOf begins_literal))
    (made_part (one_of constant_on) _ Constant constant_at constant_part) (with_more [] constant_on refl _ _ (made_part none literal_value LiteralOf literal_at literal_part)))

begins_plain_value : Begins (one_of plain_value_starts) PlainValue
begins_plain_value =
    begins_either (one_of plain_value_starts) (Made (λ at. value.Top at) (Mark class.Top)) _ (begins_in class.Top plain_value_starts refl _ (begins_made (is class.Top) _ _ (begins_mark class.Top)))
    (begins_either (one_of plain_value_starts) (Made (λ c. value.Constant c) Constant) (Made literal_value LiteralOf) (begins_more numbers plain_value_starts refl _ (begins_made (one_of numbers) _ Constant begins_constant)) (begins_in class.Name plain_value_starts refl _ (begins_made (is class.Name) literal_value LiteralOf begins_literal)))

tuple_value_part : (V : List Lexeme → ValueTree → Type 0) (v : List Lexeme → Result (ValueTree × List Lexeme) ℕ) → Part (one_of constant_on) V v → Part none (Made (λ t. value.Tuple t.0 t.1) (Bracketed V)) (tuple_value_at v)
tuple_value_part V v g = made_part none _ (Bracketed V) (bracketed_at v) (bracketed_part constant_on refl refl V v g)

bracket_or_plain : (V : List Lexeme → ValueTree → Type 0) (v : List Lexeme → Result (ValueTree × List Lexeme) ℕ) → Part (one_of constant_on) V v
    → Part (one_of constant_on) (Either PlainValue (Made (λ t. value.Tuple t.0 t.1) (Bracketed V))) (either_at (is class.Less) (tuple_value_at v) plain_value_at)
bracket_or_plain V v g =
    swapped (one_of constant_on) (Made (λ t. value.Tuple t.0 t.1) (Bracketed V)) PlainValue _
    (choice_part constant_on plain_value_starts class.Less refl (Made (λ t. value.Tuple t.0 t.1) (Bracketed V)) PlainValue (tuple_value_at v) plain_value_at
    (begins_made (is class.Less) _ (Bracketed V) (begins_bracketed V)) begins_plain_value (with_more [] constant_on refl _ _ (tuple_value_part V v g)) plain_value_part)

pub value_part : (room : ℕ) → Part (one_of constant_on) (Value room) (value_at room)
unfolding Value value_at
value_part zero = plain_value_part
value_part (suc room) = bracket_or_plain (Value room) (value_at room) (value_part room)

begins_value : (room : ℕ) → Begins (one_of cell_starts) (Value room)
unfolding Value
begins_value zero = begins_more plain_value_starts cell_starts refl PlainValue begins_plain_value
begins_value (suc room) = begins_either (one_of cell_starts) PlainValue (Made (λ t. value.Tuple t.0 t.1) (Bracketed (Value room)))
    (begins_more plain_value_starts cell_starts refl PlainValue begins_plain_value) (begins_in class.Less cell_starts refl _ (begins_made (is class.Less) _ (Bracketed (Value room)) (begins_bracketed (Value room))))

abbrev pub cells_on : List Class
cells_on = class.Comma ∷ class.Name ∷ class.Whole ∷ class.Decimal ∷ class.Top ∷ class.Less ∷ constant_on

pub cells_part : (room : ℕ) → Part (one_of (class.Comma ∷ constant_on)) (Listed class.Comma (Value room)) (cells_at room)
cells_part room = listed_part constant_on class.Comma refl (Value room) (value_at room) (value_part room)

pub maybe_cells_part : Part (one_of cells_on) (Else [] Cells) maybe_cells_at
maybe_cells_part = maybe_part cells_on cell_starts refl Cells [] (cells_at 64) (begins_then (one_of cell_starts) (Value 64) _ (begins_value 64)) (with_more (class.Comma ∷ constant_on) cells_on refl _ _ (cells_part 64))

-- ---- types

abbrev type_starts : List Class
type_starts = class.Nat ∷ class.Name ∷ class.Min ∷ class.Poset ∷ class.Up ∷ class.Product ∷ []

abbrev after_nat : List Class
after_nat = class.Name ∷ class.Min ∷ class.Poset ∷ class.Up ∷ []

abbrev plain_type_starts : List Class
plain_type_starts = class.Nat ∷ after_nat

begins_unit_type : (ds : List Class) → all_in unit_names ds ≡ true → Begins (one_of ds) (Made (λ fs. type.Unit fs) Unit_)
begins_unit_type ds k = begins_more unit_names ds k _ (begins_made (one_of unit_names) _ Unit_ begins_unit)

begins_order_type : (ds : List Class) → has class.Poset ds ≡ true → has class.Up ds ≡ true → Begins (one_of ds) (Either (Sym class.Poset (Made (λ n. type.Poset n) Name)) (Sym class.Up (Made (λ n. type.Up n) Name)))
begins_order_type ds k m = begins_either (one_of ds) (Sym class.Poset (Made (λ n. type.Poset n) Name)) (Sym class.Up (Made (λ n. type.Up n) Name)) (begins_in class.Poset ds k _ (begins_sym class.Poset _)) (begins_in class.Up ds m _ (begins_sym class.Up _))

begins_after_nat : (ds : List Class) → all_in unit_names ds ≡ true → has class.Poset ds ≡ true → has class.Up ds ≡ true → Begins (one_of ds) (Either (Made (λ fs. type.Unit fs) Unit_) (Either (Sym class.Poset (Made (λ n. type.Poset n) Name)) (Sym class.Up (Made (λ n. type.Up n) Name))))
begins_after_nat ds k m n = begins_either (one_of ds) (Made (λ fs. type.Unit fs) Unit_) _ (begins_unit_type ds k) (begins_order_type ds m n)

plain_type_part : Part (one_of unit_on) PlainType plain_type_at
plain_type_part =
    choice_part unit_on after_nat class.Nat refl (Sym class.Nat (Nothing type.Nat)) _ (sym_at class.Nat (give type.Nat)) _ (begins_sym class.Nat _) (begins_after_nat after_nat refl refl refl)
    (with_more [] unit_on refl _ _ (sym_part class.Nat refl none _ _ (nothing_part none type.Nat)))
    (choice_any unit_on (class.Poset ∷ class.Up ∷ []) unit_names refl (Made (λ fs. type.Unit fs) Unit_) _ (made_at (λ fs. type.Unit fs) unit_at) _
    (begins_made (one_of unit_names) _ Unit_ begins_unit) (begins_order_type (class.Poset ∷ class.Up ∷ []) refl refl) (made_part (one_of unit_on) _ Unit_ unit_at unit_part)
    (with_more [] unit_on refl _ _ (choice_part [] (class.Up ∷ []) class.Poset refl (Sym class.Poset (Made (λ n. type.Poset n) Name)) (Sym class.Up (Made (λ n. type.Up n) Name)) _ _ (begins_sym class.Poset _) (begins_in class.Up (class.Up ∷ []) refl _ (begins_sym class.Up _))
    (sym_part class.Poset refl none _ _ (made_part none _ Name name_at name_part)) (sym_part class.Up refl none _ _ (made_part none _ Name name_at name_part)))))

begins_plain_type : (ds : List Class) → has class.Nat ds ≡ true → all_in unit_names ds ≡ true → has class.Poset ds ≡ true → has class.Up ds ≡ true → Begins (one_of ds) PlainType
begins_plain_type ds h k m n = begins_either (one_of ds) (Sym class.Nat (Nothing type.Nat)) _ (begins_in class.Nat ds h _ (begins_sym class.Nat _)) (begins_after_nat ds k m n)

abbrev ProductOf : (List Lexeme → TypeTree → Type 0) → List Lexeme → TypeTree → Type 0
ProductOf T = Sym class.Product (Sym class.LeftRound (Then (Listed class.Comma T) (λ ts. Sym class.RightRound (Nothing (type.Product ts)))))

product_part : (T : List Lexeme → TypeTree → Type 0) (t : List Lexeme → Result (TypeTree × List Lexeme) ℕ) → Part (one_of unit_on) T t → Part none (ProductOf T) (product_at t)
product_part T t g =
    sym_part class.Product refl none _ _ (sym_part class.LeftRound refl none _ _ (
    open_then (class.Comma ∷ unit_on) none class.RightRound refl (Listed class.Comma T) _ (listed_at class.Comma t) _ (listed_part unit_on class.Comma refl T t g) (λ ts.
    sym_part class.RightRound refl none _ _ (nothing_part none (type.Product ts)))))

product_or_plain : (T : List Lexeme → TypeTree → Type 0) (t : List Lexeme → Result (TypeTree × List Lexeme) ℕ) → Part (one_of unit_on) T t
    → Part (one_of unit_on) (Either PlainType (ProductOf T)) (either_at (is class.Product) (product_at t) plain_type_at)
product_or_plain T t g =
    swapped (one_of unit_on) (ProductOf T) PlainType _
    (choice_part unit_on plain_type_starts class.Product refl (ProductOf T) PlainType (product_at t) plain_type_at (begins_sym class.Product _) (begins_plain_type plain_type_starts refl refl refl refl)
    (with_more [] unit_on refl _ _ (product_part T t g)) plain_type_part)

pub type_part : (room : ℕ) → Part (one_of unit_on) (Type_ room) (type_at room)
unfolding Type_ type_at
type_part zero = plain_type_part
type_part (suc room) = product_or_plain (Type_ room) (type_at room) (type_part room)

begins_type : (room : ℕ) → Begins (one_of type_starts) (Type_ room)
unfolding Type_
begins_type zero = begins_plain_type type_starts refl refl refl refl
begins_type (suc room) = begins_either (one_of type_starts) PlainType (ProductOf (Type_ room)) (begins_plain_type type_starts refl refl refl refl) (begins_in class.Product type_starts refl _ (begins_sym class.Product _))

-- ---- ports

side_part : Part none SideOf side_at
side_part = choice_part [] (class.Requires ∷ []) class.Provides refl (Sym class.Provides (Nothing side.Provides)) (Sym class.Requires (Nothing side.Requires)) _ _
    (begins_sym class.Provides _) (begins_in class.Requires (class.Requires ∷ []) refl _ (begins_sym class.Requires _))
    (sym_part class.Provides refl none _ _ (nothing_part none side.Provides)) (sym_part class.Requires refl none _ _ (nothing_part none side.Requires))

pub port_part : Part none Port port_at
port_part =
    closed_then none SideOf _ side_at _ side_part (λ s.
    closed_then none Name _ name_at _ name_part (λ n.
    sym_part class.LeftSquare refl none _ _ (
    open_then unit_on none class.RightSquare refl (Placed (Type_ 64)) _ (placed_at (type_at 64)) _ (placed_part (one_of unit_on) (one_of type_starts) (Type_ 64) (type_at 64) (begins_type 64) (type_part 64)) (λ t.
    sym_part class.RightSquare refl none _ _ (sym_part class.Semicolon refl none _ _ (nothing_part none (port s n t)))))))

pub begins_port : Begins (one_of sides) Port
begins_port = begins_then (one_of sides) SideOf _ (begins_either (one_of sides) (Sym class.Provides (Nothing side.Provides)) (Sym class.Requires (Nothing side.Requires)) (begins_in class.Provides sides refl _ (begins_sym class.Provides _)) (begins_in class.Requires sides refl _ (begins_sym class.Requires _)))

pub port_item : Repeated none (one_of sides) Port port_at
port_item = repeated none (one_of sides) Port port_at port_part.reads begins_port

pub ports_part : Part (one_of sides) (Any Port) ports_at
ports_part = any_part sides at_end [] Port port_at refl refl refl begins_port port_part
