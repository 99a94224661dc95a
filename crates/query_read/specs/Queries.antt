-- The rows that texts write for the ports of designs, and why a text writes none.
use Rattle.std.specs.Prelude.{◌≡◌, ◌≢◌, ℕ, List, length, take, Option, Some, None, Result, Ok, Err, slice_get, ◌⊎◌}
use Rattle.design_lexer.specs.Cut.{AreTokens, IsFirstBad}
use Rattle.design_lexer.specs.Syntax.Classes.{lexemes_of}
use Rattle.design_lexer.specs.Syntax.Faults.{FailsAt}
use Rattle.design_lexer.specs.declared.token.Token.{Token}
use Rattle.design_lexer.specs.declared.tree.ValueTree.{ValueTree}
use Rattle.design_model.specs.Parts.{provided_ports, required_ports}
use Rattle.design_model.specs.declared.design.Design.{Design}
use Rattle.design_parser.specs.Grammar as grammar
use Rattle.query_read.specs.declared.query.Query.{Query}
use Rattle.query_read.specs.declared.query.QueryError.{QueryError}
use Rattle.query_read.specs.declared.query.QueryError.TheVariants as error
use Rattle.query_read.specs.declared.query.QueryFault.{QueryFault}
use Rattle.query_read.specs.declared.query.QueryFault.TheVariants as fault
use Rattle.query_read.specs.declared.row.RowFault.{RowFault}
use Rattle.query_read.specs.declared.row.RowFault.TheVariants as cause
use Rattle.row_values.specs.Rows.{cells_meant}
use Rattle.row_values.specs.Values.{value_meant}
use Rattle.row_values.specs.declared.value.Rounding.{Rounding}
use Rattle.row_values.specs.declared.value.Rounding.TheVariants as rounding
use Rattle.value_type.specs.declared.port.Port.{Port}
use Rattle.value_type.specs.declared.poset.Types.{Types}
use Rattle.value_type.specs.declared.value.Value.{Value}

-- ---- texts

-- The text is cut into tokens, which write these values.
pub record WritesValues (text : List ℕ) (trees : List ValueTree) : Type 0 where
  pub tokens : List Token
  pub cut : AreTokens text tokens
  pub written : grammar.Query (lexemes_of text tokens) trees

-- The text is cut into tokens, which write no values and go wrong at the place.
pub record WritesNone (text : List ℕ) (at : ℕ) : Type 0 where
  pub tokens : List Token
  pub cut : AreTokens text tokens
  pub fails : FailsAt grammar.Query (length text) (lexemes_of text tokens) at

-- The first bad token stands at the place, or there is none and the tokens go wrong there.
abbrev pub IsSyntax : List ℕ → ℕ → Type 0
IsSyntax text at = IsFirstBad text at ⊎ WritesNone text at

abbrev pub IsTextFault : List ℕ → RowFault → Type 0
IsTextFault text (cause.Syntax at) = IsSyntax text at
IsTextFault text _ = ⊥

-- ---- values

-- There are so many values, and another number of ports.
pub record IsWidth (ports : List Port) (trees : List ValueTree) (found wanted : ℕ) : Type 0 where
  pub is_found : found ≡ length trees
  pub is_wanted : wanted ≡ length ports
  pub differ : found ≢ wanted

-- There is one value for each port. Those before this one mean something for their ports, and it means nothing for its own.
pub record IsKind (types : Types) (rounding : Rounding) (ports : List Port) (trees : List ValueTree) (index : ℕ) : Type 0 where
  pub width : length trees ≡ length ports
  pub before : List Value
  pub good : cells_meant types rounding (take index ports) (take index trees) ≡ Some before
  pub port : Port
  pub is_port : slice_get ports index ≡ Some port
  pub tree : ValueTree
  pub is_tree : slice_get trees index ≡ Some tree
  pub bad : value_meant types rounding port.kind tree ≡ None

abbrev pub IsTreeFault : Types → Rounding → List Port → List ValueTree → RowFault → Type 0
IsTreeFault types rounding ports trees (cause.Width found wanted) = IsWidth ports trees found wanted
IsTreeFault types rounding ports trees (cause.Kind index) = IsKind types rounding ports trees index
IsTreeFault types rounding ports trees _ = ⊥

-- ---- rows

-- The text writes values that mean this row, one for each port.
pub record IsRow (types : Types) (rounding : Rounding) (ports : List Port) (text : List ℕ) (row : List Value) : Type 0 where
  pub trees : List ValueTree
  pub writes : WritesValues text trees
  pub means : cells_meant types rounding ports trees ≡ Some row

-- The text writes values, of which this is the fault.
pub record WritesBad (types : Types) (rounding : Rounding) (ports : List Port) (text : List ℕ) (why : RowFault) : Type 0 where
  pub trees : List ValueTree
  pub writes : WritesValues text trees
  pub bad : IsTreeFault types rounding ports trees why

-- why the text writes no row for the ports: it writes no values, or values with a fault
abbrev pub IsRowFault : Types → Rounding → List Port → List ℕ → RowFault → Type 0
IsRowFault types rounding ports text why = IsTextFault text why ⊎ WritesBad types rounding ports text why

-- ---- queries

-- The text writes this functionality for the design. Numbers are rounded up.
abbrev pub IsQuery : Types → Design → List ℕ → List Value → Type 0
IsQuery types design text f = IsRow types rounding.Up (provided_ports design) text f

abbrev pub fault_of_query : RowFault → QueryFault
fault_of_query (cause.Syntax at) = fault.Syntax at
fault_of_query (cause.Width found wanted) = fault.Width found wanted
fault_of_query (cause.Kind index) = fault.Kind index

-- why the text writes no functionality for the design
pub record IsQueryFault (types : Types) (design : Design) (text : List ℕ) (refusal : QueryFault) : Type 0 where
  pub why : RowFault
  pub is : refusal ≡ fault_of_query why
  pub bad : IsRowFault types rounding.Up (provided_ports design) text why

-- Without a design the answer is NoDesign. Otherwise the query has the design and what the text writes for it, or the fault is why there is none. Want of memory says nothing.
abbrev pub AnswersQuery : Types → Option Design → List ℕ → Result Query QueryError → Type 0
AnswersQuery types None text result = result ≡ Err (error.Refused fault.NoDesign)
AnswersQuery types (Some design) text (Ok query) = (query.design ≡ design) × IsQuery types design text query.f
AnswersQuery types (Some design) text (Err (error.Refused refusal)) = IsQueryFault types design text refusal
AnswersQuery types (Some design) text (Err error.Memory) = Unit {0}

-- ---- tuples

-- The text writes these required values for the design. Numbers are rounded down.
abbrev pub IsTuple : Types → Design → List ℕ → List Value → Type 0
IsTuple types design text row = IsRow types rounding.Down (required_ports design) text row

abbrev pub fault_of_tuple : RowFault → QueryFault
fault_of_tuple (cause.Syntax at) = fault.TupleSyntax at
fault_of_tuple (cause.Width found wanted) = fault.TupleWidth found wanted
fault_of_tuple (cause.Kind index) = fault.TupleKind index

-- why the text writes no required values for the design
pub record IsTupleFault (types : Types) (design : Design) (text : List ℕ) (refusal : QueryFault) : Type 0 where
  pub why : RowFault
  pub is : refusal ≡ fault_of_tuple why
  pub bad : IsRowFault types rounding.Down (required_ports design) text why

-- What the text writes for the design, or why it writes none. Want of memory says nothing.
abbrev pub AnswersTuple : Types → Design → List ℕ → Result (List Value) QueryError → Type 0
AnswersTuple types design text (Ok row) = IsTuple types design text row
AnswersTuple types design text (Err (error.Refused refusal)) = IsTupleFault types design text refusal
AnswersTuple types design text (Err error.Memory) = Unit {0}
