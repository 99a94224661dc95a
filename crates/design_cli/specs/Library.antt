-- What is answered from a library that was loaded.
use Rattle.std.specs.Prelude.{◌≡◌, ℕ, IsTrue, not, List, None, Result, Ok, Err}
use Rattle.design_cli.specs.Report.{report}
use Rattle.design_cli.specs.declared.status.Status.{Status}
use Rattle.design_cli.specs.declared.status.Status.TheVariants.{QueryRefused, Memory}
use Rattle.design_model.specs.Feasible.{AreMinima}
use Rattle.design_model.specs.Parts.{is_catalogue, required_ports}
use Rattle.design_model.specs.declared.design.Design.{Design}
use Rattle.library_load.specs.Designs.{IsDesign, design_file}
use Rattle.library_load.specs.declared.library.Library.{Library}
use Rattle.query_read.specs.Queries.{IsQuery, IsQueryFault}
use Rattle.query_read.specs.declared.query.QueryFault.{QueryFault}
use Rattle.query_read.specs.declared.query.QueryFault.TheVariants as query
use Rattle.value_type.specs.declared.poset.Types.{Types}
use Rattle.value_type.specs.declared.value.Value.{Value}

-- The library's design of this name.
abbrev pub IsNamed : Library → List ℕ → Design → Type 0
IsNamed library name design = IsDesign library.names.files library.names.tables library.names.types name design

-- The text is the report of the minima of the catalogue.
pub record IsReportOf (types : Types) (design : Design) (f : List Value) (text : List ℕ) : Type 0 where
  pub rows : List (List Value)
  pub minima : AreMinima types design f rows
  pub text_is : text ≡ report types (required_ports design) rows

-- The library has the design, and the text is its report for what the query writes.
pub record Reports (library : Library) (name asked text : List ℕ) : Type 0 where
  pub design : Design
  pub is_design : IsNamed library name design
  pub f : List Value
  pub is_query : IsQuery library.names.types design asked f
  pub catalogue : IsTrue (is_catalogue design)
  pub report_of : IsReportOf library.names.types design f text

-- The library has the design, and this is the fault of the query.
pub record HasFault (library : Library) (name asked : List ℕ) (fault : QueryFault) : Type 0 where
  pub design : Design
  pub is_design : IsNamed library name design
  pub bad : IsQueryFault library.names.types design asked fault

-- The library has the design, which is no catalogue, and the query writes something for it.
pub record IsOther (library : Library) (name asked : List ℕ) : Type 0 where
  pub design : Design
  pub is_design : IsNamed library name design
  pub f : List Value
  pub is_query : IsQuery library.names.types design asked f
  pub other : IsTrue (not (is_catalogue design))

abbrev pub RefusesQuery : Library → List ℕ → List ℕ → QueryFault → Type 0
RefusesQuery library name asked query.NoDesign = design_file library.names.files name ≡ None
RefusesQuery library name asked query.NotYet = IsOther library name asked
RefusesQuery library name asked fault = HasFault library name asked fault

-- The report, or why the query is refused. Want of memory says nothing.
abbrev pub Answers : Library → List ℕ → List ℕ → Result (List ℕ) Status → Type 0
Answers library name asked (Ok text) = Reports library name asked text
Answers library name asked (Err (QueryRefused fault)) = RefusesQuery library name asked fault
Answers library name asked (Err Memory) = Unit {0}
Answers library name asked (Err status) = ⊥
