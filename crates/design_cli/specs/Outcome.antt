-- What `solve` answers.
use Rattle.std.specs.Option.{ForSome}
use Rattle.std.specs.Prelude.{◌≡◌, ◌⊎◌, ℕ, IsTrue, not, List, Option, Some, None, Result, Ok, Err, take}
use Rattle.design_cli.specs.Report.{report}
use Rattle.design_cli.specs.Words.{Asked, asked_by}
use Rattle.design_cli.specs.declared.status.Status.{Status}
use Rattle.design_cli.specs.declared.status.Status.TheVariants.{Done, Usage, LibraryRefused, QueryRefused, FolderFault, SinkFault, Memory}
use Rattle.design_model.specs.Feasible.{AreMinima}
use Rattle.design_model.specs.Parts.{is_catalogue, required_ports}
use Rattle.design_model.specs.declared.design.Design.{Design}
use Rattle.design_world.specs.Bytes.{followed}
use Rattle.design_world.specs.Files.{File}
use Rattle.library_files.specs.declared.parse.Parsed.{Parsed}
use Rattle.library_load.specs.Designs.{IsDesign, design_file}
use Rattle.library_load.specs.Loaded.{IsAccepted, IsRefused}
use Rattle.query_read.specs.Queries.{IsQuery, IsQueryFault}
use Rattle.query_read.specs.declared.query.QueryFault.{QueryFault}
use Rattle.query_read.specs.declared.query.QueryFault.TheVariants as query
use Rattle.value_type.specs.declared.poset.Types.{Types}
use Rattle.value_type.specs.declared.value.Value.{Value}

-- What holds of the question that the words ask, and of the files of the folder that it names.
abbrev pub ForAsked : List (List ℕ) → (List ℕ → Option (List File)) → (Asked → List File → Type 0) → Type 0
ForAsked words folder P = ForSome (asked_by words) (λ asked. ForSome (folder asked.place) (λ files. P asked files))

-- ---- libraries and queries

-- The library of the files is accepted, and this is its design of the name, with the library's types.
pub record HasDesign (files : List File) (name : List ℕ) (types : Types) (design : Design) : Type 0 where
  pub made : Parsed
  pub accepted : IsAccepted files made types
  pub is_design : IsDesign made.files made.tables types name design

-- The library of the files is accepted and has the design, and the query is accepted: it writes this functionality.
pub record Asks (asked : Asked) (files : List File) (types : Types) (design : Design) (f : List Value) : Type 0 where
  pub has : HasDesign files asked.name types design
  pub is_query : IsQuery types design asked.query f

-- The library is accepted, and no design has the name.
pub record HasNoDesign (files : List File) (name : List ℕ) : Type 0 where
  pub made : Parsed
  pub types : Types
  pub accepted : IsAccepted files made types
  pub none : design_file made.files name ≡ None

-- The library is accepted and has the design, and this is the fault of the query.
pub record HasBadQuery (asked : Asked) (files : List File) (fault : QueryFault) : Type 0 where
  pub types : Types
  pub design : Design
  pub has : HasDesign files asked.name types design
  pub bad : IsQueryFault types design asked.query fault

-- Library and query are accepted, and the design is no catalogue.
pub record AsksOther (asked : Asked) (files : List File) : Type 0 where
  pub types : Types
  pub design : Design
  pub f : List Value
  pub asks : Asks asked files types design f
  pub other : IsTrue (not (is_catalogue design))

-- ---- answers

-- Library and query are accepted, the design is a catalogue, and the text is the report of its minima.
pub record IsReport (asked : Asked) (files : List File) (text : List ℕ) : Type 0 where
  pub types : Types
  pub design : Design
  pub f : List Value
  pub asks : Asks asked files types design f
  pub catalogue : IsTrue (is_catalogue design)
  pub rows : List (List Value)
  pub minima : AreMinima types design f rows
  pub text_is : text ≡ report types (required_ports design) rows

-- Why a query is refused.
abbrev pub IsQueryRefusal : Asked → List File → QueryFault → Type 0
IsQueryRefusal asked files query.NoDesign = HasNoDesign files asked.name
IsQueryRefusal asked files query.NotYet = AsksOther asked files
IsQueryRefusal asked files fault = HasBadQuery asked files fault

-- Why a library or a query is refused.
abbrev pub IsRefusal : Asked → List File → Status → Type 0
IsRefusal asked files (LibraryRefused reason) = IsRefused files reason
IsRefusal asked files (QueryRefused fault) = IsQueryRefusal asked files fault
IsRefusal asked files status = ⊥

-- The report, or why there is none. Where the folder failed or memory was wanting, nothing is said.
abbrev pub IsAnswer : Asked → List File → Result (List ℕ) Status → Type 0
IsAnswer asked files (Ok text) = IsReport asked files text
IsAnswer asked files (Err FolderFault) = Unit {0}
IsAnswer asked files (Err Memory) = Unit {0}
IsAnswer asked files (Err status) = IsRefusal asked files status

-- ---- statuses

-- The bytes that were written are first bytes of the report.
abbrev pub WroteFirst : Asked → List File → Option (List ℕ) → Option (List ℕ) → Type 0
WroteFirst asked files before now = (text : List ℕ) × IsReport asked files text × (count : ℕ) × (now ≡ followed before (take count text))

-- What a status says of the question and the files, and of the bytes that were written before and now.
abbrev pub IsOutcome : Asked → List File → Option (List ℕ) → Option (List ℕ) → Status → Type 0
IsOutcome asked files before now Done = (text : List ℕ) × IsReport asked files text × (now ≡ followed before text)
IsOutcome asked files before now FolderFault = now ≡ before
IsOutcome asked files before now SinkFault = WroteFirst asked files before now
IsOutcome asked files before now Memory = (now ≡ before) ⊎ WroteFirst asked files before now
IsOutcome asked files before now status = IsRefusal asked files status × (now ≡ before)

-- A status that comes before anything is written.
abbrev pub EndsEarly : Status → Type 0
EndsEarly Done = ⊥
EndsEarly Usage = ⊥
EndsEarly SinkFault = ⊥
EndsEarly status = Unit {0}

-- What writing a report says of the bytes that were written before and now.
abbrev pub Writing : List ℕ → Option (List ℕ) → Option (List ℕ) → Status → Type 0
Writing text before now Done = now ≡ followed before text
Writing text before now SinkFault = (count : ℕ) × (now ≡ followed before (take count text))
Writing text before now Memory = (count : ℕ) × (now ≡ followed before (take count text))
Writing text before now status = ⊥

-- A fact that holds where nothing was written.
abbrev pub BeforeWriting : Status → Type 0 → Type 0
BeforeWriting Usage P = P
BeforeWriting (LibraryRefused reason) P = P
BeforeWriting (QueryRefused fault) P = P
BeforeWriting FolderFault P = P
BeforeWriting status P = Unit {0}

-- No device failed.
abbrev pub NoFault : Status → Type 0
NoFault FolderFault = ⊥
NoFault SinkFault = ⊥
NoFault status = Unit {0}
