-- What the answer to a library says of the folder's files.
use Rattle.std.proofs.Common.{◌≡◌, IsTrue, List, ℕ, Option, Some, None, Result, Ok, Err, sym, subst}
use Rattle.std.specs.List.{list_all}
use Rattle.std.specs.Prelude.{IfErr}
use Rattle.design_cli.specs.Library.{Answers}
use Rattle.design_cli.specs.Outcome.{EndsEarly, HasDesign, IsAnswer}
use Rattle.design_cli.specs.Words.{Asked}
use Rattle.design_cli.specs.declared.status.Status.{Status}
use Rattle.design_cli.specs.declared.status.Status.TheVariants.{Done, Usage, LibraryRefused, QueryRefused, FolderFault, SinkFault, Memory}
use Rattle.design_model.specs.Parts.{is_catalogue, is_catalogue_at, provided_at, provided_ports, required_at, rows_at}
use Rattle.design_model.specs.Typed.{IsTyped, IsTypedAt, row_is_typed, rows_fit}
use Rattle.design_model.specs.TypedLaws.{IsTyped-out}
use Rattle.design_model.specs.declared.design.Design.{Design, out-Design}
use Rattle.design_model.specs.declared.design.Design.TheOpen.{Design-F}
use Rattle.design_model.specs.declared.design.Part.{Part}
use Rattle.design_world.specs.Files.{File}
use Rattle.library_load.specs.Designs.{IsDesign}
use Rattle.library_load.specs.Loaded.{IsAccepted, parsed_of}
use Rattle.library_load.specs.declared.library.Library.{Library}
use Rattle.query_read.specs.Queries.{AnswersQuery, IsQuery}
use Rattle.query_read.specs.declared.query.Query.{Query}
use Rattle.query_read.specs.declared.query.QueryFault.TheVariants as query
use Rattle.value_type.specs.Fits.{row_fits}
use Rattle.value_type.specs.PortKinds.{port_kinds}
use Rattle.value_type.specs.declared.poset.Types.{Types}
use Rattle.value_type.specs.declared.value.Value.{Value}

-- The rows of a typed catalogue fit its ports.
pub catalogue_rows_fit : (t : Types) (d : Design) → IsTrue (is_catalogue d) → IsTyped t d → IsTrue (rows_fit t d)
catalogue_rows_fit t d c h = at (out-Design d) c (rw IsTyped-out at h)
  where
    at : (x : Design-F Design Part) → IsTrue (is_catalogue_at x) → IsTypedAt t Design Part (λ d. d) (λ p. p) (IsTyped t) (λ p. IsTyped t p.design) x → IsTrue (list_all (row_is_typed t (provided_at x) (required_at x)) (rows_at x))
    at (Design-F.Cat provides requires_ rows) c k = k.rows_fit
    at (Design-F.Choice provides requires_ branches) c k = absurd (cc)
    at (Design-F.Net provides requires_ parts constraints) c k = absurd (cc)

-- What a query asks of its design fits the design's ports.
pub query_fits : (types : Types) (design : Option Design) (text : List ℕ) (asked : Query) → AnswersQuery types design text (Ok asked)
    → ((d : Design) → IsQuery types d text asked.f → IsTrue (row_fits types (port_kinds (provided_ports d)) asked.f)) → IsTrue (row_fits types (port_kinds (provided_ports asked.design)) asked.f)
query_fits types None text asked h fits = absurd (cc)
query_fits types (Some design) text asked h fits = subst (λ (d : Design). IsTrue (row_fits types (port_kinds (provided_ports d)) asked.f)) (sym h.0) (fits design h.1)

-- A library is answered with a report, or a status that comes before anything is written.
pub answers_early : (library : Library) (name asked : List ℕ) (r : Result (List ℕ) Status) → Answers library name asked r → IfErr r EndsEarly
answers_early library name asked (Ok text) h = record {}
answers_early library name asked (Err (QueryRefused fault)) h = record {}
answers_early library name asked (Err Memory) h = record {}
answers_early library name asked (Err Done) h = absurd h
answers_early library name asked (Err Usage) h = absurd h
answers_early library name asked (Err FolderFault) h = absurd h
answers_early library name asked (Err SinkFault) h = absurd h
answers_early library name asked (Err (LibraryRefused reason)) h = absurd h

module _ (asked : Asked) (files : List File) (library : Library) (accepted : IsAccepted files (parsed_of library) library.names.types) where
  has : (design : Design) → IsDesign library.names.files library.names.tables library.names.types asked.name design → HasDesign files asked.name library.names.types design
  has design d = record { made = parsed_of library; accepted = accepted; is_design = d }

  pub answers : (r : Result (List ℕ) Status) → Answers library asked.name asked.query r → IsAnswer asked files r
  answers (Ok text) h = record {
    types = library.names.types;
    design = h.design;
    f = h.f;
    asks = record { has = has h.design h.is_design; is_query = h.is_query };
    catalogue = h.catalogue;
    rows = h.report_of.rows;
    minima = h.report_of.minima;
    text_is = h.report_of.text_is;
  }
  answers (Err (QueryRefused query.NoDesign)) h = record { made = parsed_of library; types = library.names.types; accepted = accepted; none = h }
  answers (Err (QueryRefused query.NotYet)) h = record {
    types = library.names.types;
    design = h.design;
    f = h.f;
    asks = record { has = has h.design h.is_design; is_query = h.is_query };
    other = h.other;
  }
  answers (Err (QueryRefused (query.Syntax at))) h = record { types = library.names.types; design = h.design; has = has h.design h.is_design; bad = h.bad }
  answers (Err (QueryRefused (query.Width found wanted))) h = record { types = library.names.types; design = h.design; has = has h.design h.is_design; bad = h.bad }
  answers (Err (QueryRefused (query.Kind index))) h = record { types = library.names.types; design = h.design; has = has h.design h.is_design; bad = h.bad }
  answers (Err (QueryRefused (query.TupleSyntax at))) h = record { types = library.names.types; design = h.design; has = has h.design h.is_design; bad = h.bad }
  answers (Err (QueryRefused (query.TupleWidth found wanted))) h = record { types = library.names.types; design = h.design; has = has h.design h.is_design; bad = h.bad }
  answers (Err (QueryRefused (query.TupleKind index))) h = record { types = library.names.types; design = h.design; has = has h.design h.is_design; bad = h.bad }
  answers (Err Memory) h = tt
  answers (Err Done) h = absurd h
  answers (Err Usage) h = absurd h
  answers (Err FolderFault) h = absurd h
  answers (Err SinkFault) h = absurd h
  answers (Err (LibraryRefused reason)) h = absurd h
