-- From what a status says to when it comes.
use Rattle.std.proofs.Common.{◌≡◌, ◌≢◌, ◌∙◌, refl, sym, ap, subst, ℕ, IsTrue, not, List, Option, None, Some, Result, Ok, Err, ◌⊎◌, inl, inr}
use Rattle.std.specs.Option.{ForSome}
use Rattle.std.specs.Prelude.{IfErr}
use Rattle.design_cli.specs.Outcome.{Asks, AsksOther, EndsEarly, HasBadQuery, HasDesign, HasNoDesign, IsAnswer, IsOutcome, IsQueryRefusal, IsRefusal, IsReport, Writing}
use Rattle.design_cli.specs.OneWay.{AreOne}
use Rattle.design_cli.specs.Report.{report}
use Rattle.design_cli.specs.Words.{Asked}
use Rattle.design_cli.specs.declared.status.Status.{Status}
use Rattle.design_cli.specs.declared.status.Status.TheVariants.{Done, Usage, LibraryRefused, QueryRefused, FolderFault, SinkFault, Memory}
use Rattle.design_model.specs.Feasible.{AreMinima}
use Rattle.design_model.specs.Parts.{is_catalogue, required_ports}
use Rattle.design_model.specs.declared.design.Design.{Design}
use Rattle.design_world.specs.Bytes.{followed}
use Rattle.design_world.specs.Files.{File}
use Rattle.library_files.specs.declared.fault.LibraryFault.{LibraryFault}
use Rattle.library_files.specs.declared.parse.Parsed.{Parsed}
use Rattle.library_load.specs.Designs.{IsDesign, design_file}
use Rattle.library_load.specs.Loaded.{IsAccepted, IsRefused}
use Rattle.name_table.specs.declared.source.SourceFile.{SourceFile}
use Rattle.name_table.specs.declared.source.Table.{Table}
use Rattle.order_core.specs.MemberLaws.{not_both}
use Rattle.query_read.specs.Queries.{IsQuery, IsQueryFault}
use Rattle.query_read.specs.declared.query.QueryFault.{QueryFault}
use Rattle.query_read.specs.declared.query.QueryFault.TheVariants as query
use Rattle.value_type.specs.declared.poset.Types.{Types}
use Rattle.value_type.specs.declared.value.Value.{Value}

-- What holds of the question holds of each question that the words ask.
pub for_question : (P : Asked → Type 0) (o : Option Asked) (q : Asked) → Some q ≡ o → P q → ForSome o P
for_question P o q e h = λ asked is. let same : q ≡ asked = cc (e, is) in subst P same h

-- ---- which statuses come when

pub ends_early : (asked : Asked) (files : List File) (reply : Result (List ℕ) Status) → IsAnswer asked files reply → IfErr reply EndsEarly
ends_early asked files (Ok text) h = record {}
ends_early asked files (Err Done) h = absurd h
ends_early asked files (Err Usage) h = absurd h
ends_early asked files (Err SinkFault) h = absurd h
ends_early asked files (Err FolderFault) h = record {}
ends_early asked files (Err Memory) h = record {}
ends_early asked files (Err (LibraryRefused reason)) h = record {}
ends_early asked files (Err (QueryRefused fault)) h = record {}

pub not_sink : (status : Status) → EndsEarly status → status ≢ SinkFault
not_sink status r e = subst EndsEarly e r

pub not_folder : (text : List ℕ) (before now : Option (List ℕ)) (status : Status) → Writing text before now status → status ≢ FolderFault
not_folder text before now status w e = subst (Writing text before now) e w

pub done_or_memory : (status : Status) → (status ≢ Memory → status ≡ Done) → (status ≡ Done) ⊎ (status ≡ Memory)
done_or_memory Memory h = inr refl
done_or_memory Done h = inl refl
done_or_memory Usage h = inl (h (λ e. cc))
done_or_memory SinkFault h = inl (h (λ e. cc))
done_or_memory FolderFault h = inl (h (λ e. cc))
done_or_memory (LibraryRefused reason) h = inl (h (λ e. cc))
done_or_memory (QueryRefused fault) h = inl (h (λ e. cc))

-- ---- what is said of a result

module _ (asked : Asked) (files : List File) where
  pub says_written : (text : List ℕ) (before now : Option (List ℕ)) (status : Status) → IsReport asked files text → Writing text before now status → IsOutcome asked files before now status
  says_written text before now Done r w = (text, r, w)
  says_written text before now SinkFault r w = (text, r, w.0, w.1)
  says_written text before now Memory r w = inr (text, r, w.0, w.1)
  says_written text before now Usage r w = absurd w
  says_written text before now (LibraryRefused reason) r w = absurd w
  says_written text before now (QueryRefused fault) r w = absurd w
  says_written text before now FolderFault r w = absurd w

  pub says_refused : (before : Option (List ℕ)) (status : Status) → IsAnswer asked files (Err status) → IsOutcome asked files before before status
  says_refused before (LibraryRefused reason) h = (h, refl)
  says_refused before (QueryRefused fault) h = (h, refl)
  says_refused before FolderFault h = refl
  says_refused before Memory h = inl refl
  says_refused before Done h = absurd h
  says_refused before Usage h = absurd h
  says_refused before SinkFault h = absurd h

module _ (one : AreOne) (asked : Asked) (files : List File) where
  -- Two designs of the name are one, with their types.
  same_design : (s t : Types) (X Y : Design) → HasDesign files asked.name s X → HasDesign files asked.name t Y → (s ≡ t) × (X ≡ Y)
  same_design s t X Y x y =
      let same = one.accepted files x.made y.made s t x.accepted y.accepted in
      let moved = subst (λ (m : Parsed). IsDesign m.files m.tables t asked.name X) same.0 (subst (λ (z : Types). IsDesign x.made.files x.made.tables z asked.name X) same.1 x.is_design) in
      (same.1, one.designs y.made.files y.made.tables t asked.name X Y moved y.is_design)

  never_none : (s : Types) (X : Design) → HasDesign files asked.name s X → HasNoDesign files asked.name → ⊥
  never_none s X x n =
      let same = (one.accepted files x.made n.made s n.types x.accepted n.accepted).0 in
      one.there x.made.files x.made.tables s asked.name X x.is_design (ap (λ (m : Parsed). design_file m.files asked.name) same ∙ n.none)

  -- A query that is accepted has no fault.
  never_bad : (s t : Types) (X Y : Design) (f : List Value) (fault : QueryFault) → Asks asked files s X f → HasDesign files asked.name t Y → IsQueryFault t Y asked.query fault → ⊥
  never_bad s t X Y f fault a y bad =
      let same = same_design s t X Y a.has y in
      one.no_query t Y asked.query fault f bad (subst (λ (Z : Design). IsQuery t Z asked.query f) same.1 (subst (λ (z : Types). IsQuery z X asked.query f) same.0 a.is_query))

  bad_or : (fault : QueryFault) → IsQueryRefusal asked files fault → ((fault ≡ query.NoDesign) × HasNoDesign files asked.name) ⊎ ((fault ≡ query.NotYet) × AsksOther asked files) ⊎ HasBadQuery asked files fault
  bad_or query.NoDesign h = inl (refl, h)
  bad_or query.NotYet h = inr (inl (refl, h))
  bad_or (query.Syntax at) h = inr (inr h)
  bad_or (query.Width found wanted) h = inr (inr h)
  bad_or (query.Kind index) h = inr (inr h)
  bad_or (query.TupleSyntax at) h = inr (inr h)
  bad_or (query.TupleWidth found wanted) h = inr (inr h)
  bad_or (query.TupleKind index) h = inr (inr h)

  bad_one : (a b : QueryFault) → HasBadQuery asked files a → HasBadQuery asked files b → a ≡ b
  bad_one a b x y =
      let same = same_design x.types y.types x.design y.design x.has y.has in
      one.faults y.types y.design asked.query a b (subst (λ (Z : Design). IsQueryFault y.types Z asked.query a) same.1 (subst (λ (z : Types). IsQueryFault z x.design asked.query a) same.0 x.bad)) y.bad

  query_one : (a b : QueryFault) → IsQueryRefusal asked files a → IsQueryRefusal asked files b → a ≡ b
  query_one a b x y = go (bad_or a x) (bad_or b y)
    where
      go : ((a ≡ query.NoDesign) × HasNoDesign files asked.name) ⊎ ((a ≡ query.NotYet) × AsksOther asked files) ⊎ HasBadQuery asked files a
          → ((b ≡ query.NoDesign) × HasNoDesign files asked.name) ⊎ ((b ≡ query.NotYet) × AsksOther asked files) ⊎ HasBadQuery asked files b → a ≡ b
      go (inl p) (inl q) = p.0 ∙ sym q.0
      go (inl p) (inr (inl q)) = absurd (never_none q.1.types q.1.design q.1.asks.has p.1)
      go (inl p) (inr (inr q)) = absurd (never_none q.types q.design q.has p.1)
      go (inr (inl p)) (inl q) = absurd (never_none p.1.types p.1.design p.1.asks.has q.1)
      go (inr (inl p)) (inr (inl q)) = p.0 ∙ sym q.0
      go (inr (inl p)) (inr (inr q)) = absurd (never_bad p.1.types q.types p.1.design q.design p.1.f b p.1.asks q.has q.bad)
      go (inr (inr p)) (inl q) = absurd (never_none p.types p.design p.has q.1)
      go (inr (inr p)) (inr (inl q)) = absurd (never_bad q.1.types p.types q.1.design p.design q.1.f a q.1.asks p.has p.bad)
      go (inr (inr p)) (inr (inr q)) = bad_one a b p q

  -- What is refused for its query is accepted as a library.
  accepted_by : (fault : QueryFault) → IsQueryRefusal asked files fault → (made : Parsed) × (types : Types) × IsAccepted files made types
  accepted_by fault h = go (bad_or fault h)
    where
      go : ((fault ≡ query.NoDesign) × HasNoDesign files asked.name) ⊎ ((fault ≡ query.NotYet) × AsksOther asked files) ⊎ HasBadQuery asked files fault → (made : Parsed) × (types : Types) × IsAccepted files made types
      go (inl p) = (p.1.made, p.1.types, p.1.accepted)
      go (inr (inl p)) = (p.1.asks.has.made, p.1.types, p.1.asks.has.accepted)
      go (inr (inr p)) = (p.has.made, p.types, p.has.accepted)

  refusal_or : (status : Status) → IsRefusal asked files status
      → ((reason : LibraryFault) × (status ≡ LibraryRefused reason) × IsRefused files reason) ⊎ ((fault : QueryFault) × (status ≡ QueryRefused fault) × IsQueryRefusal asked files fault)
  refusal_or (LibraryRefused reason) h = inl (reason, refl, h)
  refusal_or (QueryRefused fault) h = inr (fault, refl, h)
  refusal_or Done h = absurd h
  refusal_or Usage h = absurd h
  refusal_or FolderFault h = absurd h
  refusal_or SinkFault h = absurd h
  refusal_or Memory h = absurd h

  refusals_one : (a b : Status) → IsRefusal asked files a → IsRefusal asked files b → a ≡ b
  refusals_one a b x y = go (refusal_or a x) (refusal_or b y)
    where
      go : ((reason : LibraryFault) × (a ≡ LibraryRefused reason) × IsRefused files reason) ⊎ ((fault : QueryFault) × (a ≡ QueryRefused fault) × IsQueryRefusal asked files fault)
          → ((reason : LibraryFault) × (b ≡ LibraryRefused reason) × IsRefused files reason) ⊎ ((fault : QueryFault) × (b ≡ QueryRefused fault) × IsQueryRefusal asked files fault) → a ≡ b
      go (inl (r, e, h)) (inl (t, d, k)) = e ∙ ap LibraryRefused (one.reasons files r t h k) ∙ sym d
      go (inl (r, e, h)) (inr (t, d, k)) = let w = accepted_by t k in absurd (one.never_both files w.0 w.1 r w.2 h)
      go (inr (r, e, h)) (inl (t, d, k)) = let w = accepted_by r h in absurd (one.never_both files w.0 w.1 t w.2 k)
      go (inr (r, e, h)) (inr (t, d, k)) = e ∙ ap QueryRefused (query_one r t h k) ∙ sym d

  -- What asks for a catalogue isn't refused.
  not_refused : (types : Types) (design : Design) (f : List Value) → Asks asked files types design f → IsTrue (is_catalogue design) → (status : Status) → IsRefusal asked files status → ⊥
  not_refused types design f a c status x = go (refusal_or status x)
    where
      by_query : (fault : QueryFault) → ((fault ≡ query.NoDesign) × HasNoDesign files asked.name) ⊎ ((fault ≡ query.NotYet) × AsksOther asked files) ⊎ HasBadQuery asked files fault → ⊥
      by_query fault (inl p) = never_none types design a.has p.1
      by_query fault (inr (inl p)) =
          let same = (same_design p.1.types types p.1.design design p.1.asks.has a.has).1 in
          not_both (is_catalogue design) (subst (λ (Z : Design). IsTrue (not (is_catalogue Z))) same p.1.other) c
      by_query fault (inr (inr p)) = never_bad types p.types design p.design f fault a p.has p.bad

      go : ((reason : LibraryFault) × (status ≡ LibraryRefused reason) × IsRefused files reason) ⊎ ((fault : QueryFault) × (status ≡ QueryRefused fault) × IsQueryRefusal asked files fault) → ⊥
      go (inl (reason, e, h)) = one.never_both files a.has.made types reason a.has.accepted h
      go (inr (fault, e, h)) = by_query fault (bad_or fault h)

  module _ (before now : Option (List ℕ)) (status : Status) (says : IsOutcome asked files before now status)
      (folder : status ≢ FolderFault) (memory : status ≢ Memory) where
    pub headline_of : status ≢ SinkFault → (types : Types) (design : Design) (f : List Value) → Asks asked files types design f → IsTrue (is_catalogue design)
        → (status ≡ Done) × (rows : List (List Value)) × AreMinima types design f rows × (now ≡ followed before (report types (required_ports design) rows))
    headline_of sink types design f a c = go status refl says
      where
        go : (s : Status) → status ≡ s → IsOutcome asked files before now s → (status ≡ Done) × (rows : List (List Value)) × AreMinima types design f rows × (now ≡ followed before (report types (required_ports design) rows))
        go Done e (text, r, w) =
            let same = same_design r.types types r.design design r.asks.has a.has in
            let query : IsQuery types design asked.query r.f = subst (λ (Z : Design). IsQuery types Z asked.query r.f) same.1 (subst (λ (z : Types). IsQuery z r.design asked.query r.f) same.0 r.asks.is_query) in
            let g : r.f ≡ f = one.queries types design asked.query r.f f query a.is_query in
            let minima = subst (λ (v : List Value). AreMinima types design v r.rows) g (subst (λ (Z : Design). AreMinima types Z r.f r.rows) same.1 (subst (λ (z : Types). AreMinima z r.design r.f r.rows) same.0 r.minima)) in
            (e, r.rows, minima, w ∙ ap (followed before) (r.text_is ∙ (λ i. report (same.0 i) (required_ports (same.1 i)) r.rows)))
        go (LibraryRefused reason) e h = absurd (not_refused types design f a c (LibraryRefused reason) h.0)
        go (QueryRefused fault) e h = absurd (not_refused types design f a c (QueryRefused fault) h.0)
        go FolderFault e h = absurd (folder e)
        go SinkFault e h = absurd (sink e)
        go Memory e h = absurd (memory e)
        go Usage e h = absurd h.0

    pub refusal_of : (refusal : Status) → IsRefusal asked files refusal → status ≡ refusal
    refusal_of refusal r = go status refl says
      where
        clash : (text : List ℕ) → IsReport asked files text → ⊥
        clash text h = not_refused h.types h.design h.f h.asks h.catalogue refusal r

        go : (s : Status) → status ≡ s → IsOutcome asked files before now s → status ≡ refusal
        go Done e (text, h, w) = absurd (clash text h)
        go (LibraryRefused reason) e h = e ∙ refusals_one (LibraryRefused reason) refusal h.0 r
        go (QueryRefused fault) e h = e ∙ refusals_one (QueryRefused fault) refusal h.0 r
        go FolderFault e h = absurd (folder e)
        go SinkFault e (text, h, count, w) = absurd (clash text h)
        go Memory e h = absurd (memory e)
        go Usage e h = absurd h.0
