-- What is made of the files of a library, file by file.
use Rattle.std.proofs.Common.{◌≡◌, ◌∙◌, ◌+◌, ◌≤◌, refl, sym, ap, subst, arith, ℕ, Bool, true, false, not, cond, inl, inr, List, [], ◌∷◌, ◌++◌, filter, length, Option, Some, None, Err}
use Rattle.std.proofs.lemmas.List.Elements.{filter-append}
use Rattle.std.proofs.lemmas.List.Filters.{length-filter_both}
use Rattle.design_lexer.specs.declared.tree.File.{File}
use Rattle.design_parser.specs.declared.parse.FileKind.{FileKind}
use Rattle.design_world.specs.declared.memory.folder.MemoryFile.{MemoryFile}
use Rattle.fault_list.specs.Answers.{IsInFile}
use Rattle.fault_list.specs.FirstBad.{AnswersBy, AnswersFirst}
use Rattle.fault_list.specs.declared.fault.Fault.{Fault}
use Rattle.fault_list.specs.declared.fault.FileFault.{FileFault}
use Rattle.fault_list.specs.declared.fault.Stop.{Stop}
use Rattle.fault_list.specs.declared.fault.Stop.TheVariants as stop
use Rattle.library_files.specs.Names.{ending_of, stem_of}
use Rattle.library_files.specs.Parsed.{AreParsed, HasFault, HasTextFault, IsMade, IsParsed, IsTabled, IsWritten, Writes, is_table, is_table_ending}
use Rattle.library_files.specs.declared.name.Ending.{Ending}
use Rattle.library_files.specs.declared.name.Ending.TheVariants as ending
use Rattle.library_files.specs.declared.parse.Parsed.{Parsed}
use Rattle.library_files.specs.declared.source.Made.{Made}
use Rattle.library_files.specs.declared.source.Made.TheVariants as made
use Rattle.name_table.specs.declared.source.SourceFile.{SourceFile}
use Rattle.name_table.specs.declared.source.Table.{Table}
use Rattle.name_table.specs.PartnerLaws.{pointwise_push}
use Rattle.order_core.specs.MemberLaws.{append_nil}
use Rattle.order_core.specs.Pointwise.{Each, Pointwise}
use Rattle.order_core.specs.PointwiseLaws.{each_push, pointwise_length}

-- ---- one file

module _ (name bytes : List ℕ) where
  pub made_source : (stem : List ℕ) (kind : FileKind) (tree : File) → stem ≡ stem_of name → ending_of name ≡ Some (ending.Tree kind) → Writes kind bytes tree
      → IsMade (record { name = name; bytes = bytes }) (made.Source (record { name = name; stem = stem; tree = tree }))
  unfolding is_table
  made_source stem kind tree s e w = (ap is_table_ending e, record { name = refl; stem = s; writes = record { kind = kind; ending = e; writes = w } })

  pub made_table : (stem : List ℕ) → stem ≡ stem_of name → ending_of name ≡ Some ending.Table → IsMade (record { name = name; bytes = bytes }) (made.Table (record { name = name; stem = stem; bytes = bytes }))
  unfolding is_table
  made_table stem s e = (ap is_table_ending e, record { name = refl; stem = s; bytes = refl })

  pub fault_in_file : (kind : FileKind) (s : Stop Fault) (placed : Stop FileFault) → ending_of name ≡ Some (ending.Tree kind) → AnswersBy {A = File} (Writes kind bytes) (HasFault kind bytes) (Err s) → IsInFile name s placed
      → AnswersBy {A = Made} (IsMade (record { name = name; bytes = bytes })) (HasTextFault (record { name = name; bytes = bytes })) (Err placed)
  fault_in_file kind (stop.At fault) (stop.At placed) e h is = record {
    kind = kind;
    ending = e;
    name = ap (λ (f : FileFault). f.file) is;
    has_fault = subst (λ (f : FileFault). HasFault kind bytes (record { kind = f.kind; at = f.at })) (sym is) h;
  }
  fault_in_file kind (stop.At fault) stop.Memory e h is = tt
  fault_in_file kind stop.Memory (stop.At placed) e h is = absurd is
  fault_in_file kind stop.Memory stop.Memory e h is = tt

table_ending : (o : Option Ending) → is_table_ending o ≡ true → o ≡ Some ending.Table
table_ending None e = absurd (cc)
table_ending (Some (ending.Tree kind)) e = absurd (cc)
table_ending (Some ending.Table) e = refl

made_is_written : (file : MemoryFile) (x : Made) → IsMade file x → IsWritten file
unfolding is_table
made_is_written file (made.Source source) is = inr (source.tree, is.1.writes)
made_is_written file (made.Table table) is = inl (table_ending (ending_of file.name) is.0)

-- ---- files so far

kept : {A : Type 0} (p : A → Bool) (xs : List A) (x : A) → p x ≡ true → filter p (xs ++ x ∷ []) ≡ filter p xs ++ x ∷ []
kept p xs x e = filter-append p xs (x ∷ []) ∙ ap (λ b. filter p xs ++ cond b (x ∷ []) []) e

left_out : {A : Type 0} (p : A → Bool) (xs : List A) (x : A) → p x ≡ false → filter p (xs ++ x ∷ []) ≡ filter p xs
left_out p xs x e = filter-append p xs (x ∷ []) ∙ ap (λ b. filter p xs ++ cond b (x ∷ []) []) e ∙ append_nil (filter p xs)

module _ (files : List MemoryFile) (sources : List SourceFile) (tables : List Table) (written : Each IsWritten files) (are : AreParsed files (record { files = sources; tables = tables })) (file : MemoryFile) where
  pub next_source : (source : SourceFile) → IsMade file (made.Source source) → Each IsWritten (files ++ file ∷ []) × AreParsed (files ++ file ∷ []) (record { files = sources ++ source ∷ []; tables = tables })
  next_source source is = (
    each_push IsWritten files file written (made_is_written file (made.Source source) is),
    record {
      sources = subst (λ (fs : List MemoryFile). Pointwise IsParsed fs (sources ++ source ∷ [])) (sym (kept (λ f. not (is_table f)) files file (ap not is.0))) (pointwise_push IsParsed (filter (λ f. not (is_table f)) files) sources file source are.sources is.1);
      tables = subst (λ (fs : List MemoryFile). Pointwise IsTabled fs tables) (sym (left_out is_table files file is.0)) are.tables;
    },
  )

  pub next_table : (table : Table) → IsMade file (made.Table table) → Each IsWritten (files ++ file ∷ []) × AreParsed (files ++ file ∷ []) (record { files = sources; tables = tables ++ table ∷ [] })
  next_table table is = (
    each_push IsWritten files file written (made_is_written file (made.Table table) is),
    record {
      sources = subst (λ (fs : List MemoryFile). Pointwise IsParsed fs sources) (sym (left_out (λ f. not (is_table f)) files file (ap not is.0))) are.sources;
      tables = subst (λ (fs : List MemoryFile). Pointwise IsTabled fs (tables ++ table ∷ [])) (sym (kept is_table files file is.0)) (pointwise_push IsTabled (filter is_table files) tables file table are.tables is.1);
    },
  )

  -- A file with a fault is the first one.
  pub stopped_at_file : (all rest : List MemoryFile) (Meant : Parsed → Type 0) → all ≡ files ++ file ∷ rest → (s : Stop FileFault) → AnswersBy {A = Made} (IsMade file) (HasTextFault file) (Err s) → AnswersFirst IsWritten HasTextFault all Meant (Err s)
  stopped_at_file all rest Meant e (stop.At fault) h = record { before = files; bad = file; after = rest; are = e; good = written; is_bad = h }
  stopped_at_file all rest Meant e stop.Memory h = tt

module _ (files : List MemoryFile) (made : Parsed) (are : AreParsed files made) where
  counted : length (filter is_table files) + length (filter (λ f. not (is_table f)) files) ≡ length files
  counted = length-filter_both is_table (λ f. not (is_table f)) (λ f. refl) files

  pub few_sources : length made.files ≤ length files
  few_sources = omega (arith, counted, pointwise_length IsParsed (filter (λ f. not (is_table f)) files) made.files are.sources)

  pub few_tables : length made.tables ≤ length files
  few_tables = omega (arith, counted, pointwise_length IsTabled (filter is_table files) made.tables are.tables)

-- The files that were gone through are all.
pub all_gone_through : (all files : List MemoryFile) (sources : List SourceFile) (tables : List Table) (made : Parsed) → files ≡ all → made.files ≡ sources → made.tables ≡ tables → Each IsWritten files × AreParsed files (record { files = sources; tables = tables }) → Each IsWritten all × AreParsed all made
all_gone_through all files sources tables made e f t h =
    let same : record { files = sources; tables = tables } ≡ made = λ i. record { files = sym f i; tables = sym t i } in
    subst (λ (fs : List MemoryFile). Each IsWritten fs × AreParsed fs made) e (h.0, subst (λ (m : Parsed). AreParsed files m) same h.1)
