-- The files of a folder are accepted or refused in one way at most.
use Rattle.std.proofs.Common.{◌≡◌, ◌∙◌, ◌<◌, ◌≤◌, ◌⊎◌, inl, inr, arith, refl, sym, ap, subst, List, [], ◌∷◌, ℕ}
use Rattle.std.specs.Prelude.{Option, Some, None}
use Rattle.catalogue_read.specs.Catalogues.{HasBadRow, HasSomeRows}
use Rattle.design_measure.specs.Measures.{depth_of, size_of}
use Rattle.design_model.specs.declared.design.Design.{Design}
use Rattle.design_world.specs.Files.{File}
use Rattle.design_world.specs.InMemory.{file_of, files_of}
use Rattle.design_world.specs.declared.memory.folder.MemoryFile.{MemoryFile}
use Rattle.fault_list.specs.Faults.{first_fault}
use Rattle.fault_list.specs.FirstBad.{IsFirstBad}
use Rattle.fault_list.specs.FirstBadLaws.{first_bad_same, never_first_bad}
use Rattle.fault_list.specs.declared.fault.FileFault.{FileFault}
use Rattle.library_files.specs.Parsed.{AreParsed, HasTextFault, IsWritten}
use Rattle.library_files.specs.Taken.{AreTaken, limit_fault}
use Rattle.library_files.specs.declared.fault.LibraryFault.{LibraryFault}
use Rattle.library_files.specs.declared.fault.LibraryFault.TheVariants.{Refused}
use Rattle.library_files.specs.declared.parse.Parsed.{Parsed}
use Rattle.library_load.specs.Accepted.{IsFirstAfter, IsFirstFault, IsInLimits, IsPastLimit, KeepsRules, PassesLimit, Stage}
use Rattle.library_load.specs.Designs.{IsDesign}
use Rattle.library_load.specs.Loaded.{IsAccepted, IsFaultOf, IsReason, IsRefused}
use Rattle.name_table.specs.Library.{ArePosets}
use Rattle.name_table.specs.NameFaults.{name_faults}
use Rattle.name_table.specs.declared.source.SourceFile.{SourceFile}
use Rattle.name_table.specs.declared.source.Table.{Table}
use Rattle.order_core.specs.Pointwise.{Each}
use Rattle.reference_check.specs.LibraryFronts.{library_faults}
use Rattle.unit_check.specs.Connection.{connection_faults}
use Rattle.unit_check.specs.TypeFaults.{type_faults}
use Rattle.value_type.specs.declared.poset.Poset.{Poset}
use Rattle.value_type.specs.declared.poset.Types.{Types}

-- ---- stages

-- Two faults of stages are one, where each stage has one at most, and none where it is faultless.
stage_one : {P None_ A B C D : Type 0} → (A → B → P) → (None_ → A → ⊥) → (None_ → B → ⊥) → (C → D → P) → Stage None_ A C → Stage None_ B D → P
stage_one both left right later (inl a) (inl b) = both a b
stage_one both left right later (inl a) (inr d) = absurd (left d.0 a)
stage_one both left right later (inr c) (inl b) = absurd (right c.0 b)
stage_one both left right later (inr c) (inr d) = later c.1 d.1

-- A stage without a fault isn't the one that has it.
stage_never : {None_ A C : Type 0} → (A → ⊥) → (C → ⊥) → Stage None_ A C → ⊥
stage_never here later (inl a) = here a
stage_never here later (inr c) = later c.1

first_one : {F : Type 0} (xs : List F) (a b : F) → first_fault xs ≡ Some a → first_fault xs ≡ Some b → a ≡ b
first_one xs a b h k = cc

none_first : {F : Type 0} (xs : List F) (a : F) → xs ≡ [] → first_fault xs ≡ Some a → ⊥
none_first xs a e h = let none = sym h ∙ ap first_fault e in absurd (cc)

-- ---- limits

passes_one : (file : List ℕ) (X : Design) (a b : FileFault) → PassesLimit file X a → PassesLimit file X b → a ≡ b
passes_one file X a b (inl h) (inl k) = h.1 ∙ sym k.1
passes_one file X a b (inl h) (inr k) = let deep = h.0 in let flat = k.0 in absurd (omega (arith, deep, flat))
passes_one file X a b (inr h) (inl k) = let deep = k.0 in let flat = h.0 in absurd (omega (arith, deep, flat))
passes_one file X a b (inr h) (inr k) = h.2 ∙ sym k.2

passes_never : (file : List ℕ) (X : Design) (a : FileFault) → depth_of X ≤ 64 → size_of X ≤ 10000 → PassesLimit file X a → ⊥
passes_never file X a flat small (inl h) = let deep = h.0 in omega (arith, deep, flat)
passes_never file X a flat small (inr h) = let large = h.1 in omega (arith, large, small)

-- What is known of the parts of a library: each is one.
pub record AreOne : Type 0 where
  pub taken : (files a b : _) → AreTaken files a → AreTaken files b → a ≡ b
  pub parsed : (files : List MemoryFile) (a b : Parsed) → AreParsed files a → AreParsed files b → a ≡ b
  pub written : (files : List MemoryFile) (made : Parsed) → AreParsed files made → Each IsWritten files
  pub texts : (file : MemoryFile) (a b : FileFault) → HasTextFault file a → HasTextFault file b → a ≡ b
  pub no_text : (file : MemoryFile) (fault : FileFault) → HasTextFault file fault → IsWritten file → ⊥
  pub posets : (files : List SourceFile) (a b : List Poset) → ArePosets files a → ArePosets files b → a ≡ b
  pub rows : (tables : List Table) (types : Types) (f : SourceFile) (a b : FileFault) → HasBadRow tables types f a → HasBadRow tables types f b → a ≡ b
  pub no_row : (tables : List Table) (types : Types) (f : SourceFile) (fault : FileFault) → HasSomeRows tables types f → HasBadRow tables types f fault → ⊥
  pub designs : (files : List SourceFile) (tables : List Table) (types : Types) (name : List ℕ) (X Y : Design) → IsDesign files tables types name X → IsDesign files tables types name Y → X ≡ Y

module _ (one : AreOne) where
  -- ---- the stages after that of names

  module _ (files : List SourceFile) (tables : List Table) (types : Types) where
    limit_one : (f : SourceFile) (a b : FileFault) → IsPastLimit files tables types f a → IsPastLimit files tables types f b → a ≡ b
    limit_one f a b h k =
        let same = one.designs files tables types f.stem k.design h.design k.is_design h.is_design in
        passes_one f.name h.design a b h.passes (subst (λ (X : Design). PassesLimit f.name X b) same k.passes)

    limit_never : (f : SourceFile) (fault : FileFault) → IsInLimits files tables types f → IsPastLimit files tables types f fault → ⊥
    limit_never f fault good h =
        let X = good h.closed in
        let same = one.designs files tables types f.stem h.design X.0 h.is_design X.1 in
        passes_never f.name X.0 fault X.2 X.3 (subst (λ (Y : Design). PassesLimit f.name Y fault) same h.passes)

    limits_one : (a b : FileFault) → IsFirstBad (IsInLimits files tables types) (IsPastLimit files tables types) files a → IsFirstBad (IsInLimits files tables types) (IsPastLimit files tables types) files b → a ≡ b
    limits_one a b h k = first_bad_same (IsInLimits files tables types) (IsPastLimit files tables types) limit_never limit_one files a b h k

    rows_one : (a b : FileFault) → IsFirstBad (HasSomeRows tables types) (HasBadRow tables types) files a → IsFirstBad (HasSomeRows tables types) (HasBadRow tables types) files b → a ≡ b
    rows_one a b h k = first_bad_same (HasSomeRows tables types) (HasBadRow tables types) (one.no_row tables types) (one.rows tables types) files a b h k

    rows_never : (fault : FileFault) → Each (HasSomeRows tables types) files → IsFirstBad (HasSomeRows tables types) (HasBadRow tables types) files fault → ⊥
    rows_never fault rows h = never_first_bad (HasSomeRows tables types) (HasBadRow tables types) (one.no_row tables types) files fault rows h

    after_one : (a b : FileFault) → IsFirstAfter files tables types a → IsFirstAfter files tables types b → a ≡ b
    after_one a b h k =
        stage_one (first_one (type_faults files types) a b) (none_first (type_faults files types) a) (none_first (type_faults files types) b)
        (stage_one (first_one (connection_faults files) a b) (none_first (connection_faults files) a) (none_first (connection_faults files) b)
        (stage_one (rows_one a b) (rows_never a) (rows_never b)
        (stage_one (first_one (library_faults files types) a b) (none_first (library_faults files types) a) (none_first (library_faults files types) b) (limits_one a b)))) h k

    after_never : KeepsRules files tables types → (fault : FileFault) → IsFirstAfter files tables types fault → ⊥
    after_never keeps fault h =
        stage_never (none_first (type_faults files types) fault keeps.typed)
        (stage_never (none_first (connection_faults files) fault keeps.connected)
        (stage_never (rows_never fault keeps.rows)
        (stage_never (none_first (library_faults files types) fault keeps.references)
        (never_first_bad (IsInLimits files tables types) (IsPastLimit files tables types) limit_never files fault keeps.limits)))) h

  -- ---- all stages

  types_same : (files : List SourceFile) (s t : Types) → ArePosets files s.posets → ArePosets files t.posets → s ≡ t
  types_same files s t h k = let same = one.posets files s.posets t.posets h k in λ i. record { posets = same i }

  fault_one : (files : List SourceFile) (tables : List Table) (a b : FileFault) → IsFirstFault files tables a → IsFirstFault files tables b → a ≡ b
  fault_one files tables a b h k =
      stage_one (first_one (name_faults files tables) a b) (none_first (name_faults files tables) a) (none_first (name_faults files tables) b)
      (λ p q. after_one files tables p.0 a b p.2 (subst (λ (t : Types). IsFirstAfter files tables t b) (types_same files q.0 p.0 q.1 p.1) q.2)) h k

  fault_never : (files : List SourceFile) (tables : List Table) (types : Types) → KeepsRules files tables types → (fault : FileFault) → IsFirstFault files tables fault → ⊥
  fault_never files tables types keeps fault h =
      stage_never (none_first (name_faults files tables) fault keeps.names)
      (λ q. after_never files tables types keeps fault (subst (λ (t : Types). IsFirstAfter files tables t fault) (types_same files q.0 types q.1 keeps.posets) q.2)) h

  -- ---- files

  file_same : (a b : MemoryFile) → file_of a ≡ file_of b → a ≡ b
  file_same a b e = λ i. record { name = (e i).name; bytes = (e i).bytes }

  in_memory_same : (xs ys : List MemoryFile) → files_of xs ≡ files_of ys → xs ≡ ys
  in_memory_same [] [] e = refl
  in_memory_same [] (b ∷ ys) e = absurd (cc)
  in_memory_same (a ∷ xs) [] e = absurd (cc)
  in_memory_same (a ∷ xs) (b ∷ ys) e =
      let head : file_of a ≡ file_of b = cc in let tail : files_of xs ≡ files_of ys = cc in
      let first = file_same a b head in let rest = in_memory_same xs ys tail in λ i. first i ∷ rest i

  taken_same : (files : List File) (xs ys : List MemoryFile) → AreTaken files (files_of xs) → AreTaken files (files_of ys) → xs ≡ ys
  taken_same files xs ys h k = in_memory_same xs ys (one.taken files (files_of xs) (files_of ys) h k)

  of_one : (taken : List MemoryFile) (a b : FileFault) → IsFaultOf taken a → IsFaultOf taken b → a ≡ b
  of_one taken a b (inl h) (inl k) = first_bad_same IsWritten HasTextFault (λ file fault good bad. one.no_text file fault bad good) one.texts taken a b h k
  of_one taken a b (inl h) (inr k) = absurd (never_first_bad IsWritten HasTextFault (λ file fault good bad. one.no_text file fault bad good) taken a (one.written taken k.0 k.1) h)
  of_one taken a b (inr h) (inl k) = absurd (never_first_bad IsWritten HasTextFault (λ file fault good bad. one.no_text file fault bad good) taken b (one.written taken h.0 h.1) k)
  of_one taken a b (inr h) (inr k) =
      let same = one.parsed taken k.0 h.0 k.1 h.1 in
      fault_one h.0.files h.0.tables a b h.2 (subst (λ (m : Parsed). IsFirstFault m.files m.tables b) same k.2)

  reason_one : (taken : List MemoryFile) (a b : LibraryFault) → IsReason taken a → IsReason taken b → a ≡ b
  reason_one taken a b (inl h) (inl k) = cc
  reason_one taken a b (inl h) (inr k) = let none = k.0 in absurd (cc)
  reason_one taken a b (inr h) (inl k) = let none = h.0 in absurd (cc)
  reason_one taken a b (inr h) (inr k) = h.2 ∙ ap Refused (of_one taken h.1 k.1 h.3 k.3) ∙ sym k.2

  pub refused_one : (files : List File) (a b : LibraryFault) → IsRefused files a → IsRefused files b → a ≡ b
  refused_one files a b h k = reason_one h.taken a b h.is_reason (subst (λ (fs : List MemoryFile). IsReason fs b) (taken_same files k.taken h.taken k.are_taken h.are_taken) k.is_reason)

  pub accepted_one : (files : List File) (a b : Parsed) (s t : Types) → IsAccepted files a s → IsAccepted files b t → (a ≡ b) × (s ≡ t)
  accepted_one files a b s t h k =
      let same = taken_same files k.taken h.taken k.are_taken h.are_taken in
      let made = one.parsed h.taken a b h.parsed (subst (λ (fs : List MemoryFile). AreParsed fs b) same k.parsed) in
      (made, types_same b.files s t (subst (λ (m : Parsed). ArePosets m.files s.posets) made h.rules.posets) k.rules.posets)

  reason_never : (taken : List MemoryFile) (made : Parsed) (types : Types) (reason : LibraryFault) → limit_fault (files_of taken) ≡ None → AreParsed taken made → KeepsRules made.files made.tables types → IsReason taken reason → ⊥
  reason_never taken made types reason within parsed keeps (inl h) = absurd (cc)
  reason_never taken made types reason within parsed keeps (inr h) = go h.3
    where
      go : IsFaultOf taken h.1 → ⊥
      go (inl k) = never_first_bad IsWritten HasTextFault (λ file fault good bad. one.no_text file fault bad good) taken h.1 (one.written taken made parsed) k
      go (inr k) = fault_never made.files made.tables types keeps h.1 (subst (λ (m : Parsed). IsFirstFault m.files m.tables h.1) (one.parsed taken k.0 made k.1 parsed) k.2)

  pub never_both : (files : List File) (made : Parsed) (types : Types) (reason : LibraryFault) → IsAccepted files made types → IsRefused files reason → ⊥
  never_both files made types reason h k =
      reason_never h.taken made types reason h.limits h.parsed h.rules (subst (λ (fs : List MemoryFile). IsReason fs reason) (taken_same files k.taken h.taken k.are_taken h.are_taken) k.is_reason)
