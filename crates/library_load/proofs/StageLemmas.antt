-- Where a stage stops, the library is judged by it.
use Rattle.std.proofs.Common.{◌≡◌, ◌<◌, ◌^◌, inr, subst, List, [], ◌∷◌, length}
use Rattle.std.specs.Prelude.{Some, Err}
use Rattle.catalogue_read.specs.Catalogues.{HasRows, HasSomeRows}
use Rattle.design_model.specs.declared.design.CatRow.{CatRow}
use Rattle.fault_list.specs.Answers.{Answers}
use Rattle.fault_list.specs.Faults.{first_fault}
use Rattle.fault_list.specs.FirstBad.{AnswersBy, AnswersFirst, IsFirstBad}
use Rattle.fault_list.specs.declared.fault.FileFault.{FileFault}
use Rattle.fault_list.specs.declared.fault.Stop.{Stop}
use Rattle.fault_list.specs.declared.fault.Stop.TheVariants as stop
use Rattle.library_load.specs.Accepted.{IsFirstAfter, IsFirstFault}
use Rattle.library_load.specs.Designs.{HasFewRows}
use Rattle.name_table.specs.Library.{ArePosets}
use Rattle.name_table.specs.NameFaults.{name_faults}
use Rattle.name_table.specs.declared.source.SourceFile.{SourceFile}
use Rattle.name_table.specs.declared.source.Table.{Table}
use Rattle.order_core.specs.Pointwise.{Each, Pointwise}
use Rattle.value_type.specs.declared.poset.Types.{Types}

-- ---- a stage that stops

-- By the first of a list of faults.
pub stops_listed : {A B : Type 0} (faults : List FileFault) (Meant : A → Type 0) (Good : B → Type 0) (Bad : FileFault → Type 0) (s : Stop FileFault) → ((fault : FileFault) → first_fault faults ≡ Some fault → Bad fault) → Answers {A = A} faults Meant (Err s) → AnswersBy {A = B} Good Bad (Err s)
stops_listed faults Meant Good Bad (stop.At fault) h a = h fault a
stops_listed faults Meant Good Bad stop.Memory h a = tt

-- By the first bad item of a list.
pub stops_first : {A B C : Type 0} (Fine : A → Type 0) (Wrong : A → FileFault → Type 0) (items : List A) (Meant : B → Type 0) (Good : C → Type 0) (Bad : FileFault → Type 0) (s : Stop FileFault) → ((fault : FileFault) → IsFirstBad Fine Wrong items fault → Bad fault) → AnswersFirst {B = B} Fine Wrong items Meant (Err s) → AnswersBy {A = C} Good Bad (Err s)
stops_first Fine Wrong items Meant Good Bad (stop.At fault) h a = h fault a
stops_first Fine Wrong items Meant Good Bad stop.Memory h a = tt

-- By what later stages say.
pub stops_later : {A B F : Type 0} (Fine : A → Type 0) (Wrong : F → Type 0) (Good : B → Type 0) (Bad : F → Type 0) (s : Stop F) → ((fault : F) → Wrong fault → Bad fault) → AnswersBy {A = A} Fine Wrong (Err s) → AnswersBy {A = B} Good Bad (Err s)
stops_later Fine Wrong Good Bad (stop.At fault) h a = h fault a
stops_later Fine Wrong Good Bad stop.Memory h a = tt

-- ---- rows

-- Files with few rows each have few rows, whatever rows they are said to have.
pub files_few : (tables : List Table) (types : Types) (files : List SourceFile) (rows : List (List CatRow))
    → ((f : SourceFile) (rows others : List CatRow) → HasRows tables types f rows → HasRows tables types f others → rows ≡ others)
    → Pointwise (HasRows tables types) files rows → Each (λ (rs : List CatRow). length rs < 2 ^ 32) rows → Each (HasFewRows tables types) files
files_few tables types [] [] unique has few = tt
files_few tables types [] (rs ∷ rows) unique has few = tt
files_few tables types (f ∷ files) [] unique has few = absurd has
files_few tables types (f ∷ files) (rs ∷ rows) unique has few =
    (λ others h. subst (λ (xs : List CatRow). length xs < 2 ^ 32) (unique f rs others has.0 h) few.0, files_few tables types files rows unique has.1 few.1)

-- Files that have these rows have some.
pub files_some : (tables : List Table) (types : Types) (files : List SourceFile) (rows : List (List CatRow)) → Pointwise (HasRows tables types) files rows → Each (HasSomeRows tables types) files
files_some tables types [] rows has = tt
files_some tables types (f ∷ files) [] has = absurd has
files_some tables types (f ∷ files) (rs ∷ rows) has = ((rs, has.0), files_some tables types files rows has.1)

-- ---- names

-- What the later stages say of the files and tables that names were made of.
pub names_stopped : (files others : List SourceFile) (tables more : List Table) (types : Types) → others ≡ files → more ≡ tables → name_faults files tables ≡ [] → ArePosets files types.posets
    → (fault : FileFault) → IsFirstAfter others more types fault → IsFirstFault files tables fault
names_stopped files others tables more types same also none posets fault h =
    inr (none, (types, posets, subst (λ (ts : List Table). IsFirstAfter files ts types fault) also (subst (λ (fs : List SourceFile). IsFirstAfter fs more types fault) same h)))
