-- Files that are listed twice.
use Rattle.std.specs.Prelude.{ℕ, Bool, cond, List, [], ◌∷◌, ◌++◌, is_some}
use Rattle.std.specs.Cmp.Lexicographic.{slice_cmp}
use Rattle.std.specs.Ordering.{is_lt, nat_cmp}
use Rattle.design_lexer.specs.declared.tree.File.{File}
use Rattle.design_lexer.specs.declared.tree.File.TheVariants as file
use Rattle.fault_list.specs.Faults.{fault_if}
use Rattle.fault_list.specs.declared.fault.FaultKind.TheVariants.{Twice}
use Rattle.fault_list.specs.declared.fault.FileFault.{FileFault}
use Rattle.name_table.specs.Files.{is_design, is_interface, is_poset, stem_place, table_place}
use Rattle.name_table.specs.declared.source.SourceFile.{SourceFile}
use Rattle.name_table.specs.declared.source.Table.{Table}

-- the files that share a space of names with this one
abbrev pub space_of : File → File → Bool
space_of (file.Poset poset) = is_poset
space_of (file.Interface ports) = is_interface
space_of (file.Design body) = is_design
space_of (file.Template params body) = is_design

-- A file of its space that stands before it has its stem.
abbrev pub is_taken : List SourceFile → SourceFile → Bool
is_taken before f = is_some (stem_place (space_of f.tree) before f.stem)

abbrev pub listed_twice : List ℕ → FileFault
listed_twice name = record { file = name; kind = Twice; at = 0 }

-- the files whose stem is taken
abbrev pub taken_stems : List SourceFile → List SourceFile → List FileFault
taken_stems before [] = []
taken_stems before (f ∷ files) = fault_if (is_taken before f) (listed_twice f.name) ++ taken_stems (before ++ f ∷ []) files

-- the tables that a table before them has the stem of
abbrev pub taken_tables : List Table → List Table → List FileFault
taken_tables before [] = []
taken_tables before (t ∷ tables) = fault_if (is_some (table_place before t.stem)) (listed_twice t.name) ++ taken_tables (before ++ t ∷ []) tables

-- the first text comes before the second in the order of bytes
abbrev pub is_before : List ℕ → List ℕ → Bool
is_before a b = is_lt (slice_cmp nat_cmp a b)

-- the fault among the others, which stand before it as long as their files do
abbrev pub among : FileFault → (List FileFault → List FileFault) → List FileFault → List FileFault
among x rest [] = x ∷ rest []
among x rest (y ∷ ys) = cond (is_before y.file x.file) (y ∷ among x rest ys) (x ∷ rest (y ∷ ys))

-- the faults of two lists, in the order of their files' names
abbrev pub by_file : List FileFault → List FileFault → List FileFault
by_file [] ys = ys
by_file (x ∷ xs) ys = among x (by_file xs) ys

-- the files and tables that are listed twice
abbrev pub listing_faults : List SourceFile → List Table → List FileFault
listing_faults files tables = by_file (taken_stems [] files) (taken_tables [] tables)
