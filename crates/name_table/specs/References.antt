-- Which files refer to one another.
use Rattle.std.specs.Prelude.{◌+◌, ℕ, Bool, cond, List, [], ◌∷◌, ◌++◌, map, length, Option, Some, None}
use Rattle.std.specs.List.{flat_map}
use Rattle.design_lexer.specs.declared.tree.BodyTree.{BodyTree}
use Rattle.design_lexer.specs.declared.tree.BodyTree.TheVariants as body
use Rattle.design_lexer.specs.declared.tree.BranchTree.{BranchTree}
use Rattle.design_lexer.specs.declared.tree.File.{File}
use Rattle.design_lexer.specs.declared.tree.File.TheVariants as file
use Rattle.design_lexer.specs.declared.tree.NameAt.{NameAt}
use Rattle.fault_list.specs.Faults.{fault_if}
use Rattle.fault_list.specs.declared.fault.FaultKind.TheVariants.{Circular}
use Rattle.fault_list.specs.declared.fault.FileFault.{FileFault}
use Rattle.name_rules.specs.References.{reference_names}
use Rattle.name_rules.specs.Unknown.{is_param}
use Rattle.name_table.specs.Files.{is_design, stem_place}
use Rattle.name_table.specs.declared.source.SourceFile.{SourceFile}
use Rattle.reachability.specs.Leads.{leads_through}

abbrev pub listed : Option ℕ → List ℕ
listed (Some i) = i ∷ []
listed None = []

-- the file that a name stands for, if it is no parameter: a parameter hides a design of its name
abbrev pub file_named : (List ℕ → Option ℕ) → (List ℕ → Bool) → NameAt → List ℕ
file_named find hidden name = cond (hidden name.name) [] (listed (find name.name))

-- the branches or instances of a body, in order
abbrev pub branches_of : BodyTree → List BranchTree
branches_of (body.Catalogue ports rows table) = []
branches_of (body.Choose branches) = branches
branches_of (body.Net ports parts rules) = parts

-- the files that the references of branches name, those within arguments too
abbrev pub refers : (List ℕ → Option ℕ) → (List ℕ → Bool) → List BranchTree → List ℕ
refers find hidden branches = flat_map (λ b. flat_map (file_named find hidden) (reference_names b.reference)) branches

-- the files that this one refers to
abbrev pub file_refers : (List ℕ → Option ℕ) → File → List ℕ
file_refers find (file.Poset poset) = []
file_refers find (file.Interface ports) = []
file_refers find (file.Design b) = refers find (is_param []) (branches_of b)
file_refers find (file.Template params b) = refers find (is_param params) (branches_of b)

-- the pairs of a file, by its number, and one that it refers to, from this number on
abbrev pub references_from : (List ℕ → Option ℕ) → ℕ → List SourceFile → List (ℕ × ℕ)
references_from find i [] = []
references_from find i (f ∷ files) = map (λ j. (i, j)) (file_refers find f.tree) ++ references_from find (i + 1) files

-- the pairs of files, by their numbers, of which the first refers to the second
abbrev pub references : List SourceFile → List (ℕ × ℕ)
references files = references_from (stem_place is_design files) 0 files

abbrev pub circular : List ℕ → FileFault
circular name = record { file = name; kind = Circular; at = 0 }

-- of the files from number i on, of n in all, those from which a chain of pairs comes back
abbrev pub circular_from : List (ℕ × ℕ) → ℕ → ℕ → List SourceFile → List FileFault
circular_from pairs n i [] = []
circular_from pairs n i (f ∷ files) = fault_if (leads_through pairs n i i) (circular f.name) ++ circular_from pairs n (i + 1) files

-- the files from which a chain of references comes back to them
abbrev pub circular_faults : List SourceFile → List FileFault
circular_faults files = circular_from (references files) (length files) 0 files
