-- References of a library with their names resolved, and its modules.
use Rattle.std.specs.Prelude.{◌≡◌, ℕ, List, length, map, Option, Some, None, Result, Ok, Err, option_map, slice_get}
use Rattle.design_lexer.specs.declared.tree.BodyTree.{BodyTree}
use Rattle.design_lexer.specs.declared.tree.BranchTree.{BranchTree}
use Rattle.design_lexer.specs.declared.tree.RefTree.{RefTree}
use Rattle.design_model.specs.declared.design.CatRow.{CatRow}
use Rattle.module_link.specs.Contents.{AreSourcesOf, bare_sources, source_of}
use Rattle.module_link.specs.declared.fault.LinkFault.{LinkFault}
use Rattle.module_link.specs.declared.fault.LinkFault.TheVariants as fault
use Rattle.name_table.specs.declared.source.SourceFile.{SourceFile}
use Rattle.name_table.specs.declared.source.Table.{Table}
use Rattle.reference_meaning.specs.Linking.{AreModules, IsModuleOf, resolved_of}
use Rattle.reference_meaning.specs.Modules.{Modules}
use Rattle.reference_meaning.specs.Sources.{Source, body_of, branches_of, params_of}
use Rattle.reference_meaning.specs.declared.module.Link.{Link}
use Rattle.reference_meaning.specs.declared.module.Module.{Module}
use Rattle.reference_meaning.specs.declared.module.Resolved.{Resolved}
use Rattle.tree_units.specs.Together.{together}
use Rattle.value_type.specs.declared.poset.Types.{Types}

-- It is this, or else Unresolved, exactly where there is none. Want of memory says nothing.
abbrev pub Finds : {A : Type 0} → Option A → Result A LinkFault → Type 0
Finds found (Ok x) = found ≡ Some x
Finds found (Err fault.Unresolved) = found ≡ None
Finds found (Err fault.Memory) = Unit {0}

-- the reference with its names resolved, in a file with these parameters
abbrev pub resolved_in : List SourceFile → List (List ℕ) → RefTree → Option Resolved
resolved_in files params q = resolved_of (bare_sources files) params q

abbrev pub link_of : List SourceFile → List (List ℕ) → BranchTree → Option Link
link_of files params b = option_map (λ r. record { name = b.name.name; reference = r }) (resolved_in files params b.reference)

-- the links of branches or instances, where each is resolved
abbrev pub links_of : List SourceFile → List (List ℕ) → List BranchTree → Option (List Link)
links_of files params branches = together (map (link_of files params) branches)

-- The module is that of this file, which is the one of this number and has these rows. A file that is no design or template has none.
abbrev pub IsModuleAt : List SourceFile → Types → ℕ → SourceFile → List CatRow → Option BodyTree → Option Module → Type 0
IsModuleAt files types i f rows (Some b) (Some m) = IsModuleOf (bare_sources files) (source_of files types i f rows) b m
IsModuleAt files types i f rows None None = Unit {0}
IsModuleAt files types i f rows _ _ = ⊥

-- Some branch or instance of the file isn't resolved.
abbrev pub IsUnresolved : List SourceFile → SourceFile → Type 0
IsUnresolved files f = (b : BodyTree) × (body_of f.tree ≡ Some b) × (links_of files (params_of f.tree) (branches_of b) ≡ None)

-- The modules are those of the library's designs and templates, under the numbers of their files.
pub record AreModulesOf (files : List SourceFile) (tables : List Table) (types : Types) (modules : Modules) : Type 0 where
  pub sources : List Source
  pub are_sources : AreSourcesOf files tables types sources
  pub are_modules : AreModules sources modules
  pub size : length modules ≡ length files
  pub others : (i : ℕ) (f : SourceFile) → slice_get files i ≡ Some f → body_of f.tree ≡ None → slice_get modules i ≡ Some None
