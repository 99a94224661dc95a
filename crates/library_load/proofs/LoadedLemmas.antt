-- What is loaded of a folder, from what is gathered and what that writes.
use Rattle.std.proofs.Common.{◌≡◌, ◌∙◌, inl, inr, refl, sym, ap, subst, List, [], ◌∷◌, map}
use Rattle.std.specs.Prelude.{Some, None, Result, Ok, Err}
use Rattle.design_world.specs.Files.{File}
use Rattle.design_world.specs.InMemory.{files_of}
use Rattle.design_world.specs.declared.memory.folder.MemoryFile.{MemoryFile}
use Rattle.fault_list.specs.FirstBad.{AnswersBy}
use Rattle.fault_list.specs.declared.fault.FileFault.{FileFault}
use Rattle.fault_list.specs.declared.fault.Stop.{Stop}
use Rattle.fault_list.specs.declared.fault.Stop.TheVariants as stop
use Rattle.library_files.specs.Parsed.{AreParsed}
use Rattle.library_files.specs.Taken.{AreTaken, Gathers, limit_fault}
use Rattle.library_files.specs.declared.fault.LoadFault.{LoadFault}
use Rattle.library_files.specs.declared.fault.LoadFault.TheVariants as load
use Rattle.library_files.specs.declared.fault.LibraryFault.TheVariants.{Refused}
use Rattle.library_files.specs.declared.parse.Parsed.{Parsed}
use Rattle.library_load.specs.Accepted.{IsFirstFault}
use Rattle.library_load.specs.Loaded.{IsFaultOf, IsRefused, Loads}
use Rattle.library_load.specs.Stages.{IsLoadedOf, IsOf}
use Rattle.library_load.specs.declared.library.Library.{Library}

-- What is said of the files and tables is said of the files that write them.
pub of_parsed : (taken : List MemoryFile) (made : Parsed) → AreParsed taken made → (r : Result Library (Stop FileFault)) → AnswersBy (IsOf made.files made.tables) (IsFirstFault made.files made.tables) r → AnswersBy (IsLoadedOf taken) (IsFaultOf taken) r
of_parsed taken made parsed (Ok library) h = (subst (AreParsed taken) (λ i. record { files = sym h.0 i; tables = sym h.1 i }) parsed, h.2)
of_parsed taken made parsed (Err (stop.At fault)) h = inr (made, parsed, h)
of_parsed taken made parsed (Err stop.Memory) h = tt

-- the files, in memory
in_memory : List File → List MemoryFile
in_memory files = map (λ file. record { name = file.name; bytes = file.bytes }) files

same_in_memory : (files : List File) → files_of (map (λ file. record { name = file.name; bytes = file.bytes }) files) ≡ files
same_in_memory [] = refl
same_in_memory (file ∷ files) = ap (λ rest. file ∷ rest) (same_in_memory files)

-- Files that pass a limit are refused for it.
pub not_gathered : (files taken : List File) → AreTaken files taken → (fault : LoadFault) → Gathers taken (Err fault) → Loads files (Err fault)
not_gathered files taken are (load.Library reason) h =
    let same = sym (same_in_memory taken) in
    record { taken = _; are_taken = subst (AreTaken files) same are; is_reason = inl (subst (λ fs. limit_fault fs ≡ Some reason) same h) }
not_gathered files taken are load.Folder h = tt
not_gathered files taken are load.Memory h = tt

module _ (files taken : List File) (are : AreTaken files taken) (gathered : List MemoryFile) (within : limit_fault taken ≡ None) (same : files_of gathered ≡ taken) where
  are_gathered : AreTaken files (files_of gathered)
  are_gathered = subst (AreTaken files) (sym same) are

  limits : limit_fault (files_of gathered) ≡ None
  limits = ap limit_fault same ∙ within

  pub loads_library : (library : Library) → IsLoadedOf gathered library → Loads files (Ok library)
  loads_library library h = record { taken = gathered; are_taken = are_gathered; limits = limits; parsed = h.0; rules = h.1.rules }

  pub loads_fault : (fault : FileFault) → IsFaultOf gathered fault → IsRefused files (Refused fault)
  loads_fault fault h = record { taken = gathered; are_taken = are_gathered; is_reason = inr (limits, fault, refl, h) }
