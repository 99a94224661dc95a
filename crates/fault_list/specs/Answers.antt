-- What a check answers by the list of faults that its rules make.
use Rattle.std.specs.Prelude.{◌≡◌, ℕ, List, [], Some, Result, Ok, Err}
use Rattle.fault_list.specs.Faults.{first_fault, named}
use Rattle.fault_list.specs.declared.fault.Fault.{Fault}
use Rattle.fault_list.specs.declared.fault.FileFault.{FileFault}
use Rattle.fault_list.specs.declared.fault.Stop.{Stop}
use Rattle.fault_list.specs.declared.fault.Stop.TheVariants as stop

-- There is no fault, and the value is what is meant; or this is the first fault. Want of memory says nothing.
abbrev pub Answers : {A F : Type 0} → List F → (A → Type 0) → Result A (Stop F) → Type 0
Answers faults Meant (Ok x) = (faults ≡ []) × Meant x
Answers faults Meant (Err (stop.At fault)) = first_fault faults ≡ Some fault
Answers faults Meant (Err stop.Memory) = Unit {0}

-- The same of a check that takes no memory.
abbrev pub FindsFirst : {A F : Type 0} → List F → (A → Type 0) → Result A F → Type 0
FindsFirst faults Meant (Ok x) = (faults ≡ []) × Meant x
FindsFirst faults Meant (Err fault) = first_fault faults ≡ Some fault

-- The same fault, with the name of the file, or want of memory.
abbrev pub IsInFile : List ℕ → Stop Fault → Stop FileFault → Type 0
IsInFile file (stop.At fault) (stop.At placed) = placed ≡ named file fault
IsInFile file (stop.At fault) stop.Memory = Unit {0}
IsInFile file stop.Memory (stop.At placed) = ⊥
IsInFile file stop.Memory stop.Memory = Unit {0}
