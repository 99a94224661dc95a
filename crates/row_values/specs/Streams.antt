-- Records that are read one after the other.
use Rattle.std.specs.Prelude.{ℕ, List, Result, Ok, Err}
use Rattle.fault_list.specs.declared.fault.Fault.{Fault}
use Rattle.fault_list.specs.declared.fault.Stop.{Stop}
use Rattle.fault_list.specs.declared.fault.Stop.TheVariants as stop
use Rattle.row_values.specs.Tables.{Record, TableBegins, TableHas}

-- the records have been read, or the last of them is the first with a fault
abbrev pub Reads : {S A : Type 0} → (List Record → S → Type 0) → (List Record → Fault → Type 0) → List Record → S → Result A (Stop Fault) → Type 0
Reads SoFar Fails records s (Ok x) = SoFar records s
Reads SoFar Fails records s (Err (stop.At f)) = Fails records f
Reads SoFar Fails records s (Err stop.Memory) = Unit {0}

-- all records of the table have been read, or those with which it begins end with the first that has a fault
abbrev pub ReadsAll : {S A : Type 0} → (List Record → S → Type 0) → (List Record → Fault → Type 0) → List ℕ → S → Result A (Stop Fault) → Type 0
ReadsAll SoFar Fails bytes s (Ok x) = (records : List Record) × TableHas bytes records × SoFar records s
ReadsAll SoFar Fails bytes s (Err (stop.At f)) = (records : List Record) × TableBegins bytes records × Fails records f
ReadsAll SoFar Fails bytes s (Err stop.Memory) = Unit {0}
