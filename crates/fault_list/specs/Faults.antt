-- Lists of faults, put together from the rules that are broken, and the first one of them.
use Rattle.std.specs.Prelude.{◌≤◌, ℕ, Bool, nat_eq, nat_le, cond, List, [], ◌∷◌, filter, map, Option, Some, None, Result, Ok, Err}
use Rattle.order_core.specs.Pointwise.{Each}
use Rattle.fault_list.specs.declared.fault.Fault.{Fault}
use Rattle.fault_list.specs.declared.fault.FileFault.{FileFault}

abbrev pub first_fault : {F : Type 0} → List F → Option F
first_fault [] = None
first_fault (x ∷ xs) = Some x

-- the fault, where the rule is broken
abbrev pub fault_if : {F : Type 0} → Bool → F → List F
fault_if broken fault = cond broken (fault ∷ []) []

-- the fault, where there is nothing
abbrev pub fault_unless : {A F : Type 0} → Option A → F → List F
fault_unless (Some x) fault = []
fault_unless None fault = fault ∷ []

-- the fault of a result, where it is one
abbrev pub faults_in : {A F : Type 0} → Result A F → List F
faults_in (Ok x) = []
faults_in (Err fault) = fault ∷ []

-- the one at the lesser place, and the first one where they stand at the same place
abbrev pub earlier : Option Fault → Option Fault → Option Fault
earlier None b = b
earlier (Some x) None = Some x
earlier (Some x) (Some y) = cond (nat_le x.at y.at) (Some x) (Some y)

-- the fault at the least place, and the first one of those that stand there
abbrev pub least : List Fault → Option Fault
least [] = None
least (x ∷ xs) = earlier (Some x) (least xs)

-- put before the first one that stands at as great a place
abbrev pub put : Fault → List Fault → List Fault
put x [] = x ∷ []
put x (y ∷ ys) = cond (nat_le x.at y.at) (x ∷ y ∷ ys) (y ∷ put x ys)

-- the faults of a file in the order of their places, and those of one place in the order in which they are listed
abbrev pub by_place : List Fault → List Fault
by_place [] = []
by_place (x ∷ xs) = put x (by_place xs)

-- No fault stands at a greater place than one after it.
abbrev pub InPlaces : List Fault → Type 0
InPlaces [] = Unit {0}
InPlaces (x ∷ xs) = Each (λ y. x.at ≤ y.at) xs × InPlaces xs

-- the faults at one place, in order
abbrev pub at_place : ℕ → List Fault → List Fault
at_place k faults = filter (λ x. nat_eq x.at k) faults

-- the fault with the name of its file
abbrev pub named : List ℕ → Fault → FileFault
named file fault = record { file = file; kind = fault.kind; at = fault.at }

-- the faults of one file, with its name
abbrev pub in_file : List ℕ → List Fault → List FileFault
in_file file faults = map (named file) faults
