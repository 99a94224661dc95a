-- What the code gives, against reading on lists.
use Rattle.std.specs.Prelude.{◌≡◌, ℕ, Result, Ok, Err}
use Rattle.design_lexer.specs.declared.syntax.fault.ReadFault.TheVariants as fault
use Rattle.design_lexer.specs.declared.syntax.fault.ReadFault.{ReadFault}

-- the fault is the one of reading, unless memory was refused
abbrev pub FaultIs : {Y : Type 0} → ReadFault → Result Y ℕ → Type 0
FaultIs fault.Memory read = Unit {0}
FaultIs (fault.Left n) read = read ≡ Err n

abbrev pub Gives : {X Y : Type 0} → (X → Y) → Result X ReadFault → Result Y ℕ → Type 0
Gives view (Ok x) read = read ≡ Ok (view x)
Gives view (Err e) read = FaultIs e read
