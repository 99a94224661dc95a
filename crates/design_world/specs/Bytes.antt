-- The bytes that are left in a source and those written to a sink, where they are told.
use Rattle.std.proofs.Common.{◌≡◌, ℕ, ◌+◌, ◌++◌, List, [], Option, Some, None, Result, Ok, Err, take}
use Rattle.std.specs.Prelude.{IfSome}
use Rattle.design_world.specs.declared.world.WorldFault.{WorldFault}

-- the told bytes with these before them
abbrev pub preceded : List ℕ → Option (List ℕ) → Option (List ℕ)
preceded bytes None = None
preceded bytes (Some rest) = Some (bytes ++ rest)

-- the told bytes with these after them
abbrev pub followed : Option (List ℕ) → List ℕ → Option (List ℕ)
followed None bytes = None
followed (Some written) bytes = Some (written ++ bytes)

-- what is taken and then what is left is what was left before, and it is empty only where nothing was; an Err leaves the bytes
abbrev pub Takes : Option (List ℕ) → Option (List ℕ) → Result (List ℕ) WorldFault → Type 0
Takes before now (Ok bytes) = (before ≡ preceded bytes now) × (bytes ≡ [] → IfSome before (λ old. old ≡ []))
Takes before now (Err fault) = now ≡ before

-- an Ok of n wrote the first n bytes of the piece, and an Err nothing
abbrev pub Appends : Option (List ℕ) → Option (List ℕ) → List ℕ → Result ℕ WorldFault → Type 0
Appends before now piece (Ok count) = now ≡ followed before (take count piece)
Appends before now piece (Err fault) = now ≡ before

-- an Ok wrote all the bytes, and an Err some first ones of them
abbrev pub Wrote : Option (List ℕ) → Option (List ℕ) → List ℕ → Result (Unit {0}) WorldFault → Type 0
Wrote before now bytes (Ok done) = now ≡ followed before bytes
Wrote before now bytes (Err fault) = (count : ℕ) × (now ≡ followed before (take count bytes))
