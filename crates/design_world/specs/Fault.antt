-- Counts of failed calls, and what a call's result says of them.
use Rattle.std.specs.Prelude.{◌≡◌, ℕ, ◌+◌, ◌-◌, ◌^◌, ◌≤◌, List, Result, Ok, Err, Bool, IsTrue, min}
use Rattle.design_world.specs.declared.world.WorldFault.TheVariants.{Failed, Memory}
use Rattle.design_world.specs.declared.world.WorldFault.{WorldFault}

-- the count after one more, which stands still at the greatest u64
abbrev pub one_more : ℕ → ℕ
one_more count = min (count + 1) (2 ^ 64 - 1)

-- the count rose, or stands at its end
abbrev pub Rose : ℕ → ℕ → Type 0
Rose before now = one_more before ≤ now

-- a fact that holds where the call failed
abbrev pub FailedOnly : {T : Type 0} → Result T WorldFault → Type 0 → Type 0
FailedOnly (Ok value) P = Unit {0}
FailedOnly (Err Failed) P = P
FailedOnly (Err Memory) P = Unit {0}

-- a fact that holds where memory was wanting
abbrev pub MemoryOnly : {T : Type 0} → Result T WorldFault → Type 0 → Type 0
MemoryOnly (Ok value) P = Unit {0}
MemoryOnly (Err Failed) P = Unit {0}
MemoryOnly (Err Memory) P = P

-- the count never falls, and the call failed only where it rose
pub record HasCause {T : Type 0} (before now : ℕ) (result : Result T WorldFault) : Type 0 where
  pub later : before ≤ now
  pub failed : FailedOnly result (Rose before now)

-- at no place does the count fall
abbrev pub NeverFall : (List ℕ → ℕ) → (List ℕ → ℕ) → Type 0
NeverFall before now = (place : List ℕ) → before place ≤ now place

-- the object is still reliable, its count as it was, and the call did not fail
pub record RunsReliably {T : Type 0} (still : Bool) (before now : ℕ) (result : Result T WorldFault) : Type 0 where
  pub reliable : IsTrue still
  pub count : now ≡ before
  pub answered : FailedOnly result ⊥

-- the folder is still reliable, its counts as they were at every place, and the call did not fail
pub record FolderRunsReliably {T : Type 0} (still : Bool) (before now : List ℕ → ℕ) (result : Result T WorldFault) : Type 0 where
  pub reliable : IsTrue still
  pub counts : (place : List ℕ) → now place ≡ before place
  pub answered : FailedOnly result ⊥
