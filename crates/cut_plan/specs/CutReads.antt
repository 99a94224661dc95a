-- The cut reads and the cut signals as lists.
use Rattle.std.specs.Prelude.{ℕ, zero, suc, ◌+◌, Bool, false, cond, nat_le, ◌&&◌, ◌==◌, List, [], ◌∷◌, ◌++◌, length, filter, Option, Some, None, slice_get}
use Rattle.std.specs.List.{list_any}
use Rattle.cut_plan.specs.declared.reads.Signal.{Signal}
use Rattle.design_model.specs.declared.design.Part.{Part}
use Rattle.design_model.specs.Cuts.{Signal as Typed}
use Rattle.design_model.specs.Parts.{required_ports}

abbrev pub late_at : ℕ → Option ℕ → Bool
late_at at None = false
late_at at (Some owner) = nat_le at owner

-- A read of the signal by a part at this place is a cut read, given each part's place.
abbrev pub is_late : List ℕ → ℕ → Signal → Bool
is_late places at s = late_at at (slice_get places s.part)

-- the cut reads among what each part reads, given the parts' places
abbrev pub late_reads : List ℕ → List (List Signal) → List ℕ → List Signal
late_reads places [] ats = []
late_reads places (signals ∷ table) [] = []
late_reads places (signals ∷ table) (at ∷ ats) = filter (is_late places at) signals ++ late_reads places table ats

-- The port stands in the list of cut reads.
abbrev pub is_listed : List Signal → ℕ → ℕ → Bool
is_listed cut part port = list_any (λ (s : Signal). (s.part == part) && (s.port == port)) cut

-- the listed ones among n ports of a part, from this port on
abbrev pub listed_ports : List Signal → ℕ → ℕ → ℕ → List Signal
listed_ports cut part port zero = []
listed_ports cut part port (suc n) = cond (is_listed cut part port) (record { part = part; port = port } ∷ listed_ports cut part (port + 1) n) (listed_ports cut part (port + 1) n)

-- the listed ones among the required ports of the parts, whose numbers begin with `start`
abbrev pub listed_signals : List Signal → ℕ → List Part → List Signal
listed_signals cut start [] = []
listed_signals cut start (p ∷ parts) = listed_ports cut start 0 (length (required_ports p.design)) ++ listed_signals cut (start + 1) parts

-- a signal without its type
abbrev pub signal_at : Typed → Signal
signal_at s = record { part = s.part; port = s.port }
