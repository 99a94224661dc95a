-- Which parts are left in a turn.
use Rattle.std.specs.Prelude.{ℕ, ◌+◌, Bool, true, false, not, ◌&&◌, ◌==◌, List, [], ◌∷◌, get_or}
use Rattle.std.specs.List.{list_any}
use Rattle.cut_plan.specs.declared.reads.Signal.{Signal}

-- A part reads another one by a table of what is read.
abbrev pub table_reads : List (List Signal) → ℕ → ℕ → Bool
table_reads table p q = list_any (λ (s : Signal). s.part == q) (get_or table p [])

-- the parts from this one on that are not taken
abbrev pub left_from : ℕ → List Bool → List ℕ
left_from start [] = []
left_from start (true ∷ taken) = left_from (start + 1) taken
left_from start (false ∷ taken) = start ∷ left_from (start + 1) taken

-- The part is there, and is not taken.
abbrev pub is_left : List Bool → ℕ → Bool
is_left taken p = not (get_or taken p true)

-- The part waits for what the signal is read of.
abbrev pub waits : List Bool → ℕ → Signal → Bool
waits taken p s = is_left taken s.part && not (s.part == p)
