-- The order in which the parts of a net are evaluated.
use Rattle.std.specs.Prelude.{ℕ, zero, suc, ◌+◌, Bool, false, not, cond, ◌&&◌, ◌==◌, List, [], ◌∷◌, length, filter}
use Rattle.std.specs.List.{list_any}
use Rattle.design_model.specs.declared.expr.Constraint.{Constraint}
use Rattle.design_model.specs.declared.expr.Greater.{Greater}
use Rattle.design_model.specs.declared.expr.Greater.TheVariants as greater
use Rattle.design_model.specs.Reading.{reads_part}
use Rattle.design_model.specs.Wiring.{Wiring}

-- The port is a provided port of this part.
abbrev pub is_into : ℕ → Greater → Bool
is_into part (greater.Own j) = false
is_into part (greater.Inner i j) = i == part

-- A part reads another one, or itself, where a constraint into it reads a required port of that part.
abbrev pub part_reads : List Constraint → ℕ → ℕ → Bool
part_reads constraints p q = list_any (λ c. is_into p c.greater && reads_part c.lower q) constraints

-- Of the parts left, this one reads no other one.
abbrev pub is_ready : (ℕ → ℕ → Bool) → List ℕ → ℕ → Bool
is_ready reads left p = not (list_any (λ q. reads p q && not (q == p)) left)

abbrev pub first_or : ℕ → List ℕ → ℕ
first_or default [] = default
first_or default (x ∷ xs) = x

-- the first part left that is ready, or else the first part left
abbrev pub next : (ℕ → ℕ → Bool) → List ℕ → ℕ
next reads left = first_or (first_or 0 left) (filter (is_ready reads left) left)

-- the other parts left
abbrev pub without : ℕ → List ℕ → List ℕ
without p left = filter (λ q. not (q == p)) left

-- the parts taken in this many turns
abbrev pub turns : (ℕ → ℕ → Bool) → ℕ → List ℕ → List ℕ
turns reads zero left = []
turns reads (suc n) left = next reads left ∷ turns reads n (without (next reads left) left)

-- n numbers, from this one on
abbrev pub numbers_from : ℕ → ℕ → List ℕ
numbers_from start zero = []
numbers_from start (suc n) = start ∷ numbers_from (start + 1) n

-- All parts, by their numbers, in turns. Each turn takes the first declared part left that reads no other part left; where there is none, it takes the first one left.
abbrev pub evaluation_order : Wiring → List ℕ
evaluation_order net = turns (part_reads net.constraints) (length net.provided) (numbers_from 0 (length net.provided))

-- how many parts stand before this one
abbrev pub place : List ℕ → ℕ → ℕ
place [] p = 0
place (q ∷ order) p = cond (q == p) 0 (place order p + 1)
