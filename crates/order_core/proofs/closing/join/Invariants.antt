use Rattle.std.proofs.Common.{◌≡◌, ◌++◌, map, take, drop, cond, get_or}
use Rattle.std.specs.Int.Bits.{bit_or}
use Rattle.order_core.specs.Word.{is_in_word}
use Rattle.order_core.proofs.closing.join.Given as goal

-- The rows so far are joined.
abbrev pub invariant-loop-row : goal.invariant-loop-row
invariant-loop-row l = l.table ≡ map (λ row. cond (is_in_word row l.a) (bit_or row (get_or l.fn.table l.b 0)) row) (take l.row-index l.fn.table) ++ drop l.row-index l.fn.table
