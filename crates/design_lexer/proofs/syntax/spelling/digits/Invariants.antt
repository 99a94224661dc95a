use Rattle.std.proofs.Common.{◌≡◌, ◌+◌, ◌*◌, ◌^◌, ◌≤◌, drop}
use Rattle.design_lexer.specs.Syntax.Spelled.{with_digit, digits_of}
use Rattle.design_lexer.specs.Syntax.Words.{fold}
use Rattle.design_lexer.proofs.syntax.spelling.digits.Given as goal

-- what is left, read after the value so far, gives what all gives; and the value has no more digits than were read
abbrev pub invariant-loop-byte : goal.invariant-loop-byte
invariant-loop-byte l = (fold with_digit l.value (drop l.byte-index l.bytes) ≡ digits_of l.bytes) × (l.value + 23 ≤ 23 * 10 ^ l.byte-index)
