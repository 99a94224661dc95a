-- What the place of a syntax fault has to meet.
use Rattle.std.specs.Prelude.{ℕ}
use Rattle.design_parser.specs.declared.parse.SyntaxFault.{SyntaxFault}
use Rattle.design_parser.specs.declared.parse.SyntaxFault.TheVariants as fault

abbrev pub IfAt : SyntaxFault → (ℕ → Type 0) → Type 0
IfAt (fault.At at) P = P at
IfAt fault.Memory P = Unit {0}
