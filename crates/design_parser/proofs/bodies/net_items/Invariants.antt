use Rattle.std.proofs.Common.{◌≡◌, length}
use Rattle.design_lexer.specs.Syntax.Classes.{one_of}
use Rattle.design_lexer.specs.Syntax.Reading.{many_at}
use Rattle.design_parser.specs.Readers.{item_starts, net_item_at, net_items_at}
use Rattle.design_parser.specs.Trees.{with_item}
use Rattle.design_parser.specs.Lists.{lists_of}
use Rattle.design_parser.proofs.bodies.net_items.Given as goal

-- what is left, added to what was read, gives what all gives
abbrev pub invariant-loop-alloc : goal.invariant-loop-alloc
invariant-loop-alloc l = many_at with_item (one_of item_starts) net_item_at (lists_of l.lists) l.lexemes ≡ net_items_at l.fn.lexemes

abbrev pub decreases-loop-alloc : goal.decreases-loop-alloc
decreases-loop-alloc l = length l.lexemes
