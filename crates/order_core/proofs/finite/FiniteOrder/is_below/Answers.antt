use Rattle.std.proofs.Common.{sym}
use Rattle.order_core.specs.WordLaws.{no_word}
use Rattle.order_core.proofs.finite.FiniteOrder.is_below.Goals as goal

pub returns-in-None : goal.returns-in-None
returns-in-None c = sym (no_word c.args.self.now.table c.args.a c.args.b c.in-None.ensures)
