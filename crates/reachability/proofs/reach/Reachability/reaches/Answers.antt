use Rattle.std.proofs.Common.{sym}
use Rattle.reachability.proofs.RowLemmas.{past_get}
use Rattle.reachability.proofs.reach.Reachability.reaches.Goals as goal

pub returns-in-None : goal.returns-in-None
returns-in-None c = sym (past_get c.args.self.now.rows c.args.a c.args.b c.in-None.ensures)
