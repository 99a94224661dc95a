use Rattle.std.proofs.Common.{sym}
use Rattle.value_type.proofs.PortKindLemmas.{lower_unequal, upper_unequal}
use Rattle.value_type.proofs.port.ports_leq.Goals as goal

pub returns-then-ports-xs : goal.returns-then-ports-xs
returns-then-ports-xs c = sym (lower_unequal c.args.types.now c.args.ports.now c.args.xs.now c.args.ys.now c.if-ports-xs.true)

pub returns-then-ports-ys : goal.returns-then-ports-ys
returns-then-ports-ys c = sym (upper_unequal c.args.types.now c.args.ports.now c.args.xs.now c.args.ys.now c.if-ports-ys.true)
