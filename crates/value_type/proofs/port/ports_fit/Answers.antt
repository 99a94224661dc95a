use Rattle.std.proofs.Common.{sym}
use Rattle.value_type.proofs.PortKindLemmas.{fits_unequal}
use Rattle.value_type.proofs.port.ports_fit.Goals as goal

pub returns-then-ports-values : goal.returns-then-ports-values
returns-then-ports-values c = sym (fits_unequal c.args.types.now c.args.ports.now c.args.values.now c.if-ports-values.true)
