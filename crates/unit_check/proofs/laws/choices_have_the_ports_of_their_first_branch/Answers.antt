use Rattle.unit_check.proofs.DeclaringLemmas.{declaring_ends, ports_next, ports_own}
use Rattle.unit_check.proofs.laws.choices_have_the_ports_of_their_first_branch.Goals as goal

pub returns-clause-first : goal.returns-clause-first
returns-clause-first c = ports_next c.args.names.now.files c.args.names.now.ranks c.args.names.now.indexed.ranks_are

pub returns-clause-own : goal.returns-clause-own
returns-clause-own c = ports_own c.args.names.now.files

pub returns-clause-ends : goal.returns-clause-ends
returns-clause-ends c = declaring_ends c.args.names.now.files c.args.names.now.ranks c.args.names.now.indexed.ranks_are
