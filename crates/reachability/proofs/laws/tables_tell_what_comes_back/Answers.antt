use Rattle.reachability.specs.ReachLaws.{first_comes_back, none_comes_back}
use Rattle.reachability.proofs.laws.tables_tell_what_comes_back.Goals as goal

pub returns-clause-first : goal.returns-clause-first
returns-clause-first c = first_comes_back

pub returns-clause-none : goal.returns-clause-none
returns-clause-none c = none_comes_back
