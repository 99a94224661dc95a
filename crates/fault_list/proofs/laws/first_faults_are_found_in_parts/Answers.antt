use Rattle.fault_list.specs.FaultLaws.{first_left, least_joined, first_by_place, none_by_place}
use Rattle.fault_list.proofs.laws.first_faults_are_found_in_parts.Goals as goal

pub returns-clause-joined : goal.returns-clause-joined
returns-clause-joined c = first_left

pub returns-clause-least : goal.returns-clause-least
returns-clause-least c = least_joined

pub returns-clause-by_place : goal.returns-clause-by_place
returns-clause-by_place c = first_by_place

pub returns-clause-none : goal.returns-clause-none
returns-clause-none c = none_by_place
