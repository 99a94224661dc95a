use Rattle.fault_list.specs.FaultLaws.{by_place_rises, by_place_keeps}
use Rattle.fault_list.proofs.laws.places_are_sorted_stably.Goals as goal

pub returns-clause-rises : goal.returns-clause-rises
returns-clause-rises c = by_place_rises

pub returns-clause-keeps : goal.returns-clause-keeps
returns-clause-keeps c = by_place_keeps
