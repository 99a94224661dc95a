use Rattle.kleene_loop.specs.FirstLaws.{empty_of_no_first}
use Rattle.ascent_examples.proofs.driver.ask_all.Goals as goal

pub returns-clause-done : goal.returns-clause-done
returns-clause-done g c = empty_of_no_first c.points.climb.todo c.in_default.ensures.first
