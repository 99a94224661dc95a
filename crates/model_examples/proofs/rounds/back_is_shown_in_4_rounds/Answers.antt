use Rattle.std.proofs.Common.{◌∷◌, [], lit≤}
use Rattle.model_examples.specs.Back.{types, back, t}
use Rattle.model_examples.proofs.BackEnough.{back_typed, enough_is, minimum_is}
use Rattle.model_examples.proofs.rounds.back_is_shown_in_4_rounds.Goals as goal

pub returns : goal.returns
returns c =
    let law = c.enough_rounds_are_enough.ensures in
    let minimum = (law.minima types 4 4 back [] (t ∷ []) back_typed enough_is (lit≤ tt)).1 minimum_is in
    record { enough = enough_is; minimum = minimum; shown = law.shown types 4 4 back [] (t ∷ []) back_typed enough_is (lit≤ tt) minimum }
