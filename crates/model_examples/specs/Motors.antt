-- A catalogue of motors.
use Rattle.std.specs.Prelude.{codes, List, [], ◌∷◌}
use Rattle.design_model.specs.Rows.{Row}
use Rattle.design_model.specs.declared.design.CatRow.{CatRow}
use Rattle.design_model.specs.declared.design.Design.TheVariants.{Cat}
use Rattle.design_model.specs.declared.design.Design.{Design}
use Rattle.model_examples.specs.Words.{number_port, counts, row}
use Rattle.value_type.specs.declared.port.Port.{Port}

abbrev pub provides : List Port
provides = number_port (codes "lift") ∷ []

abbrev pub requires_ : List Port
requires_ = number_port (codes "mass") ∷ number_port (codes "cost") ∷ []

abbrev pub rows : List CatRow
rows = row (codes "a") (100 ∷ []) (10 ∷ 5 ∷ []) ∷ row (codes "b") (120 ∷ []) (8 ∷ 7 ∷ []) ∷ row (codes "c") (200 ∷ []) (12 ∷ 7 ∷ []) ∷ []

-- Three motors: what each lifts, weighs and costs.
abbrev pub motors : Design
motors = Cat provides requires_ rows

-- what rows a and b require
abbrev pub least : List Row
least = counts (8 ∷ 7 ∷ []) ∷ counts (10 ∷ 5 ∷ []) ∷ []
