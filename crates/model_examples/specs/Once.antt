-- A part that has to provide what it requires itself, and provides 0 for 1. So its loop climbs once, and then there is no further step.
use Rattle.std.specs.Prelude.{codes, List, [], ◌∷◌}
use Rattle.value_type.specs.declared.port.Port.{Port}
use Rattle.design_model.specs.declared.design.CatRow.{CatRow}
use Rattle.design_model.specs.declared.design.Design.{Design}
use Rattle.design_model.specs.declared.design.Design.TheVariants.{Cat}
use Rattle.design_model.specs.declared.expr.Expr.TheVariants as expr
use Rattle.design_model.specs.declared.expr.Greater.TheVariants as greater
use Rattle.design_model.specs.Steady.{NetOf}
use Rattle.model_examples.specs.Words.{number_port, row, part, constraint}

abbrev pub maker_provides : List Port
maker_provides = number_port (codes "x") ∷ []

abbrev pub maker_requires : List Port
maker_requires = number_port (codes "y") ∷ []

abbrev pub maker_rows : List CatRow
maker_rows = row (codes "one") (0 ∷ []) (1 ∷ []) ∷ []

-- It provides 0 for 1.
abbrev pub maker : Design
maker = Cat maker_provides maker_requires maker_rows

-- What the part provides is at least what it requires.
abbrev pub once : NetOf
once = record { provides = []; requires_ = []; parts = part (codes "c") maker ∷ []; constraints = constraint (greater.Inner 0 0) (expr.Inner 0 0) ∷ [] }
