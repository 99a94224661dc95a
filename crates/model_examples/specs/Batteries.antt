-- A choice between two batteries. One is light and dear, the other heavy and cheap.
use Rattle.std.proofs.Common.{refl}
use Rattle.std.specs.Prelude.{codes, List, [], ◌∷◌}
use Rattle.design_model.specs.Rows.{Row}
use Rattle.design_model.specs.declared.design.Design.TheVariants.{Choice, Net}
use Rattle.design_model.specs.declared.design.Design.{Design}
use Rattle.design_model.specs.declared.design.Part.{Part}
use Rattle.design_model.specs.declared.expr.Constraint.{Constraint}
use Rattle.design_model.specs.declared.expr.Expr.TheVariants as expr
use Rattle.design_model.specs.declared.expr.Greater.TheVariants as greater
use Rattle.model_examples.specs.Fractions.{one_over, times}
use Rattle.model_examples.specs.Words.{number_port, counts, part, constraint}
use Rattle.unit_core.specs.declared.fraction.Fraction.{Fraction}
use Rattle.value_type.specs.declared.port.Port.{Port}

abbrev pub provides : List Port
provides = number_port (codes "capacity") ∷ []

abbrev pub requires_ : List Port
requires_ = number_port (codes "mass") ∷ number_port (codes "cost") ∷ []

abbrev pub constraints : Fraction → Fraction → List Constraint
constraints mass cost = constraint (greater.Own 0) (expr.Scale mass (expr.Own 0)) ∷ constraint (greater.Own 1) (expr.Scale cost (expr.Own 0)) ∷ []

-- a battery by its mass and its cost for each unit of capacity
abbrev pub battery : Fraction → Fraction → Design
battery mass cost = Net provides requires_ [] (constraints mass cost)

abbrev pub li_mass : Fraction
li_mass = one_over 6 refl refl

abbrev pub li_cost : Fraction
li_cost = times 5 refl

abbrev pub ni_mass : Fraction
ni_mass = one_over 2 refl refl

abbrev pub ni_cost : Fraction
ni_cost = times 1 refl

-- light and dear
abbrev pub li : Design
li = battery li_mass li_cost

-- heavy and cheap
abbrev pub ni : Design
ni = battery ni_mass ni_cost

abbrev pub branches : List Part
branches = part (codes "li") li ∷ part (codes "ni") ni ∷ []

abbrev pub batteries : Design
batteries = Choice provides requires_ branches

-- the functionality: a capacity of 60
abbrev pub wanted : Row
wanted = counts (60 ∷ [])

abbrev pub light : Row
light = counts (10 ∷ 300 ∷ [])

abbrev pub cheap : Row
cheap = counts (30 ∷ 60 ∷ [])

abbrev pub least : List Row
least = light ∷ cheap ∷ []
