-- Units, as their factors write them.
use Rattle.std.specs.Prelude.{ℕ, ℤ, pos, ◌-ℤ◌, nat_eq, nat_lt, Bool, cond, List, [], ◌∷◌, Option, Some, None, Result, Ok, Err}
use Rattle.design_lexer.specs.declared.tree.FactorTree.{FactorTree}
use Rattle.fault_list.specs.Faults.{faults_in}
use Rattle.fault_list.specs.declared.fault.Fault.{Fault}
use Rattle.fault_list.specs.declared.fault.FaultKind.TheVariants.{Unknown, Exponent, ConstantRange}
use Rattle.unit_core.specs.Measure.{Measure, one, over_measure, power_measure, times_measure}
use Rattle.unit_core.specs.Results.{and_then}
use Rattle.unit_core.specs.UnitTable.{unit_named}
use Rattle.unit_core.specs.declared.fault.UnitFault.{UnitFault}
use Rattle.unit_core.specs.declared.fault.UnitFault.TheVariants as unit

-- the fault of a step, at a place
abbrev pub unit_fault : ℕ → UnitFault → Fault
unit_fault at unit.Exponent = record { kind = Exponent; at = at }
unit_fault at unit.Range = record { kind = ConstantRange; at = at }

-- the measure, or the fault of its step with a place
abbrev pub placed : ℕ → Result Measure UnitFault → Result Measure Fault
placed at (Ok u) = Ok u
placed at (Err fault) = Err (unit_fault at fault)

-- the power, or its negative
abbrev pub signed : Bool → ℤ → ℤ
signed negative power = cond negative (pos 0 -ℤ power) power

-- The unit raised to the power that is written, if one is. A written power above 9 is a fault by itself, whatever its sign.
abbrev pub raised : ℕ → Measure → Bool → Option ℕ → Result Measure Fault
raised at u negative None = Ok u
raised at u negative (Some n) = cond (nat_lt 9 n) (Err (record { kind = Exponent; at = at })) (placed at (power_measure u (signed negative (pos n))))

-- the measure of a name, or that no unit has it, at the name's place
abbrev pub named_measure : ℕ → Option Measure → Result Measure Fault
named_measure at (Some u) = Ok u
named_measure at None = Err (record { kind = Unknown; at = at })

-- the named unit, raised to its power
abbrev pub factor_measure : ℕ → FactorTree → Result Measure Fault
factor_measure at f = and_then (λ u. raised at u f.negative f.power) (named_measure f.name.at (unit_named f.name.name))

-- the measure divided by that of the factor where `/` stands before it, and otherwise multiplied by it
abbrev pub multiplied : ℕ → Measure → FactorTree → Result Measure Fault
multiplied at u f = and_then (λ v. placed at (cond f.divided (over_measure u v) (times_measure u v))) (factor_measure at f)

-- what stands so far, with one factor after the other
abbrev pub product_from : ℕ → Measure → List FactorTree → Result Measure Fault
product_from at u [] = Ok u
product_from at u (f ∷ fs) = and_then (λ v. product_from at v fs) (multiplied at u f)

-- The measure of the unit, worked out from the left, from 1. The first step that breaks a rule names the fault. It
-- stands at the place given, and an unknown name at its own.
abbrev pub measure_of : ℕ → List FactorTree → Result Measure Fault
measure_of at factors = product_from at one factors

-- the fault of a unit
abbrev pub unit_faults : ℕ → List FactorTree → List Fault
unit_faults at factors = faults_in (measure_of at factors)

-- The size is a whole count of the grid's unit.
abbrev pub is_whole : Measure → Bool
is_whole u = nat_eq u.size.den 1
