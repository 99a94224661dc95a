-- The units that have a name.
use Rattle.std.specs.Prelude.{ℕ, ◌*◌, ◌^◌, pos, negsuc, List, [], ◌∷◌, ◌++◌, cond, Option, Some, None, codes}
use Rattle.std.specs.Str.{bytes_eq}
use Rattle.unit_core.specs.declared.dim.Dim.{Dim}
use Rattle.unit_core.specs.Measure.{Measure, one}

pub record Named : Type 0 where
  pub name : List ℕ
  pub measure : Measure

-- the name, and the size num / den of that dimension
abbrev pub named : List ℕ → Dim → ℕ → ℕ → Named
named name dim num den = record { name = name; measure = record { dim = dim; size = record { num = num; den = den } } }

abbrev pub of_mass : Dim
of_mass = record one.dim { mass = pos 1 }

abbrev pub of_length : Dim
of_length = record one.dim { length = pos 1 }

abbrev pub of_time : Dim
of_time = record one.dim { time = pos 1 }

abbrev pub of_current : Dim
of_current = record one.dim { current = pos 1 }

abbrev pub of_money : Dim
of_money = record one.dim { money = pos 1 }

abbrev pub of_bits : Dim
of_bits = record one.dim { bits = pos 1 }

-- time -1
abbrev pub of_frequency : Dim
of_frequency = record one.dim { time = negsuc 0 }

-- mass 1, length 1, time -2
abbrev pub of_force : Dim
of_force = record one.dim { mass = pos 1; length = pos 1; time = negsuc 1 }

-- mass 1, length 2, time -2
abbrev pub of_energy : Dim
of_energy = record one.dim { mass = pos 1; length = pos 2; time = negsuc 1 }

-- mass 1, length 2, time -3
abbrev pub of_power : Dim
of_power = record one.dim { mass = pos 1; length = pos 2; time = negsuc 2 }

-- mass 1, length 2, time -3, current -1
abbrev pub of_voltage : Dim
of_voltage = record one.dim { mass = pos 1; length = pos 2; time = negsuc 2; current = negsuc 0 }

abbrev pub of_charge : Dim
of_charge = record one.dim { current = pos 1; time = pos 1 }

abbrev pub mass_units : List Named
mass_units =
    named (codes "g") of_mass 1 1
    ∷ named (codes "kg") of_mass 1000 1
    ∷ named (codes "mg") of_mass 1 1000
    ∷ named (codes "t") of_mass (10 ^ 6) 1
    ∷ []

abbrev pub length_units : List Named
length_units =
    named (codes "mm") of_length 1 1
    ∷ named (codes "cm") of_length 10 1
    ∷ named (codes "m") of_length 1000 1
    ∷ named (codes "km") of_length (10 ^ 6) 1
    ∷ []

abbrev pub time_units : List Named
time_units =
    named (codes "s") of_time 1 1
    ∷ named (codes "ms") of_time 1 1000
    ∷ named (codes "min") of_time 60 1
    ∷ named (codes "h") of_time 3600 1
    ∷ named (codes "day") of_time 86400 1
    ∷ []

abbrev pub current_units : List Named
current_units =
    named (codes "mA") of_current 1 1
    ∷ named (codes "A") of_current 1000 1
    ∷ []

abbrev pub money_units : List Named
money_units =
    named (codes "cent") of_money 1 1
    ∷ named (codes "USD") of_money 100 1
    ∷ []

abbrev pub data_units : List Named
data_units =
    named (codes "bit") of_bits 1 1
    ∷ named (codes "byte") of_bits 8 1
    ∷ named (codes "kbit") of_bits 1000 1
    ∷ named (codes "Mbit") of_bits (10 ^ 6) 1
    ∷ named (codes "kbyte") of_bits 8000 1
    ∷ named (codes "Mbyte") of_bits (8 * 10 ^ 6) 1
    ∷ []

abbrev pub mechanical_units : List Named
mechanical_units =
    named (codes "Hz") of_frequency 1 1
    ∷ named (codes "N") of_force (10 ^ 6) 1
    ∷ named (codes "J") of_energy (10 ^ 9) 1
    ∷ named (codes "Wh") of_energy (36 * 10 ^ 11) 1
    ∷ named (codes "kWh") of_energy (36 * 10 ^ 14) 1
    ∷ named (codes "mW") of_power (10 ^ 6) 1
    ∷ named (codes "W") of_power (10 ^ 9) 1
    ∷ named (codes "kW") of_power (10 ^ 12) 1
    ∷ []

abbrev pub electric_units : List Named
electric_units =
    named (codes "V") of_voltage (10 ^ 6) 1
    ∷ named (codes "mAh") of_charge 3600 1
    ∷ named (codes "Ah") of_charge 3600000 1
    ∷ []

-- the measure of the first entry of that name
abbrev pub find : List ℕ → List Named → Option Measure
find name [] = None
find name (entry ∷ entries) = cond (bytes_eq name entry.name) (Some entry.measure) (find name entries)

unfoldable pub units : List Named
units = mass_units ++ length_units ++ time_units ++ current_units ++ money_units ++ data_units ++ mechanical_units ++ electric_units

unfoldable pub unit_named : List ℕ → Option Measure
unit_named name = find name units
