-- Constants: what they mean, and their faults.
use Rattle.std.specs.Prelude.{◌≡◌, ℕ, ◌*◌, ◌^◌, cond, List, [], ◌∷◌, ◌++◌, Option, Some, None, Result, Ok, Err, option_map, option_and_then}
use Rattle.design_lexer.specs.declared.tree.ConstantTree.{ConstantTree}
use Rattle.design_lexer.specs.declared.tree.Number.{Number}
use Rattle.fault_list.specs.Faults.{fault_unless}
use Rattle.fault_list.specs.declared.fault.Fault.{Fault}
use Rattle.fault_list.specs.declared.fault.FaultKind.TheVariants.{ZeroDivisor, ConstantRange, Exponent}
use Rattle.tree_units.specs.Units.{measure_of, unit_faults}
use Rattle.tree_units.specs.declared.constant.Constant.{Constant}
use Rattle.unit_core.specs.Dimension.{are_exponents, dim_times}
use Rattle.unit_core.specs.Fractions.{fraction_of}
use Rattle.unit_core.specs.Measure.{Measure}
use Rattle.unit_core.specs.Ratio.{Ratio, quotient, ratio, times_ratio}
use Rattle.unit_core.specs.declared.dim.Dim.{Dim}
use Rattle.unit_core.specs.declared.fault.FractionFault.{FractionFault}
use Rattle.unit_core.specs.declared.fault.FractionFault.TheVariants.{Range, Zero}

-- A number is its digits over ten to its decimals, so in a quotient the decimals of each count for the other.
abbrev pub decimal_quotient : Number → Number → Result Ratio FractionFault
decimal_quotient over under = quotient (over.digits * 10 ^ under.decimals) (under.digits * 10 ^ over.decimals)

-- the number below the line, which is 1 where none is written
abbrev pub divisor_of : Option Number → Number
divisor_of (Some under) = under
divisor_of None = record { digits = 1; decimals = 0 }

-- the quotient of the two numbers
abbrev pub quotient_of : ConstantTree → Result Ratio FractionFault
quotient_of c = decimal_quotient c.over (divisor_of c.under)

-- the fault of a fraction, at a place
abbrev pub fraction_fault : ℕ → FractionFault → Fault
fraction_fault at Zero = record { kind = ZeroDivisor; at = at }
fraction_fault at Range = record { kind = ConstantRange; at = at }

-- The divisor is zero, or the fraction is out of range.
abbrev pub fraction_faults : ℕ → Result Ratio FractionFault → List Fault
fraction_faults at (Ok q) = []
fraction_faults at (Err fault) = fraction_fault at fault ∷ []

-- The quotient and the unit are in range, and their product isn't.
abbrev pub size_faults : ℕ → Result Ratio FractionFault → Result Measure Fault → List Fault
size_faults at (Ok q) (Ok u) = fraction_faults at (times_ratio q u.size)
size_faults at _ _ = []

-- the faults of the quotient, then those of the unit, then that of their product
abbrev pub constant_faults : ConstantTree → List Fault
constant_faults c = fraction_faults c.at (quotient_of c) ++ unit_faults c.at c.unit ++ size_faults c.at (quotient_of c) (measure_of c.at c.unit)

-- so much of the dimension
abbrev pub of_dimension : Dim → Result Ratio FractionFault → Option Constant
of_dimension dim (Ok q) = option_map (λ f. record { dim = dim; fraction = f }) (fraction_of q)
of_dimension dim (Err fault) = None

-- so many of the unit
abbrev pub constant_in : Result Ratio FractionFault → Result Measure Fault → Option Constant
constant_in (Ok q) (Ok u) = of_dimension u.dim (times_ratio q u.size)
constant_in _ _ = None

-- the constant that the tree writes, if it has no fault
abbrev pub constant_of : ConstantTree → Option Constant
constant_of c = constant_in (quotient_of c) (measure_of c.at c.unit)

-- the dimension of a product, if its exponents are in range
abbrev pub dim_product : Dim → Dim → Option Dim
dim_product a b = cond (are_exponents (dim_times a b)) (Some (dim_times a b)) None

-- the product of the fractions of two constants
abbrev pub fraction_product : Constant → Constant → Result Ratio FractionFault
fraction_product a b = times_ratio (ratio a.fraction) (ratio b.fraction)

-- The exponents are tested before the fraction.
abbrev pub product_faults : ℕ → Constant → Constant → List Fault
product_faults at a b = fault_unless (dim_product a.dim b.dim) (record { kind = Exponent; at = at }) ++ fraction_faults at (fraction_product a b)

-- the product of two constants, if it has no fault
abbrev pub product_of : Constant → Constant → Option Constant
product_of a b = option_and_then (λ dim. of_dimension dim (fraction_product a b)) (dim_product a.dim b.dim)

-- The constant has the dimension of its unit, and is the first number over the second, times the unit's size.
pub record IsConstant (c : ConstantTree) (k : Constant) : Type 0 where
  pub unit : Measure
  pub unit_is : measure_of c.at c.unit ≡ Ok unit
  pub dim : k.dim ≡ unit.dim
  pub exact : k.fraction.num * ((divisor_of c.under).digits * 10 ^ c.over.decimals * unit.size.den) ≡ c.over.digits * 10 ^ (divisor_of c.under).decimals * unit.size.num * k.fraction.den

-- The exponents add up, and the fractions multiply.
pub record IsProduct (a b k : Constant) : Type 0 where
  pub dim : k.dim ≡ dim_times a.dim b.dim
  pub exact : k.fraction.num * (a.fraction.den * b.fraction.den) ≡ a.fraction.num * b.fraction.num * k.fraction.den
