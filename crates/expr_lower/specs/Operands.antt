-- The faults of operators, of operands that have a meaning.
use Rattle.std.specs.Prelude.{ℕ, not, List, [], ◌++◌, Option, Some}
use Rattle.expr_lower.specs.Meanings.{dimension}
use Rattle.expr_lower.specs.declared.meaning.Meaning.{Meaning}
use Rattle.expr_lower.specs.declared.meaning.Meaning.TheVariants as meaning
use Rattle.fault_list.specs.Faults.{fault_if, fault_unless}
use Rattle.fault_list.specs.declared.fault.Fault.{Fault}
use Rattle.fault_list.specs.declared.fault.FaultKind.TheVariants.{Exponent, Mismatch}
use Rattle.tree_units.specs.Constants.{dim_product, product_faults}
use Rattle.unit_core.specs.Dimension.{same_dim}
use Rattle.unit_core.specs.declared.dim.Dim.{Dim}

-- An operand has the wrong type.
abbrev pub mismatch : ℕ → Fault
mismatch at = record { kind = Mismatch; at = at }

-- The operand is no number.
abbrev pub no_number : ℕ → Meaning → List Fault
no_number at a = fault_unless (dimension a) (mismatch at)

-- Both are numbers, of different dimensions.
abbrev pub unlike_dims : ℕ → Option Dim → Option Dim → List Fault
unlike_dims at (Some a) (Some b) = fault_if (not (same_dim a b)) (mismatch at)
unlike_dims at _ _ = []

-- the faults of a sum, a greatest or a least, whose operands stand at these places
abbrev pub joining_faults : ℕ → ℕ → Meaning → Meaning → List Fault
joining_faults left right a b = no_number left a ++ no_number right b ++ unlike_dims right (dimension a) (dimension b)

-- Both are numbers, and an exponent of their product is out of range.
abbrev pub exponent_faults : ℕ → Option Dim → Option Dim → List Fault
exponent_faults at (Some a) (Some b) = fault_unless (dim_product a b) (record { kind = Exponent; at = at })
exponent_faults at _ _ = []

-- Two constants are multiplied exactly, so their fraction has to be in range as well.
abbrev pub size_faults : ℕ → Meaning → Meaning → List Fault
size_faults at (meaning.Constant a) (meaning.Constant b) = product_faults at a b
size_faults at a b = exponent_faults at (dimension a) (dimension b)

-- the faults of a product at its place, whose operands stand at these places
abbrev pub times_faults : ℕ → ℕ → ℕ → Meaning → Meaning → List Fault
times_faults at left right a b = no_number left a ++ no_number right b ++ size_faults at a b
