-- The depths and sizes of what modules denote, as far as the limits tell them apart.
use Rattle.std.specs.Prelude.{◌≡◌, ◌-◌, ℕ, List, Option, Some, None, min, slice_get}
use Rattle.design_measure.specs.Measures.{depth_of, size_of}
use Rattle.design_measure.specs.declared.form.Form.{Form}
use Rattle.design_measure.specs.declared.measures.Measured.{Measured}
use Rattle.design_model.specs.declared.design.Design.{Design}
use Rattle.reference_meaning.specs.Modules.{ModuleMakes, Modules}
use Rattle.reference_meaning.specs.declared.module.Module.{Module}

-- Each design that a module denotes is as deep and as large as it says, but that a depth past 64 is 65, and a size past 10,000 is 10,001.
abbrev pub AreMeasured : Modules → List Measured → Type 0
AreMeasured modules made = (i : ℕ) (named : Module) (X : Design) → slice_get modules i ≡ Some (Some named) → ModuleMakes modules named X
    → (d : Measured) × (slice_get made i ≡ Some d) × (d.depth ≡ min (depth_of X) 65) × (d.size ≡ min (size_of X) 10001)

abbrev pub constant_in : Option Form → ℕ
constant_in (Some form) = form.constant
constant_in None = 0

-- what the forms at a place say of a module without parameters
abbrev pub told : List Form → List Form → ℕ → Measured
told depths sizes i = record { depth = min (constant_in (slice_get depths i)) 66 - 1; size = min (constant_in (slice_get sizes i)) 10001 }
