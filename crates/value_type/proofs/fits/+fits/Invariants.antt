use Rattle.std.proofs.Common.{◌≡◌, drop}
use Rattle.value_type.specs.Fits as spec
use Rattle.value_type.proofs.fits.+fits.Given as goal

-- What is left decides.
abbrev pub invariant-fits_all-loop-at : goal.invariant-fits_all-loop-at
invariant-fits_all-loop-at l = spec.row_fits l.types l.kinds l.values ≡ spec.row_fits l.types (drop l.at l.kinds) (drop l.at l.values)
