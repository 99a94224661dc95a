use Rattle.unit_core.specs.GcdLaws.{gcd-IsGcd}
use Rattle.unit_core.proofs.laws.gcd_is_greatest.Goals as goal

pub returns : goal.returns
returns c = gcd-IsGcd
