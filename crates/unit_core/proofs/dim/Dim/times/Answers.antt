use Rattle.std.proofs.Common.{rules}
use Rattle.std.proofs.lemmas.Int.{to_z-of_z}
use Rattle.unit_core.specs.Dimension.{dim_times}
use Rattle.unit_core.proofs.Exponents.{all_kept}
use Rattle.unit_core.proofs.dim.Dim.times.Goals as goal

pub returns : goal.returns
returns c =
    all_kept (dim_times c.args.self c.args.other)
    c.in_ok-sum.field-0 c.in_ok-sum-2.field-0 c.in_ok-sum-3.field-0 c.in_ok-sum-4.field-0 c.in_ok-sum-5.field-0 c.in_ok-sum-6.field-0
    (search (rules, to_z-of_z)) (search (rules, to_z-of_z)) (search (rules, to_z-of_z))
    (search (rules, to_z-of_z)) (search (rules, to_z-of_z)) (search (rules, to_z-of_z))
