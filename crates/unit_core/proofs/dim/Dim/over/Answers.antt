use Rattle.std.proofs.Common.{rules}
use Rattle.std.proofs.lemmas.Int.{to_z-of_z}
use Rattle.unit_core.specs.Dimension.{dim_over}
use Rattle.unit_core.proofs.Exponents.{all_kept}
use Rattle.unit_core.proofs.dim.Dim.over.Goals as goal

pub returns : goal.returns
returns c =
    all_kept (dim_over c.args.self c.args.other)
    c.in_ok-difference.field-0 c.in_ok-difference-2.field-0 c.in_ok-difference-3.field-0 c.in_ok-difference-4.field-0 c.in_ok-difference-5.field-0 c.in_ok-difference-6.field-0
    (search (rules, to_z-of_z)) (search (rules, to_z-of_z)) (search (rules, to_z-of_z))
    (search (rules, to_z-of_z)) (search (rules, to_z-of_z)) (search (rules, to_z-of_z))
