use Rattle.order_core.specs.PermutationLaws.{all_permuted}
use Rattle.value_type.specs.Fits.{row_fits}
use Rattle.value_type.specs.Leq.{row_leq}
use Rattle.value_type.specs.PortKinds.{port_kinds}
use Rattle.catalogue_solve.specs.Enough.{AreSortedMinima}
use Rattle.catalogue_solve.proofs.MinimaOf.{permuted_minima}
use Rattle.catalogue_solve.proofs.minimal.sorted_minima.Goals as goal
use Rattle.order_core.specs.ResultLaws.{if_ok}

pub minima_of-requires-clause-fit : goal.minima_of-requires-clause-fit
minima_of-requires-clause-fit c =
    rw c.in_ok-kinds_of.ensures
    (all_permuted (row_fits c.args.types.now (port_kinds c.args.ports.now)) c.args.rows.items c.sort_rows.new.rows.items c.sort_rows.ensures.permutation c.requires)

pub returns : goal.returns
returns c =
    let leq = row_leq c.args.types.now (port_kinds c.args.ports.now) in
    let sorted = c.sort_rows.new.rows.items in
    if_ok (AreSortedMinima leq sorted) (AreSortedMinima leq c.args.rows.items) c.minima_of.result
    (λ made h. permuted_minima leq c.args.rows.items sorted made c.sort_rows.ensures.permutation h) (rw c.in_ok-kinds_of.ensures at c.minima_of.ensures)
