use Rattle.std.proofs.Common.{◌≡◌, subst, List}
use Rattle.value_type.specs.declared.value.Value.{Value}
use Rattle.value_type.specs.Leq.{row_leq}
use Rattle.value_type.specs.PortKinds.{port_kinds}
use Rattle.design_model.specs.Feasible.{AreMinima}
use Rattle.design_model.specs.Parts.{provided_ports, required_ports, rows_of}
use Rattle.catalogue_solve.specs.Enough.{required_by, AreSortedMinima}
use Rattle.catalogue_solve.proofs.MinimaLaws.{are_minima, found_fits}
use Rattle.order_core.specs.ResultLaws.{if_ok}
use Rattle.catalogue_solve.proofs.minimal.minimal_rows.Goals as goal

pub sorted_minima-requires : goal.sorted_minima-requires
sorted_minima-requires c =
    let d = c.args.design.now in
    rw (c.required_ports.ensures, c.in_ok-found.ensures, c.provided_ports.ensures, c.rows.ensures)
    (found_fits c.args.types.now (provided_ports d) (required_ports d) c.args.f.now (rows_of d) c.requires.rows_fit)

pub returns : goal.returns
returns c =
    let t = c.args.types.now in
    let d = c.args.design.now in
    let found : c.in_ok-found.found.items ≡ required_by t (provided_ports d) c.args.f.now (rows_of d) = rw (c.provided_ports.ensures, c.rows.ensures) at c.in_ok-found.ensures in
    if_ok (AreSortedMinima (row_leq t (port_kinds (required_ports d))) c.in_ok-found.found.items) (AreMinima t d c.args.f.now) c.sorted_minima.result
    (λ made h. are_minima t d c.args.f.now c.requires.catalogue c.requires.rows_fit c.requires.f_fits made
    (subst (λ (rows : List (List Value)). AreSortedMinima (row_leq t (port_kinds (required_ports d))) rows made) found h))
    (rw c.required_ports.ensures at c.sorted_minima.ensures)
