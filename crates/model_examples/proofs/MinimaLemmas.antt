-- What must be shown of a list for it to be the minima.
use Rattle.std.specs.Prelude.{IsTrue, List}
use Rattle.antichain.specs.Basis.{IsBasis}
use Rattle.antichain.specs.BasisLaws.{minimal_member, member_of_minimal}
use Rattle.design_model.specs.Feasible.{AreMinima, IsFeasible, resources_leq}
use Rattle.design_model.specs.HoldsLaws.{holds_fits}
use Rattle.design_model.specs.Parts.{required_ports}
use Rattle.design_model.specs.Rows.{Row}
use Rattle.design_model.specs.declared.design.Design.{Design}
use Rattle.order_core.specs.MemberLaws.{any_intro}
use Rattle.value_type.specs.Fits.{row_fits}
use Rattle.value_type.specs.KindOrderLaws.{row_laws}
use Rattle.value_type.specs.PortKinds.{port_kinds}
use Rattle.value_type.specs.PrintOrder.{are_rising}
use Rattle.value_type.specs.declared.poset.Types.{Types}

-- Rows are the minima where they are feasible, rise, and are incomparable, and each feasible row is above one of them.
pub are_the_minima : (t : Types) (d : Design) (f : Row) (rows : List Row) → IsTrue (are_rising rows) → IsBasis (resources_leq t d) (IsFeasible t d f) rows → AreMinima t d f rows
are_the_minima t d f rows rising basis =
    let fit = λ (x : Row) (h : IsFeasible t d f x). (holds_fits t d f x h.0 h.1).required in
    let laws = row_laws t (port_kinds (required_ports d)) in
    record {
      exact = λ r. (
        minimal_member (row_fits t (port_kinds (required_ports d))) (resources_leq t d) laws (IsFeasible t d f) rows fit basis r,
        member_of_minimal (row_fits t (port_kinds (required_ports d))) (resources_leq t d) laws (IsFeasible t d f) rows fit basis r,
      );
      rising = rising;
      complete = λ r h. let b = basis.complete r h in any_intro (λ row. resources_leq t d row r) rows b.0 b.1 b.2;
    }
