use Rattle.std.proofs.Common.{◌≡◌, ◌+◌, drop, map, List}
use Rattle.std.proofs.lemmas.Result.{err_from_is_err_and}
use Rattle.std.specs.List.{flat_map}
use Rattle.fault_list.specs.AnswersLaws.{stopped_left}
use Rattle.fault_list.specs.RestLaws.{made_next, rest_next, rest_none}
use Rattle.side_ports.specs.Held.{sides_held}
use Rattle.side_ports.specs.Sides.{sides_of}
use Rattle.side_ports.specs.declared.ports.SidePorts.{SidePorts}
use Rattle.unit_check.specs.Declaring.{part_ports}
use Rattle.unit_check.specs.Held.{part_held}
use Rattle.unit_check.specs.Scopes.{part_scope}
use Rattle.unit_check.specs.TypeFaults.{part_faults}
use Rattle.unit_check.specs.declared.scope.ScopePart.{ScopePart}
use Rattle.unit_check.proofs.table.PortTable.parts.Goals as goal

pub returns-in_err-ports-clause-answer : goal.returns-in_err-ports-clause-answer
returns-in_err-ports-clause-answer c =
    let files = c.args.names.now.files in
    let types = c.args.names.now.types in
    let params = c.args.params.now.trees.now in
    let parts = c.args.parts.now in
    let i = c.loop-part.part-index in
    let part = c.part-item.result in
    let faults = part_faults files types params in
    let next = rest_next faults parts i part c.loop-part-test.true c.part-item.is (flat_map faults parts) c.loop-part.invariant.1 in
    let p = err_from_is_err_and c.from_residual.result c.from_residual.ensures.1 in
    rw (p.1, p.2) (stopped_left {A = SidePorts} {B = List ScopePart} (faults part) (flat_map faults (drop (i + 1) parts)) (flat_map faults parts) (λ ports. sides_held ports ≡ sides_of types (part_ports files params part))
    (λ made. map part_held made ≡ map (part_scope files types params) parts) c.in_err-ports.field-0.0 next c.in_err-ports.ensures.answer)

pub loop-part-preserved : goal.loop-part-preserved
loop-part-preserved c =
    let files = c.args.names.now.files in
    let types = c.args.names.now.types in
    let params = c.args.params.now.trees.now in
    let parts = c.args.parts.now in
    let i = c.loop-part.part-index in
    let part = c.part-item.result in
    let faults = part_faults files types params in
    let made : ScopePart = record { name = c.in_ok-name.name; ports = c.in_ok-ports.ports } in (
      c.part_ports.ensures.table,
      rest_none faults parts i part c.loop-part-test.true c.part-item.is (flat_map faults parts) c.loop-part.invariant.1 c.in_ok-ports.ensures.answer.0,
      made_next (part_scope files types params) part_held parts i part c.loop-part-test.true c.part-item.is c.loop-part.made.items c.loop-part.invariant.2 made c.push.new.self.items c.in_ok-push.ensures.items
          (λ j. record { name = c.in_ok-name.ensures j; ports = c.in_ok-ports.ensures.answer.1 j }),
    )
