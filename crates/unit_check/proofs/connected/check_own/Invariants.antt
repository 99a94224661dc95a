use Rattle.std.proofs.Common.{◌≡◌, ◌&&◌, not, drop}
use Rattle.std.specs.List.{flat_map}
use Rattle.std.specs.Prelude.{is_some}
use Rattle.design_lexer.specs.Sides.{same_side}
use Rattle.design_lexer.specs.declared.tree.Side.TheVariants.{Requires}
use Rattle.fault_list.specs.Faults.{fault_if}
use Rattle.name_index.specs.Names.{number_of}
use Rattle.unit_check.specs.Connection.{unconnected}
use Rattle.unit_check.proofs.connected.check_own.Given as goal

-- What is left decides.
abbrev pub invariant-loop-port : goal.invariant-loop-port
invariant-loop-port l =
    flat_map (λ p. fault_if (same_side Requires p.side && not (is_some (number_of l.own p.name.name))) (unconnected p.name)) l.ports
    ≡ flat_map (λ p. fault_if (same_side Requires p.side && not (is_some (number_of l.own p.name.name))) (unconnected p.name)) (drop l.port-index l.ports)
