use Rattle.std.proofs.Common.{◌≡◌, ◌<◌, ◌^◌, drop}
use Rattle.cut_plan.specs.Totals.{clipped, sum_from, port_heights}
use Rattle.design_model.specs.Heights.{sum_all}
use Rattle.design_model.specs.Parts.{required_ports}
use Rattle.cut_plan.proofs.rounds.heights_of_ports.Given as goal

-- The sum so far, with the heights of the ports left, is the sum of all.
abbrev pub invariant-loop-port : goal.invariant-loop-port
invariant-loop-port l = record {
  small : l.total < 2 ^ 64;
  sums : clipped (sum_all (port_heights l.types l.design l.listed l.number 0 (required_ports l.design)))
      ≡ sum_from l.total (port_heights l.types l.design l.listed l.number l.port (drop l.port (required_ports l.design)));
}
