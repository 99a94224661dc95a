use Rattle.name_index.specs.PlaceLaws.{places_more}
use Rattle.value_type.specs.declared.port.Port.{Port}
use Rattle.side_ports.proofs.ports.port_numbers.Goals as goal

pub loop-at-preserved : goal.loop-at-preserved
loop-at-preserved c =
    λ name. rw (c.in_ok-add.ensures.names, c.as_str.ensures) (places_more (λ (p : Port). p.name) c.args.ports.now c.loop-at.at c.index-ports-at.result c.loop-at-test.true c.index-ports-at.is c.loop-at.names c.loop-at.invariant name)
