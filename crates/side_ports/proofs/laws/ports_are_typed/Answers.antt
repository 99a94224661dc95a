use Rattle.std.specs.Prelude.{is_some, slice_get}
use Rattle.design_lexer.specs.Sides.{same_side}
use Rattle.side_ports.proofs.MadeLemmas.{all_made}
use Rattle.side_ports.specs.SideLaws.{sides_typed}
use Rattle.tree_units.specs.Ports.{port_faults, port_of}
use Rattle.tree_units.specs.Posets.{poset_place}
use Rattle.side_ports.proofs.laws.ports_are_typed.Goals as goal

pub returns-clause-typed : goal.returns-clause-typed
returns-clause-typed c = λ types. sides_typed types (c.ports_are_whole.ensures.whole (poset_place types)) (c.ports_are_whole.ensures.posets (poset_place types) (λ k. is_some (slice_get types.posets k)))

pub returns-clause-written : goal.returns-clause-written
returns-clause-written c = λ types side trees none.
    all_made (port_faults (poset_place types)) (port_of (poset_place types)) (c.ports_have_meanings_or_faults.ensures.meaning (poset_place types)) (λ tree. same_side side tree.side) trees none
