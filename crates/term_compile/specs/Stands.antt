-- What the code keeps between two parts of a net, in the words of the definition.
use Rattle.std.specs.Prelude.{ℕ, ◌<◌, List, []}
use Rattle.order_core.specs.Pointwise.{Each}
use Rattle.compiled_term.specs.Stages.{Compiled, Standing}
use Rattle.compiled_term.specs.declared.wire.Wire.{Wire}
use Rattle.design_model.specs.Parts.{provided_ports, required_ports}
use Rattle.design_model.specs.declared.design.Design.{Design}
use Rattle.design_term.specs.declared.term.Term.TheVariants as term
use Rattle.design_term.specs.declared.term.Term.{Term}
use Rattle.value_type.specs.PortKinds.{port_kinds}
use Rattle.value_type.specs.declared.kind.Kind.{Kind}
use Rattle.term_compile.specs.declared.standing.Standing.{Standing as Kept}

abbrev pub standing_of : Kept → Standing
standing_of kept = record { wires = kept.wires.items; next = kept.next; waiting = kept.waiting.items }

-- The wires have numbers below this one.
abbrev pub AreBelow : ℕ → List Wire → Type 0
AreBelow next wires = Each (λ w. w.number < next) wires

-- the design, compiled to this term
abbrev pub compiled_to : Design → Term → Compiled
compiled_to design made = record { provided = port_kinds (provided_ports design); required = port_kinds (required_ports design); term = made }

-- a part of which only the required types matter
abbrev pub requiring : List Kind → Compiled
requiring kinds = record { provided = []; required = kinds; term = term.Alt [] }
