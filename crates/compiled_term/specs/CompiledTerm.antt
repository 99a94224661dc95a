-- The term of a design.
use Rattle.std.specs.Prelude.{ℕ, suc, ◌+◌, ◌&&◌, ◌==◌, cond, List, [], ◌∷◌, ◌++◌, length, map, Option, Some, None}
use Rattle.design_model.specs.Cuts.{Signal, cut_signals, is_cut_read}
use Rattle.design_model.specs.Evaluation.{evaluation_order, numbers_from}
use Rattle.design_model.specs.Step.{state_kinds}
use Rattle.design_model.specs.Wiring.{Wiring}
use Rattle.design_model.specs.declared.design.Design.TheOpen.{Design-F}
use Rattle.design_model.specs.declared.design.Design.{Design, fold-Design}
use Rattle.design_model.specs.declared.expr.Constraint.{Constraint}
use Rattle.design_model.specs.declared.expr.Expr.TheVariants as expr
use Rattle.design_model.specs.declared.expr.Greater.TheVariants as greater
use Rattle.design_model.specs.declared.expr.Greater.{Greater}
use Rattle.design_term.specs.declared.term.Primitive.TheVariants as prim
use Rattle.design_term.specs.declared.term.Term.TheVariants as term
use Rattle.design_term.specs.declared.term.Term.{Term}
use Rattle.expr_residual.specs.Moved.{moved}
use Rattle.value_type.specs.PortKinds.{port_kinds}
use Rattle.value_type.specs.declared.kind.Kind.{Kind}
use Rattle.value_type.specs.declared.port.Port.{Port}
use Rattle.compiled_term.specs.Joined.{joined}
use Rattle.compiled_term.specs.Stages.{Compiled, Standing, stages}
use Rattle.compiled_term.specs.Wires.{wires_from}

-- how many signals stand before the one of this port
abbrev pub signal_place : List Signal → ℕ → ℕ → ℕ
signal_place [] part port = 0
signal_place (s ∷ signals) part port = cond ((s.part == part) && (s.port == port)) 0 (signal_place signals part port + 1)

-- the wire of what a constraint reads by a cut read: a value of the state before, which stands after the own provided values
abbrev pub cut_wire : Wiring → Greater → ℕ → ℕ → Option ℕ
cut_wire net into part port = cond (is_cut_read net into part) (Some (length net.provides + signal_place (cut_signals net) part port)) None

-- An own required port stands in the state after the cut signals.
abbrev pub state_port : ℕ → Greater → Greater
state_port signals (greater.Own j) = greater.Own (signals + j)
state_port signals (greater.Inner i j) = greater.Inner i j

abbrev pub over_wires : Wiring → Constraint → Constraint
over_wires net c = record { greater = state_port (length (cut_signals net)) c.greater; lower = moved (λ j. j) (cut_wire net c.greater) c.lower }

-- The next state has at each signal's place at least what the part carries.
abbrev pub covers : ℕ → List Signal → List Constraint
covers at [] = []
covers at (s ∷ signals) = record { greater = greater.Own at; lower = expr.Inner s.part s.port } ∷ covers (at + 1) signals

-- what stands before the first part, over wires of what the net is given
abbrev pub given : Wiring → List Kind → Standing
given net kinds = record { wires = wires_from 0 kinds; next = length kinds; waiting = covers 0 (cut_signals net) ++ map (over_wires net) net.constraints }

-- from what the net is given to the next state
abbrev pub in_turn : Wiring → List Kind → List Compiled → Term
in_turn net kinds parts = joined (stages (length kinds) (state_kinds net) parts (given net kinds) (evaluation_order net))

-- A net without cut signals is worked out once. Another one is a loop over its states, of which the own required values are kept.
abbrev pub net_with : Wiring → List Compiled → List Signal → Term
net_with net parts [] = in_turn net net.provides parts
net_with net parts (s ∷ signals) = term.Series (term.Loop (state_kinds net) (in_turn net (net.provides ++ state_kinds net) parts))
    (term.Prim (prim.Keep net.requires_ (numbers_from (suc (length signals)) (length net.requires_))))

abbrev pub net_term : Wiring → List Compiled → Term
net_term net parts = net_with net parts (cut_signals net)

-- the wiring of a net whose parts are compiled to these
abbrev pub wired_parts : List Port → List Port → List Compiled → List Constraint → Wiring
wired_parts provides requires_ parts constraints = record {
  provides = port_kinds provides;
  requires_ = port_kinds requires_;
  provided = map (λ part. part.provided) parts;
  required = map (λ part. part.required) parts;
  constraints = constraints;
}

-- one level of a design, with its branches or parts compiled
abbrev pub term_at : Design-F Compiled Compiled → Term
term_at (Design-F.Cat provides requires_ rows) = term.Prim (prim.Rows (port_kinds provides) (port_kinds requires_) rows)
term_at (Design-F.Choice provides requires_ branches) = term.Alt (map (λ branch. branch.term) branches)
term_at (Design-F.Net provides requires_ parts constraints) = net_term (wired_parts provides requires_ parts constraints) parts

abbrev pub ports_of : Design-F Compiled Compiled → List Port × List Port
ports_of (Design-F.Cat provides requires_ rows) = (provides, requires_)
ports_of (Design-F.Choice provides requires_ branches) = (provides, requires_)
ports_of (Design-F.Net provides requires_ parts constraints) = (provides, requires_)

abbrev pub compiled_step : Design-F Compiled Compiled → Compiled
compiled_step x = record { provided = port_kinds (ports_of x).0; required = port_kinds (ports_of x).1; term = term_at x }

abbrev pub known : Design → Compiled
known = fold-Design Compiled Compiled compiled_step (λ p. p.design)

-- The term of the design. That of a catalogue gives its rows, that of a choice is any of its branches' terms, and that of a net works out its parts in the order of evaluation.
abbrev pub compiled : Design → Term
compiled design = (known design).term
