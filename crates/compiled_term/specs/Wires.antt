-- Wires: what is carried from one part of a net to the next.
use Rattle.std.specs.Prelude.{ℕ, ◌+◌, List, [], ◌∷◌, map}
use Rattle.design_model.specs.Evaluation.{place}
use Rattle.design_model.specs.declared.expr.Expr.{Expr}
use Rattle.expr_residual.specs.Moved.{moved, no_wire}
use Rattle.value_type.specs.declared.kind.Kind.{Kind}
use Rattle.compiled_term.specs.declared.wire.Wire.{Wire}

abbrev pub wire_kinds : List Wire → List Kind
wire_kinds wires = map (λ w. w.kind) wires

-- wires of these types, numbered from this one on
abbrev pub wires_from : ℕ → List Kind → List Wire
wires_from number [] = []
wires_from number (kind ∷ kinds) = record { number = number; kind = kind } ∷ wires_from (number + 1) kinds

-- the place of the wire of this number
abbrev pub place_of : List Wire → ℕ → ℕ
place_of wires number = place (map (λ w. w.number) wires) number

-- the expression over the places of the wires
abbrev pub placed : List Wire → Expr → Expr
placed wires e = moved (place_of wires) no_wire e
