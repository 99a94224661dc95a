-- The states of a net, and the steps between them.
use Rattle.std.specs.Prelude.{ℕ, Bool, cond, ◌&&◌, ◌==◌, IsTrue, IsSomeAnd, List, [], ◌∷◌, ◌++◌, length, map, take, drop, slice_get, Option, Some, None}
use Rattle.design_model.specs.Cuts.{Signal, cut_signals, is_cut_read}
use Rattle.design_model.specs.Rows.{Row}
use Rattle.design_model.specs.ValueOf.{Reads, port_at}
use Rattle.design_model.specs.Wiring.{Wiring, Carried, required_rows}
use Rattle.design_model.specs.declared.expr.Greater.{Greater}
use Rattle.value_type.specs.Fits.{row_fits}
use Rattle.value_type.specs.Leq.{leq, row_leq}
use Rattle.value_type.specs.declared.kind.Kind.{Kind}
use Rattle.value_type.specs.declared.poset.Types.{Types}
use Rattle.value_type.specs.declared.value.Value.{Value}

abbrev pub signal_kinds : Wiring → List Kind
signal_kinds net = map (λ s. s.kind) (cut_signals net)

-- A state has one value for each cut signal, followed by one for each own required port.
abbrev pub state_kinds : Wiring → List Kind
state_kinds net = signal_kinds net ++ net.requires_

abbrev pub is_state : Types → Wiring → Row → Bool
is_state t net = row_fits t (state_kinds net)

abbrev pub state_leq : Types → Wiring → Row → Row → Bool
state_leq t net = row_leq t (state_kinds net)

abbrev pub cut_values : Wiring → Row → Row
cut_values net state = take (length (cut_signals net)) state

abbrev pub own_values : Wiring → Row → Row
own_values net state = drop (length (cut_signals net)) state

-- the value of a signal, by its part and port, among the values of signals
abbrev pub signal_value : List Signal → Row → ℕ → ℕ → Option Value
signal_value [] values part port = None
signal_value (s ∷ signals) [] part port = None
signal_value (s ∷ signals) (v ∷ values) part port = cond ((s.part == part) && (s.port == port)) (Some v) (signal_value signals values part port)

-- What a constraint with this greater side reads in a step: by a cut read, what the state before gives the signal; by any other read, what the part carries. Own provided ports carry f.
abbrev pub step_reads : Wiring → Row → Row → List Carried → Greater → Reads
step_reads net f before carried into = record {
  own = slice_get f;
  inner = λ part port. cond (is_cut_read net into part) (signal_value (cut_signals net) (cut_values net before) part port) (port_at (required_rows carried) part port);
}

-- What the part carries at the signal's port is there, and is at most this value.
abbrev pub IsCovered : Types → List Carried → Signal → Value → Type 0
IsCovered t carried s v = IsSomeAnd (port_at (required_rows carried) s.part s.port) (λ x. IsTrue (leq t s.kind x v))
