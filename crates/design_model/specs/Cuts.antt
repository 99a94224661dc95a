-- The cut signals of a net: what a step carries from one state to the next.
use Rattle.std.specs.Prelude.{ℕ, Bool, false, nat_le, ◌&&◌, List, filter, map}
use Rattle.std.specs.List.{list_any, flat_map, enumerate_from}
use Rattle.value_type.specs.declared.kind.Kind.{Kind}
use Rattle.design_model.specs.declared.expr.Greater.{Greater}
use Rattle.design_model.specs.declared.expr.Greater.TheVariants as greater
use Rattle.design_model.specs.Evaluation.{evaluation_order, place}
use Rattle.design_model.specs.Reading.{reads_port}
use Rattle.design_model.specs.Wiring.{Wiring}

-- A required port of a part, by the part's number and the port's, and its type.
pub record Signal : Type 0 where
  pub part : ℕ
  pub port : ℕ
  pub kind : Kind

-- the required ports of the part of this number
abbrev pub signals_of : ℕ → List Kind → List Signal
signals_of part kinds = map (λ e. record { part = part; port = e.0; kind = e.1 }) (enumerate_from 0 kinds)

-- the required ports of all parts, by part and then by port
abbrev pub all_signals : List (List Kind) → List Signal
all_signals required = flat_map (λ e. signals_of e.0 e.1) (enumerate_from 0 required)

-- What a constraint into a part reads of an owner is cut where the part stands at or before the owner in the order of evaluation.
abbrev pub is_cut_read : Wiring → Greater → ℕ → Bool
is_cut_read net (greater.Own j) owner = false
is_cut_read net (greater.Inner i j) owner = nat_le (place (evaluation_order net) i) (place (evaluation_order net) owner)

-- Some constraint reads the port by a cut read.
abbrev pub is_cut : Wiring → Signal → Bool
is_cut net s = list_any (λ c. is_cut_read net c.greater s.part && reads_port c.lower s.part s.port) net.constraints

-- the required ports with a cut read
abbrev pub cut_signals : Wiring → List Signal
cut_signals net = filter (is_cut net) (all_signals net.required)
