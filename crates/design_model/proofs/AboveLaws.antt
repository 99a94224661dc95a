-- The test whether a value is at least another one, and the relation.
use Rattle.std.proofs.Common.{refl, ap, zero, suc}
use Rattle.std.specs.Prelude.{◌≡◌, ℕ, IsTrue, List, [], ◌∷◌, Option, Some, None, map, slice_get, option_and_then}
use Rattle.design_model.specs.Above.{is_at_least}
use Rattle.design_model.specs.Holds.{carried_by}
use Rattle.design_model.specs.ValueOf.{port_at}
use Rattle.design_model.specs.Wiring.{IsAtLeast, provided_rows, required_rows}
use Rattle.design_model.specs.declared.witness.PartWitness.{PartWitness}
use Rattle.value_type.specs.declared.kind.Kind.{Kind}
use Rattle.value_type.specs.declared.poset.Types.{Types}
use Rattle.value_type.specs.declared.value.Value.{Value}

pub tested : (t : Types) (port : Option Kind) (upper lower : Option Value) → IsTrue (is_at_least t port upper lower) → IsAtLeast t port upper lower
tested t (Some kind) (Some x) (Some v) h = record { kind = kind; above = x; below = v; port_is = refl; upper_is = refl; lower_is = refl; at_least = h }
tested t (Some kind) (Some x) None h = absurd (cc)
tested t (Some kind) None lower h = absurd (cc)
tested t None upper lower h = absurd (cc)

pub passes : (t : Types) (port : Option Kind) (upper lower : Option Value) → IsAtLeast t port upper lower → IsTrue (is_at_least t port upper lower)
passes t port upper lower h = rw (h.port_is, h.upper_is, h.lower_is) h.at_least

-- What witnesses say that the parts carry.
pub witnessed_provided : (ws : List PartWitness) (i j : ℕ) → port_at (provided_rows (map carried_by ws)) i j ≡ option_and_then (λ w. slice_get w.provided j) (slice_get ws i)
witnessed_provided [] i j = refl
witnessed_provided (w ∷ ws) zero j = refl
witnessed_provided (w ∷ ws) (suc i) j = witnessed_provided ws i j

pub witnessed_required : (ws : List PartWitness) → required_rows (map carried_by ws) ≡ map (λ w. w.required) ws
witnessed_required [] = refl
witnessed_required (w ∷ ws) = ap (λ rows. w.required ∷ rows) (witnessed_required ws)
