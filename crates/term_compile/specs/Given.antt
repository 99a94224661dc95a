-- What a net is given, by its order of evaluation and the list of its cut signals.
use Rattle.std.specs.Prelude.{◌≡◌, ℕ, ◌+◌, Bool, false, cond, nat_le, ◌&&◌, ◌==◌, List, [], ◌∷◌, ◌++◌, length, Option, Some, None}
use Rattle.compiled_term.specs.CompiledTerm.{given, state_port}
use Rattle.cut_plan.specs.declared.reads.Signal.{Signal}
use Rattle.design_model.specs.Cuts.{Signal as Typed, cut_signals}
use Rattle.design_model.specs.Evaluation.{evaluation_order, numbers_from, place}
use Rattle.design_model.specs.Step.{state_kinds}
use Rattle.design_model.specs.Wiring.{Wiring}
use Rattle.design_model.specs.declared.expr.Constraint.{Constraint}
use Rattle.design_model.specs.declared.expr.Expr.TheVariants as expr
use Rattle.design_model.specs.declared.expr.Greater.TheVariants as greater
use Rattle.design_model.specs.declared.expr.Greater.{Greater}
use Rattle.design_term.specs.declared.term.Primitive.TheVariants as prim
use Rattle.design_term.specs.declared.term.Term.TheVariants as term
use Rattle.design_term.specs.declared.term.Term.{Term}
use Rattle.expr_residual.specs.Moved.{moved}
use Rattle.value_type.specs.declared.kind.Kind.{Kind}
use Rattle.term_compile.specs.Stands.{AreBelow, standing_of}
use Rattle.term_compile.specs.declared.plan.Plan.{Plan}

-- A constraint with this greater side reads the owner by a cut read, in a net of this order.
abbrev pub is_cut_in : List ℕ → Greater → ℕ → Bool
is_cut_in order (greater.Own j) owner = false
is_cut_in order (greater.Inner i j) owner = nat_le (place order i) (place order owner)

-- how many signals stand before the one of this port
abbrev pub place_among : List Signal → ℕ → ℕ → ℕ
place_among [] part port = 0
place_among (s ∷ signals) part port = cond ((s.part == part) && (s.port == port)) 0 (place_among signals part port + 1)

-- the wire of what a constraint reads by a cut read, where so many own provided values stand before the state
abbrev pub cut_wire_in : ℕ → List ℕ → List Signal → Greater → ℕ → ℕ → Option ℕ
cut_wire_in first order signals into part port = cond (is_cut_in order into part) (Some (first + place_among signals part port)) None

abbrev pub over_wires_in : ℕ → List ℕ → List Signal → Constraint → Constraint
over_wires_in first order signals c = record { greater = state_port (length signals) c.greater; lower = moved (λ j. j) (cut_wire_in first order signals c.greater) c.lower }

abbrev pub covers_in : ℕ → List Signal → List Constraint
covers_in at [] = []
covers_in at (s ∷ signals) = record { greater = greater.Own at; lower = expr.Inner s.part s.port } ∷ covers_in (at + 1) signals

abbrev pub given_with : Wiring → List Typed → List Kind
given_with net [] = net.provides
given_with net (s ∷ signals) = net.provides ++ state_kinds net

-- The types of what a net is given: where it has cut signals, a state follows the own provided values.
abbrev pub given_kinds : Wiring → List Kind
given_kinds net = given_with net (cut_signals net)

-- a net of so many cut signals, where this body leads to the next state
abbrev pub looped : ℕ → List Kind → List Kind → Term → Term
looped signals state required body =
    cond (signals == 0) body (term.Series (term.Loop state body) (term.Prim (prim.Keep required (numbers_from signals (length required)))))

-- The plan is that of the net.
pub record IsPlanOf (net : Wiring) (plan : Plan) : Type 0 where
  pub order : plan.order ≡ evaluation_order net
  pub signals : plan.signals ≡ length (cut_signals net)
  pub state : plan.state ≡ state_kinds net
  pub start : plan.start ≡ length (given_kinds net)
  pub given : standing_of plan.given ≡ given net (given_kinds net)
  pub below : AreBelow plan.given.next plan.given.wires.items
