-- The stages of a net: its parts are worked out one after the other, over wires. Between two parts stand the own provided values and those of the state before, and of the rest only what is still to be read: the largest operations whose operands are known, and the known operands of a long sum as one number.
use Rattle.std.specs.List.{list_any, flat_map}
use Rattle.std.specs.Prelude.{ℕ, ◌+◌, Bool, cond, not, nat_le, ◌||◌, ◌==◌, List, [], ◌∷◌, ◌++◌, length, map, filter, get_or}
use Rattle.design_model.specs.Evaluation.{is_into, numbers_from}
use Rattle.design_model.specs.Reading.{reads_part}
use Rattle.design_model.specs.declared.expr.Constraint.{Constraint}
use Rattle.design_model.specs.declared.expr.Expr.TheVariants as expr
use Rattle.design_model.specs.declared.expr.Expr.{Expr}
use Rattle.design_model.specs.declared.expr.Greater.TheVariants as greater
use Rattle.design_model.specs.declared.expr.Greater.{Greater}
use Rattle.design_term.specs.declared.term.Primitive.TheVariants as prim
use Rattle.design_term.specs.declared.term.Target.{Target}
use Rattle.design_term.specs.declared.term.Term.TheVariants as term
use Rattle.design_term.specs.declared.term.Term.{Term}
use Rattle.expr_residual.specs.Moved.{reads_wire}
use Rattle.expr_residual.specs.Plain.{plain}
use Rattle.expr_residual.specs.Residual.{Left, residual}
use Rattle.expr_residual.specs.declared.frame.Frame.{Frame}
use Rattle.value_type.specs.declared.kind.Kind.{Kind}
use Rattle.compiled_term.specs.Wires.{wire_kinds, wires_from, placed}
use Rattle.compiled_term.specs.declared.wire.Wire.{Wire}
use Rattle.compiled_term.specs.declared.wire.WireValue.{WireValue}

-- The term of a design, and the types of its inputs and outputs.
pub record Compiled : Type 0 where
  pub provided : List Kind
  pub required : List Kind
  pub term : Term

abbrev pub nothing : Compiled
nothing = record { provided = []; required = []; term = term.Alt [] }

-- What stands before a part is worked out: the wires, the number of the next new wire, and the constraints on parts that are left and on the next state. They read wires as own ports, and parts that are left.
pub record Standing : Type 0 where
  pub wires : List Wire
  pub next : ℕ
  pub waiting : List Constraint

-- constraints that wait, and the expressions of new wires
pub record ReadOn : Type 0 where
  pub waiting : List Constraint
  pub made : List Expr

-- all values of a row of these types
abbrev pub keep_all : List Kind → Term
keep_all kinds = term.Prim (prim.Keep kinds (numbers_from 0 (length kinds)))

-- what a constraint asks of the part's provided ports
abbrev pub asked_of : ℕ → List Wire → Greater → Expr → List Target
asked_of part wires (greater.Own j) lower = []
asked_of part wires (greater.Inner i j) lower = cond (i == part) (record { place = j; lower = placed wires lower } ∷ []) []

-- what it asks of the next state
abbrev pub asked_of_state : List Wire → Greater → Expr → List Target
asked_of_state wires (greater.Own j) lower = record { place = j; lower = placed wires lower } ∷ []
asked_of_state wires (greater.Inner i j) lower = []

-- What a constraint reads of the frame's part becomes known.
abbrev pub read_on : Frame → Constraint → List Expr → Left
read_on frame c made = cond (reads_part c.lower frame.part) (residual frame c.lower made) (record { expr = c.lower; made = made })

abbrev pub one_more : Greater → Expr → ReadOn → ReadOn
one_more into lower rest = record { waiting = record { greater = into; lower = lower } ∷ rest.waiting; made = rest.made }

abbrev pub all_read_on : Frame → List Constraint → List Expr → ReadOn
all_read_on frame [] made = record { waiting = []; made = made }
all_read_on frame (c ∷ constraints) made = one_more c.greater (read_on frame c made).expr (all_read_on frame constraints (read_on frame c made).made)

-- the constraints on other parts and on the next state
abbrev pub not_into : ℕ → List Constraint → List Constraint
not_into part waiting = filter (λ c. not (is_into part c.greater)) waiting

-- Wires below the first new one stay; of the others those that a constraint still reads.
abbrev pub is_live : ℕ → List Constraint → ℕ → Bool
is_live start waiting number = not (nat_le start number) || list_any (λ c. reads_wire c.lower number) waiting

-- Each wire, and its own value, from this place on.
abbrev pub passed_on : ℕ → List Wire → List WireValue
passed_on at [] = []
passed_on at (wire ∷ wires) = record { wire = wire; lower = expr.Own at } ∷ passed_on (at + 1) wires

-- new wires of plain numbers for these expressions over the wires
abbrev pub new_wires : List Wire → ℕ → List Expr → List WireValue
new_wires wires number [] = []
new_wires wires number (e ∷ made) = record { wire = record { number = number; kind = plain }; lower = placed wires e } ∷ new_wires wires (number + 1) made

-- each value in its place
abbrev pub targets_from : ℕ → List WireValue → List Target
targets_from at [] = []
targets_from at (c ∷ carried) = record { place = at; lower = c.lower } ∷ targets_from (at + 1) carried

-- The first `start` wires carry what the net is given. The next state has these types.
module _ (start : ℕ) (state : List Kind) where
  abbrev pub frame_at : Standing → ℕ → Compiled → Frame
  frame_at now p part = record { start = start; part = p; from = now.next; next = now.next + length part.required }

  -- the wires, and those of the part's required ports
  abbrev pub widened : Standing → Compiled → List Wire
  widened now part = now.wires ++ wires_from now.next part.required

  abbrev pub read_at : Standing → ℕ → Compiled → ReadOn
  read_at now p part = all_read_on (frame_at now p part) (not_into p now.waiting) []

  -- all wires that may be read after the part
  abbrev pub known_after : Standing → ℕ → Compiled → List WireValue
  known_after now p part = passed_on 0 (widened now part) ++ new_wires (widened now part) (now.next + length part.required) (read_at now p part).made

  -- those of them that are read
  abbrev pub carried_on : Standing → ℕ → Compiled → List WireValue
  carried_on now p part = filter (λ c. is_live start (read_at now p part).waiting c.wire.number) (known_after now p part)

  -- what stands after the part
  abbrev pub after : Standing → ℕ → Compiled → Standing
  after now p part = record {
    wires = map (λ c. c.wire) (carried_on now p part);
    next = now.next + length part.required + length (read_at now p part).made;
    waiting = (read_at now p part).waiting;
  }

  -- from the wires to the provided values of a part, and through it to its required values
  abbrev pub through : Standing → ℕ → Compiled → Term
  through now p part = term.Series (term.Prim (prim.Above part.provided (flat_map (λ c. asked_of p now.wires c.greater c.lower) now.waiting))) (term.Sub p part.term)

  -- from the wires and the part's required values to the wires after it
  abbrev pub carry : Standing → ℕ → Compiled → Term
  carry now p part = term.Prim (prim.Above (wire_kinds (after now p part).wires) (targets_from 0 (carried_on now p part)))

  -- from the wires to the next state
  abbrev pub to_state : Standing → Term
  to_state now = term.Prim (prim.Above state (flat_map (λ c. asked_of_state now.wires c.greater c.lower) now.waiting))

  -- Two terms for each part that is left: the first adds what the part requires to the wires, and the second carries on what is still read. A last term leads to the next state.
  abbrev pub stages : List Compiled → Standing → List ℕ → List Term
  stages parts now [] = to_state now ∷ []
  stages parts now (p ∷ left) =
      term.Par (keep_all (wire_kinds now.wires)) (through now p (get_or parts p nothing)) ∷ carry now p (get_or parts p nothing) ∷ stages parts (after now p (get_or parts p nothing)) left
