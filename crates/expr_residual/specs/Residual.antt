-- What is left of an expression where wires carry a part of what it reads: each largest operation on wires alone becomes a wire, and of a long sum, or of the greatest of many, all known operands become one.
use Rattle.std.specs.Prelude.{ℕ, ◌+◌, Bool, true, false, cond, nat_le, ◌&&◌, ◌==◌, List, [], ◌∷◌, ◌++◌, length, Option, Some, None}
use Rattle.design_model.specs.declared.expr.Expr.{Expr, fold-Expr, out-Expr}
use Rattle.design_model.specs.declared.expr.Expr.TheOpen.{Expr-F}
use Rattle.design_model.specs.declared.expr.Expr.TheVariants as expr
use Rattle.expr_residual.specs.declared.frame.Frame.{Frame}
use Rattle.expr_residual.specs.declared.split.Associative.{Associative}
use Rattle.expr_residual.specs.declared.split.Associative.TheVariants as by
use Rattle.expr_residual.specs.declared.split.Split.{Split}
use Rattle.expr_residual.specs.declared.split.Split.TheVariants as split
use Rattle.expr_residual.specs.Moved.{reads_own}

-- the wire that carries a part's required port, if there is one: those of one part are carried by wires that are numbered one after the other
abbrev pub wire_of : Frame → ℕ → ℕ → Option ℕ
wire_of frame i j = cond (i == frame.part) (Some (frame.from + j)) None

-- An expression that is left, and the expressions whose values the new wires carry.
pub record Left : Type 0 where
  pub expr : Expr
  pub made : List Expr

-- Some expressions that are left, and those of the new wires.
pub record AllLeft : Type 0 where
  pub exprs : List Expr
  pub made : List Expr

-- An expression taken apart, and those of the new wires.
pub record Taken : Type 0 where
  pub split : Split
  pub made : List Expr

abbrev pub joined_by : Associative → Expr → Expr → Expr
joined_by by.Sum a b = expr.Sum a b
joined_by by.Greatest a b = expr.Greatest a b

abbrev pub same_operation : Associative → Associative → Bool
same_operation by.Sum by.Sum = true
same_operation by.Sum by.Greatest = false
same_operation by.Greatest by.Sum = false
same_operation by.Greatest by.Greatest = true

abbrev pub operation_at : Expr-F Expr → Bool
operation_at (Expr-F.Own j) = false
operation_at (Expr-F.Inner i j) = false
operation_at (Expr-F.Constant v) = false
operation_at (Expr-F.Scale by a) = true
operation_at (Expr-F.Sum a b) = true
operation_at (Expr-F.Product a b) = true
operation_at (Expr-F.Greatest a b) = true
operation_at (Expr-F.Lesser a b) = true
operation_at (Expr-F.Tuple parts) = false

-- an operation on numbers
abbrev pub is_operation : Expr → Bool
is_operation e = operation_at (out-Expr e)

-- A known expression gets a wire of its own where it is an operation, and reads what isn't the same in every outcome.
abbrev pub gets_wire : ℕ → Expr → Bool
gets_wire start e = is_operation e && reads_own (nat_le start) e

-- one more known operand
abbrev pub with_known : Associative → Expr → Split → Split
with_known op a (split.Known b) = split.Known (joined_by op a b)
with_known op a (split.Partly other known waiting) = split.Partly op (joined_by op a known) waiting
with_known op a (split.Waiting waiting) = split.Partly op a waiting

-- one more waiting operand
abbrev pub with_waiting : Associative → Expr → Split → Split
with_waiting op a (split.Known b) = split.Partly op b a
with_waiting op a (split.Partly other known waiting) = split.Partly op known (joined_by op a waiting)
with_waiting op a (split.Waiting waiting) = split.Waiting (joined_by op a waiting)

-- both operands, the known ones together and the waiting ones together
abbrev pub joined : Associative → Split → Split → Split
joined op (split.Known a) b = with_known op a b
joined op (split.Partly other known waiting) b = with_known op known (with_waiting op waiting b)
joined op (split.Waiting a) b = with_waiting op a b

module _ (frame : Frame) where
  -- A known expression, by a wire of its own if it gets one.
  abbrev pub put : Expr → List Expr → Left
  put e made = cond (gets_wire frame.start e) (record { expr = expr.Own (frame.next + length made); made = made ++ e ∷ [] }) (record { expr = e; made = made })

  abbrev joined_left : Associative → Expr → Left → Left
  joined_left op waiting left = record { expr = joined_by op left.expr waiting; made = left.made }

  -- the expression that is left of one taken apart
  abbrev pub closed : Split → List Expr → Left
  closed (split.Known e) made = put e made
  closed (split.Partly op known waiting) made = joined_left op waiting (put known made)
  closed (split.Waiting e) made = record { expr = e; made = made }

  abbrev pub waiting_for : (Expr → Expr) → Left → Taken
  waiting_for form left = record { split = split.Waiting (form left.expr); made = left.made }

  -- what was taken apart, as one waiting expression
  abbrev pub put_together : Split → List Expr → Taken
  put_together s made = waiting_for (λ e. e) (closed s made)

  -- An operand of an operation: what is joined by another operation isn't taken apart.
  abbrev pub operand : Associative → Split → List Expr → Taken
  operand op (split.Known e) made = record { split = split.Known e; made = made }
  operand op (split.Partly other known waiting) made = cond (same_operation op other) (record { split = split.Partly op known waiting; made = made }) (put_together (split.Partly other known waiting) made)
  operand op (split.Waiting e) made = record { split = split.Waiting e; made = made }

  abbrev joined_taken : Associative → Split → Taken → Taken
  joined_taken op a b = record { split = joined op a b.split; made = b.made }

  abbrev second_operand : Associative → Split → Taken → Taken
  second_operand op b a = joined_taken op a.split (operand op b a.made)

  -- an operation whose operands may be taken in any order
  abbrev pub gathered : Associative → Split → Taken → Taken
  gathered op a b = second_operand op b.split (operand op a b.made)

  abbrev pub second_left : (Expr → Expr → Expr) → Expr → Left → Taken
  second_left form a b = waiting_for (form a) b

  abbrev pub both_left : (Expr → Expr → Expr) → Split → Left → Taken
  both_left form b a = second_left form a.expr (closed b a.made)

  -- any other operation on two operands
  abbrev pub paired : (Expr → Expr → Expr) → Split → Split → List Expr → Taken
  paired form (split.Known a) (split.Known b) made = record { split = split.Known (form a b); made = made }
  paired form a b made = both_left form b (closed a made)

  -- an operation on one operand
  abbrev pub single : (Expr → Expr) → Split → List Expr → Taken
  single form (split.Known a) made = record { split = split.Known (form a); made = made }
  single form a made = waiting_for form (closed a made)

  abbrev pub left_of : Taken → Left
  left_of taken = closed taken.split taken.made

  abbrev one_more_left : Expr → AllLeft → AllLeft
  one_more_left e rest = record { exprs = e ∷ rest.exprs; made = rest.made }

  -- the parts of a tuple, one after the other
  abbrev pub all_left : List (List Expr → Taken) → List Expr → AllLeft
  all_left [] made = record { exprs = []; made = made }
  all_left (part ∷ parts) made = one_more_left (left_of (part made)).expr (all_left parts (left_of (part made)).made)

  abbrev pub tuple_left : AllLeft → Taken
  tuple_left all = record { split = split.Waiting (expr.Tuple all.exprs); made = all.made }

  abbrev pub known_or_waiting : ℕ → ℕ → Option ℕ → Split
  known_or_waiting i j (Some wire) = split.Known (expr.Own wire)
  known_or_waiting i j None = split.Waiting (expr.Inner i j)

  abbrev pub gathered_after : Associative → (List Expr → Taken) → Taken → Taken
  gathered_after op b a = gathered op a.split (b a.made)

  abbrev paired_with : (Expr → Expr → Expr) → Split → Taken → Taken
  paired_with form a b = paired form a b.split b.made

  abbrev pub paired_after : (Expr → Expr → Expr) → (List Expr → Taken) → Taken → Taken
  paired_after form b a = paired_with form a.split (b a.made)

  abbrev pub single_of : (Expr → Expr) → Taken → Taken
  single_of form a = single form a.split a.made

  -- one level of an expression, with its parts taken apart in their place
  abbrev pub take_step : Expr-F (List Expr → Taken) → List Expr → Taken
  take_step (Expr-F.Own j) made = record { split = split.Known (expr.Own j); made = made }
  take_step (Expr-F.Inner i j) made = record { split = known_or_waiting i j (wire_of frame i j); made = made }
  take_step (Expr-F.Constant v) made = record { split = split.Known (expr.Constant v); made = made }
  take_step (Expr-F.Scale by a) made = single_of (expr.Scale by) (a made)
  take_step (Expr-F.Sum a b) made = gathered_after by.Sum b (a made)
  take_step (Expr-F.Product a b) made = paired_after expr.Product b (a made)
  take_step (Expr-F.Greatest a b) made = gathered_after by.Greatest b (a made)
  take_step (Expr-F.Lesser a b) made = paired_after expr.Lesser b (a made)
  take_step (Expr-F.Tuple parts) made = tuple_left (all_left parts made)

  -- The expression taken apart, where these expressions have new wires already.
  abbrev pub taken : Expr → List Expr → Taken
  taken = fold-Expr (List Expr → Taken) take_step

  -- What is left of the expression, where these expressions have new wires already.
  abbrev pub residual : Expr → List Expr → Left
  residual e made = left_of (taken e made)
