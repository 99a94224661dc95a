use Rattle.std.proofs.Common.{◌≡◌, List, ◌++◌, map, drop}
use Rattle.design_model.specs.declared.expr.Expr.{Expr}
use Rattle.expr_residual.specs.Residual.{AllLeft, taken, all_left}
use Rattle.expr_residual.proofs.taking.+taken.Given as goal

-- these expressions, and then what is left
abbrev pub with_before : List Expr → AllLeft → AllLeft
with_before exprs rest = record { exprs = exprs ++ rest.exprs; made = rest.made }

-- What is left so far, followed by what the parts left leave, is all of it.
abbrev pub invariant-parts_left-loop-part : goal.invariant-parts_left-loop-part
invariant-parts_left-loop-part l =
    all_left l.frame (map (taken l.frame) l.parts) l.initial.made.items
    ≡ with_before l.exprs.items (all_left l.frame (map (taken l.frame) (drop l.part-index l.parts)) l.made.items)
