use Rattle.std.proofs.Common.{◌≡◌, take}
use Rattle.design_model.proofs.copy.+copy_expr.Given as goal

-- The expressions so far are copied.
abbrev pub invariant-copy_exprs-loop-expr : goal.invariant-copy_exprs-loop-expr
invariant-copy_exprs-loop-expr l = l.made.items ≡ take l.expr-index l.exprs
