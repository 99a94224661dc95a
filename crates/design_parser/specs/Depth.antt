-- How deep the trees are that lead to themselves.
use Rattle.std.specs.Prelude.{ℕ, suc, ◌+◌, List, [], ◌∷◌, max}
use Rattle.design_lexer.specs.declared.tree.ExprTree.{ExprTree, fold-ExprTree}
use Rattle.design_lexer.specs.declared.tree.ExprTree.TheOpen.{ExprTree-F}
use Rattle.design_lexer.specs.declared.tree.TypeTree.{TypeTree, fold-TypeTree}
use Rattle.design_lexer.specs.declared.tree.TypeTree.TheOpen.{TypeTree-F}
use Rattle.design_lexer.specs.declared.tree.ValueTree.{ValueTree, fold-ValueTree}
use Rattle.design_lexer.specs.declared.tree.ValueTree.TheOpen.{ValueTree-F}
use Rattle.design_lexer.specs.declared.tree.RefTree.{RefTree, fold-RefTree}

-- the greatest of the numbers, or 0
abbrev pub most : List ℕ → ℕ
most [] = 0
most (n ∷ ns) = max n (most ns)

abbrev pub depth_step : ExprTree-F ℕ → ℕ
depth_step (ExprTree-F.Constant c) = 1
depth_step (ExprTree-F.Place p) = 1
depth_step (ExprTree-F.Element poset element) = 1
depth_step (ExprTree-F.Upper poset elements) = 1
depth_step (ExprTree-F.Sum left right at) = 1 + max left right
depth_step (ExprTree-F.Product left right at) = 1 + max left right
depth_step (ExprTree-F.Greatest left right at) = 1 + max left right
depth_step (ExprTree-F.Lesser left right at) = 1 + max left right
depth_step (ExprTree-F.Tuple parts at) = 1 + most parts

-- one more than its deepest operand or part
unfoldable pub depth : ExprTree → ℕ
depth = fold-ExprTree ℕ depth_step

abbrev pub type_step : TypeTree-F ℕ → ℕ
type_step TypeTree-F.Nat = 1
type_step (TypeTree-F.Unit unit) = 1
type_step (TypeTree-F.Poset name) = 1
type_step (TypeTree-F.Up name) = 1
type_step (TypeTree-F.Product parts) = 1 + most parts

-- one more than its deepest part
unfoldable pub type_depth : TypeTree → ℕ
type_depth = fold-TypeTree ℕ type_step

abbrev pub value_step : ValueTree-F ℕ → ℕ
value_step (ValueTree-F.Top at) = 1
value_step (ValueTree-F.Constant c) = 1
value_step (ValueTree-F.Element poset element) = 1
value_step (ValueTree-F.Upper poset elements) = 1
value_step (ValueTree-F.Tuple at parts) = 1 + most parts

-- one more than its deepest part
unfoldable pub value_depth : ValueTree → ℕ
value_depth = fold-ValueTree ℕ value_step

-- one more than the deepest reference among its arguments
unfoldable pub reference_depth : RefTree → ℕ
reference_depth = fold-RefTree ℕ ℕ (λ a. a.reference) (λ r. 1 + most r.arguments)
