-- What holds of each type of a port where it holds of the parts of products.
use Rattle.std.specs.Prelude.{List, [], ◌∷◌, map}
use Rattle.std.proofs.Common.{sym, subst}
use Rattle.order_core.specs.Pointwise.{Each}
use Rattle.design_lexer.specs.declared.tree.FactorTree.{FactorTree}
use Rattle.design_lexer.specs.declared.tree.NameAt.{NameAt}
use Rattle.design_lexer.specs.declared.tree.TypeTree.{TypeTree, ind-TypeTree, map-TypeTree, roll-TypeTree}
use Rattle.design_lexer.specs.declared.tree.TypeTree.TheOpen.{TypeTree-F}
use Rattle.design_lexer.specs.declared.tree.TypeTree.TheVariants as type

module _ (Claim : TypeTree → Type 0) (number : Claim type.Nat) (unit : (factors : List FactorTree) → Claim (type.Unit factors)) (element : (name : NameAt) → Claim (type.Poset name))
    (upper_set : (name : NameAt) → Claim (type.Up name)) (tuple : (parts : List TypeTree) → Each Claim parts → Claim (type.Product parts)) where
  abbrev Claimed : Type 0
  Claimed = (t : TypeTree) × Claim t

  each_claimed : (es : List Claimed) → Each Claim (map (λ e. e.0) es)
  each_claimed [] = tt
  each_claimed (e ∷ es) = (e.1, each_claimed es)

  level : (y : TypeTree-F Claimed) → Claim (roll-TypeTree (map-TypeTree Claimed TypeTree (λ e. e.0) y))
  level TypeTree-F.Nat = subst Claim (sym type.rolls-Nat) number
  level (TypeTree-F.Unit factors) = subst Claim (sym (type.rolls-Unit factors)) (unit factors)
  level (TypeTree-F.Poset name) = subst Claim (sym (type.rolls-Poset name)) (element name)
  level (TypeTree-F.Up name) = subst Claim (sym (type.rolls-Up name)) (upper_set name)
  level (TypeTree-F.Product es) = subst Claim (sym (type.rolls-Product (map (λ e. e.0) es))) (tuple (map (λ e. e.0) es) (each_claimed es))

  pub for_each_type : (t : TypeTree) → Claim t
  for_each_type = ind-TypeTree Claim (λ x y is. subst (λ z. Claim (roll-TypeTree z)) is (level y))
