-- The faults of a rule whose greater port is there.
use Rattle.std.proofs.Common.{◌≡◌, ◌∙◌, refl, subst, Bool, true, false, IsTrue, [], ◌++◌}
use Rattle.std.specs.Prelude.{Some, not, option_map}
use Rattle.design_lexer.specs.declared.tree.ExprTree.{ExprTree}
use Rattle.design_lexer.specs.declared.tree.PlaceTree.{PlaceTree}
use Rattle.design_lexer.specs.declared.tree.RuleTree.TheVariants as rule
use Rattle.expr_lower.specs.Meanings.{lowered}
use Rattle.expr_lower.specs.Reading.{no_port, reading}
use Rattle.expr_lower.specs.declared.meaning.Lower.{Lower}
use Rattle.fault_list.specs.Faults.{fault_if, fault_unless}
use Rattle.unit_check.specs.Rules.{rule_faults, side_faults, sides_differ}
use Rattle.unit_check.specs.Scopes.{ScopePorts, Target, readable, target}
use Rattle.value_type.specs.SameForm.{same_kind}
use Rattle.value_type.specs.SameFormLaws.{same_kind_is, same_kind_itself}
use Rattle.value_type.specs.declared.kind.Kind.{Kind}
use Rattle.value_type.specs.declared.poset.Types.{Types}

pub kinds_same : (a b : Kind) → a ≡ b → same_kind a b ≡ true
kinds_same a b e = subst (λ k. same_kind a k ≡ true) e (same_kind_itself a)

pub kinds_differ : (a b : Kind) (t : Bool) → t ≡ false → (a ≡ b → IsTrue t) → same_kind a b ≡ false
kinds_differ a b t off h = go (same_kind a b) refl
  where
    go : (s : Bool) → same_kind a b ≡ s → s ≡ false
    go false e = refl
    go true e = let yes : t ≡ true = h (same_kind_is a b e) in absurd (cc)

module _ (types : Types) (scope : ScopePorts) (place : PlaceTree) (tree : ExprTree) (t : Target) (placed : target scope place ≡ Some t) where
  -- Its expression's faults come next, and then that of the two sides.
  pub above_rest : rule_faults types scope (rule.Above place tree) ≡ (reading types (readable scope) tree).faults ++ side_faults place (Some t) (option_map lowered (reading types (readable scope) tree).meaning)
  above_rest = λ i. fault_unless (placed i) (no_port place) ++ (reading types (readable scope) tree).faults ++ side_faults place (placed i) (option_map lowered (reading types (readable scope) tree).meaning)

  -- Where the expression has none, that of the two sides is left.
  pub above_sides : (l : Lower) → (reading types (readable scope) tree).faults ≡ [] → option_map lowered (reading types (readable scope) tree).meaning ≡ Some l → rule_faults types scope (rule.Above place tree) ≡ fault_if (not (same_kind t.kind l.kind)) (sides_differ place)
  above_sides l none means = above_rest ∙ (λ i. none i ++ side_faults place (Some t) (means i))
