-- What holds of each type where it holds of the parts of tuples.
use Rattle.std.specs.Prelude.{ℕ, List, [], ◌∷◌, map}
use Rattle.std.proofs.Common.{sym, subst}
use Rattle.order_core.specs.Pointwise.{Each}
use Rattle.unit_core.specs.declared.dim.Dim.{Dim}
use Rattle.value_type.specs.declared.kind.Kind.{Kind, roll-Kind, map-Kind}
use Rattle.value_type.specs.declared.kind.Kind.TheFolds.{ind-Kind}
use Rattle.value_type.specs.declared.kind.Kind.TheOpen.{Kind-F}
use Rattle.value_type.specs.declared.kind.Kind.TheVariants as kind

module _ (Claim : Kind → Type 0) (number : (dim : Dim) → Claim (kind.Num dim)) (element : (k : ℕ) → Claim (kind.Fin k)) (tuple : (ks : List Kind) → Each Claim ks → Claim (kind.Prod ks))
    (upper_set : (k : ℕ) → Claim (kind.Up k)) where
  abbrev Claimed : Type 0
  Claimed = (k : Kind) × Claim k

  each_claimed : (es : List Claimed) → Each Claim (map (λ e. e.0) es)
  each_claimed [] = tt
  each_claimed (e ∷ es) = (e.1, each_claimed es)

  level : (y : Kind-F Claimed) → Claim (roll-Kind (map-Kind Claimed Kind (λ e. e.0) y))
  level (Kind-F.Num dim) = subst Claim (sym (kind.rolls-Num dim)) (number dim)
  level (Kind-F.Fin k) = subst Claim (sym (kind.rolls-Fin k)) (element k)
  level (Kind-F.Prod es) = subst Claim (sym (kind.rolls-Prod (map (λ e. e.0) es))) (tuple (map (λ e. e.0) es) (each_claimed es))
  level (Kind-F.Up k) = subst Claim (sym (kind.rolls-Up k)) (upper_set k)

  pub for_each_kind : (k : Kind) → Claim k
  for_each_kind = ind-Kind Claim (λ x y is. subst (λ z. Claim (roll-Kind z)) is (level y))
