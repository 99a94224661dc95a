-- What holds of each design where it holds of those that its designs are made of.
use Rattle.std.specs.Prelude.{List, [], ◌∷◌, map}
use Rattle.std.proofs.Common.{sym, subst}
use Rattle.order_core.specs.Pointwise.{Each}
use Rattle.value_type.specs.declared.port.Port.{Port}
use Rattle.design_model.specs.declared.design.CatRow.{CatRow}
use Rattle.design_model.specs.declared.design.Design.{Design, roll-Design, map-Design}
use Rattle.design_model.specs.declared.design.Design.TheFolds.{ind-Design}
use Rattle.design_model.specs.declared.design.Design.TheOpen.{Design-F}
use Rattle.design_model.specs.declared.design.Design.TheVariants.{Cat, Choice, Net, rolls-Cat, rolls-Choice, rolls-Net}
use Rattle.design_model.specs.declared.design.Part.{Part, roll-Part}
use Rattle.design_model.specs.declared.expr.Constraint.{Constraint}

module _ (Claim : Design → Type 0)
    (catalogue : (provides requires_ : List Port) (rows : List CatRow) → Claim (Cat provides requires_ rows))
    (choice : (provides requires_ : List Port) (branches : List Part) → Each (λ (b : Part). Claim b.design) branches → Claim (Choice provides requires_ branches))
    (net : (provides requires_ : List Port) (parts : List Part) (constraints : List Constraint) → Each (λ (p : Part). Claim p.design) parts → Claim (Net provides requires_ parts constraints)) where
  abbrev ClaimPart : Part → Type 0
  ClaimPart p = Claim p.design

  abbrev Claimed : Type 0
  Claimed = (p : Part) × ClaimPart p

  each_claimed : (es : List Claimed) → Each ClaimPart (map (λ e. e.0) es)
  each_claimed [] = tt
  each_claimed (e ∷ es) = (e.1, each_claimed es)

  level : (y : Design-F ((d : Design) × Claim d) Claimed) → Claim (roll-Design (map-Design ((d : Design) × Claim d) Claimed Design Part (λ e. e.0) (λ e. e.0) y))
  level (Design-F.Cat provides requires_ rows) = subst Claim (sym (rolls-Cat provides requires_ rows)) (catalogue provides requires_ rows)
  level (Design-F.Choice provides requires_ es) =
      subst Claim (sym (rolls-Choice provides requires_ (map (λ e. e.0) es))) (choice provides requires_ (map (λ e. e.0) es) (each_claimed es))
  level (Design-F.Net provides requires_ es constraints) =
      subst Claim (sym (rolls-Net provides requires_ (map (λ e. e.0) es) constraints)) (net provides requires_ (map (λ e. e.0) es) constraints (each_claimed es))

  pub for_each_design : (d : Design) → Claim d
  for_each_design = ind-Design Claim ClaimPart (λ x y is. subst (λ z. Claim (roll-Design z)) is (level y)) (λ x y is. subst (λ z. ClaimPart (roll-Part z)) is y.design.1)
