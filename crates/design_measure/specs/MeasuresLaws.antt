-- The depth and the size of each kind of design.
use Rattle.std.specs.Prelude.{◌≡◌, ℕ, ◌+◌, ◌≤◌, max, List, [], ◌∷◌, length, map, slice_get, Some}
use Rattle.std.proofs.Common.{ap, ◌∙◌, subst, zero, suc, arith}
use Rattle.value_type.specs.declared.port.Port.{Port}
use Rattle.design_model.specs.declared.design.CatRow.{CatRow}
use Rattle.design_model.specs.declared.design.Design.{Design, fold_out-Design, map-Design}
use Rattle.design_model.specs.declared.design.Design.TheOpen.{Design-F}
use Rattle.design_model.specs.declared.design.Design.TheVariants.{Cat, Choice, Net, outs-Cat, outs-Choice, outs-Net}
use Rattle.design_model.specs.declared.design.Part.{Part, fold-Part, fold_out-Part}
use Rattle.design_model.specs.declared.expr.Constraint.{Constraint}
use Rattle.design_measure.specs.Measures.{added, greatest, depth_of, depth_step, size_of, size_step}

abbrev pub depths : List Part → List ℕ
depths parts = map (λ p. depth_of p.design) parts

abbrev pub sizes : List Part → List ℕ
sizes parts = map (λ p. size_of p.design) parts

depth_of_part : (p : Part) → fold-Part ℕ ℕ depth_step (λ p. p.design) p ≡ depth_of p.design
depth_of_part p = fold_out-Part ℕ ℕ depth_step (λ p. p.design) p

pub depth-Cat : (ps qs : List Port) (rows : List CatRow) → depth_of (Cat ps qs rows) ≡ 1
depth-Cat ps qs rows = fold_out-Design ℕ ℕ depth_step (λ p. p.design) (Cat ps qs rows)
    ∙ ap (λ (x : Design-F Design Part). depth_step (map-Design Design Part ℕ ℕ depth_of (fold-Part ℕ ℕ depth_step (λ p. p.design)) x)) (outs-Cat ps qs rows)

pub depth-Choice : (ps qs : List Port) (branches : List Part) → depth_of (Choice ps qs branches) ≡ 1 + greatest (depths branches)
depth-Choice ps qs branches = fold_out-Design ℕ ℕ depth_step (λ p. p.design) (Choice ps qs branches)
    ∙ ap (λ (x : Design-F Design Part). depth_step (map-Design Design Part ℕ ℕ depth_of (fold-Part ℕ ℕ depth_step (λ p. p.design)) x)) (outs-Choice ps qs branches)
    ∙ (λ i. depth_step (Design-F.Choice ps qs (map (λ p. depth_of_part p i) branches)))

pub depth-Net : (ps qs : List Port) (parts : List Part) (cs : List Constraint) → depth_of (Net ps qs parts cs) ≡ 1 + greatest (depths parts)
depth-Net ps qs parts cs = fold_out-Design ℕ ℕ depth_step (λ p. p.design) (Net ps qs parts cs)
    ∙ ap (λ (x : Design-F Design Part). depth_step (map-Design Design Part ℕ ℕ depth_of (fold-Part ℕ ℕ depth_step (λ p. p.design)) x)) (outs-Net ps qs parts cs)
    ∙ (λ i. depth_step (Design-F.Net ps qs (map (λ p. depth_of_part p i) parts) cs))

size_of_part : (p : Part) → fold-Part ℕ ℕ size_step (λ p. p.design) p ≡ size_of p.design
size_of_part p = fold_out-Part ℕ ℕ size_step (λ p. p.design) p

pub size-Cat : (ps qs : List Port) (rows : List CatRow) → size_of (Cat ps qs rows) ≡ 1 + length rows
size-Cat ps qs rows = fold_out-Design ℕ ℕ size_step (λ p. p.design) (Cat ps qs rows)
    ∙ ap (λ (x : Design-F Design Part). size_step (map-Design Design Part ℕ ℕ size_of (fold-Part ℕ ℕ size_step (λ p. p.design)) x)) (outs-Cat ps qs rows)

pub size-Choice : (ps qs : List Port) (branches : List Part) → size_of (Choice ps qs branches) ≡ 1 + added (sizes branches)
size-Choice ps qs branches = fold_out-Design ℕ ℕ size_step (λ p. p.design) (Choice ps qs branches)
    ∙ ap (λ (x : Design-F Design Part). size_step (map-Design Design Part ℕ ℕ size_of (fold-Part ℕ ℕ size_step (λ p. p.design)) x)) (outs-Choice ps qs branches)
    ∙ (λ i. size_step (Design-F.Choice ps qs (map (λ p. size_of_part p i) branches)))

pub size-Net : (ps qs : List Port) (parts : List Part) (cs : List Constraint) → size_of (Net ps qs parts cs) ≡ 1 + length cs + added (sizes parts)
size-Net ps qs parts cs = fold_out-Design ℕ ℕ size_step (λ p. p.design) (Net ps qs parts cs)
    ∙ ap (λ (x : Design-F Design Part). size_step (map-Design Design Part ℕ ℕ size_of (fold-Part ℕ ℕ size_step (λ p. p.design)) x)) (outs-Net ps qs parts cs)
    ∙ (λ i. size_step (Design-F.Net ps qs (map (λ p. size_of_part p i) parts) cs))

pub greatest_got : (parts : List Part) (i : ℕ) (p : Part) → slice_get parts i ≡ Some p → depth_of p.design ≤ greatest (depths parts)
greatest_got [] i p e = absurd (cc)
greatest_got (x ∷ xs) zero p e = let same : x ≡ p = cc in subst (λ y. depth_of y.design ≤ max (depth_of x.design) (greatest (depths xs))) same (omega arith)
greatest_got (x ∷ xs) (suc i) p e = let rest = greatest_got xs i p e in omega arith
