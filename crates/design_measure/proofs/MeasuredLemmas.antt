-- What each kind of design measures.
use Rattle.std.specs.Prelude.{◌≡◌, ℕ, List, [], ◌∷◌, length, map}
use Rattle.std.proofs.Common.{ap, ◌∙◌}
use Rattle.value_type.specs.declared.port.Port.{Port}
use Rattle.design_model.specs.declared.design.CatRow.{CatRow}
use Rattle.design_model.specs.declared.design.Design.{Design, fold_out-Design, map-Design}
use Rattle.design_model.specs.declared.design.Design.TheOpen.{Design-F}
use Rattle.design_model.specs.declared.design.Design.TheVariants.{Cat, Choice, Net, outs-Cat, outs-Choice, outs-Net}
use Rattle.design_model.specs.declared.design.Part.{Part, fold-Part, fold_out-Part}
use Rattle.design_model.specs.declared.expr.Constraint.{Constraint}
use Rattle.design_measure.specs.Scales.{Measure, measure_step, measured, total}
use Rattle.reference_meaning.specs.Denotes.{choice_of}

abbrev pub measures : Measure → List Part → List ℕ
measures m parts = map (λ p. measured m p.design) parts

measured_part : (m : Measure) (p : Part) → fold-Part ℕ ℕ (measure_step m) (λ p. p.design) p ≡ measured m p.design
measured_part m p = fold_out-Part ℕ ℕ (measure_step m) (λ p. p.design) p

pub measured-Cat : (m : Measure) (ps qs : List Port) (rows : List CatRow) → measured m (Cat ps qs rows) ≡ m.catalogue (length rows)
measured-Cat m ps qs rows = fold_out-Design ℕ ℕ (measure_step m) (λ p. p.design) (Cat ps qs rows)
    ∙ ap (λ (x : Design-F Design Part). measure_step m (map-Design Design Part ℕ ℕ (measured m) (fold-Part ℕ ℕ (measure_step m) (λ p. p.design)) x)) (outs-Cat ps qs rows)

pub measured-Choice : (m : Measure) (ps qs : List Port) (branches : List Part)
    → measured m (Choice ps qs branches) ≡ m.scale.plus m.choice (m.scale.times m.step (total m.scale (measures m branches)))
measured-Choice m ps qs branches = fold_out-Design ℕ ℕ (measure_step m) (λ p. p.design) (Choice ps qs branches)
    ∙ ap (λ (x : Design-F Design Part). measure_step m (map-Design Design Part ℕ ℕ (measured m) (fold-Part ℕ ℕ (measure_step m) (λ p. p.design)) x)) (outs-Choice ps qs branches)
    ∙ (λ i. measure_step m (Design-F.Choice ps qs (map (λ p. measured_part m p i) branches)))

pub measured-Net : (m : Measure) (ps qs : List Port) (parts : List Part) (cs : List Constraint)
    → measured m (Net ps qs parts cs) ≡ m.scale.plus (m.net (length cs)) (m.scale.times m.step (total m.scale (measures m parts)))
measured-Net m ps qs parts cs = fold_out-Design ℕ ℕ (measure_step m) (λ p. p.design) (Net ps qs parts cs)
    ∙ ap (λ (x : Design-F Design Part). measure_step m (map-Design Design Part ℕ ℕ (measured m) (fold-Part ℕ ℕ (measure_step m) (λ p. p.design)) x)) (outs-Net ps qs parts cs)
    ∙ (λ i. measure_step m (Design-F.Net ps qs (map (λ p. measured_part m p i) parts) cs))

pub measured-choice_of : (m : Measure) (parts : List Part) → measured m (choice_of parts) ≡ m.scale.plus m.choice (m.scale.times m.step (total m.scale (measures m parts)))
measured-choice_of m [] = measured-Choice m [] [] []
measured-choice_of m (p ∷ ps) = measured-Choice m _ _ (p ∷ ps)
