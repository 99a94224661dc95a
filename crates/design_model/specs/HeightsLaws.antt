-- What is known of each kind of design for its enough rounds.
use Rattle.std.specs.Prelude.{◌≡◌, List, map}
use Rattle.std.proofs.Common.{refl, ap, ◌∙◌}
use Rattle.std.proofs.lemmas.Simd.{map-map}
use Rattle.value_type.specs.declared.port.Port.{Port}
use Rattle.value_type.specs.declared.poset.Types.{Types}
use Rattle.value_type.specs.PortKinds.{port_kinds}
use Rattle.design_model.specs.declared.design.CatRow.{CatRow}
use Rattle.design_model.specs.declared.design.Design.{Design, fold_out-Design, map-Design, out-Design}
use Rattle.design_model.specs.declared.design.Design.TheOpen.{Design-F}
use Rattle.design_model.specs.declared.design.Design.TheVariants.{Cat, Choice, Net, outs-Cat, outs-Choice, outs-Net}
use Rattle.design_model.specs.declared.design.Part.{Part, fold-Part, fold_out-Part}
use Rattle.design_model.specs.declared.expr.Constraint.{Constraint}
use Rattle.design_model.specs.Parts.{provided_at, required_at, provided_ports, required_ports}
use Rattle.design_model.specs.Wiring.{wiring_of}
use Rattle.design_model.specs.Heights.{Survey, survey, survey_step, surveyed}

abbrev pub of_part : Types → Part → Survey
of_part t p = survey t p.design

survey_of_part : (t : Types) (p : Part) → fold-Part Survey Survey (survey_step t) (λ p. p.design) p ≡ of_part t p
survey_of_part t p = fold_out-Part Survey Survey (survey_step t) (λ p. p.design) p

seen : (t : Types) (d : Design) → survey t d ≡ survey_step t (map-Design Design Part Survey Survey (survey t) (fold-Part Survey Survey (survey_step t) (λ p. p.design)) (out-Design d))
seen t d = fold_out-Design Survey Survey (survey_step t) (λ p. p.design) d

pub survey-Cat : (t : Types) (provides requires_ : List Port) (rows : List CatRow) → survey t (Cat provides requires_ rows) ≡ survey_step t (Design-F.Cat provides requires_ rows)
survey-Cat t provides requires_ rows = fold_out-Design Survey Survey (survey_step t) (λ p. p.design) (Cat provides requires_ rows)
    ∙ ap (λ (x : Design-F Design Part). survey_step t (map-Design Design Part Survey Survey (survey t) (fold-Part Survey Survey (survey_step t) (λ p. p.design)) x)) (outs-Cat provides requires_ rows)

pub survey-Choice : (t : Types) (provides requires_ : List Port) (branches : List Part)
    → survey t (Choice provides requires_ branches) ≡ survey_step t (Design-F.Choice provides requires_ (map (of_part t) branches))
survey-Choice t provides requires_ branches = fold_out-Design Survey Survey (survey_step t) (λ p. p.design) (Choice provides requires_ branches)
    ∙ ap (λ (x : Design-F Design Part). survey_step t (map-Design Design Part Survey Survey (survey t) (fold-Part Survey Survey (survey_step t) (λ p. p.design)) x)) (outs-Choice provides requires_ branches)
    ∙ (λ i. survey_step t (Design-F.Choice provides requires_ (map (λ p. survey_of_part t p i) branches)))

pub survey-Net : (t : Types) (provides requires_ : List Port) (parts : List Part) (constraints : List Constraint)
    → survey t (Net provides requires_ parts constraints) ≡ survey_step t (Design-F.Net provides requires_ (map (of_part t) parts) constraints)
survey-Net t provides requires_ parts constraints = fold_out-Design Survey Survey (survey_step t) (λ p. p.design) (Net provides requires_ parts constraints)
    ∙ ap (λ (x : Design-F Design Part). survey_step t (map-Design Design Part Survey Survey (survey t) (fold-Part Survey Survey (survey_step t) (λ p. p.design)) x)) (outs-Net provides requires_ parts constraints)
    ∙ (λ i. survey_step t (Design-F.Net provides requires_ (map (λ p. survey_of_part t p i) parts) constraints))

pub provided_surveyed : (t : Types) (d : Design) → (survey t d).provided ≡ port_kinds (provided_ports d)
provided_surveyed t d = ap (λ (s : Survey). s.provided) (seen t d) ∙ at (out-Design d)
  where
    at : (x : Design-F Design Part) → (survey_step t (map-Design Design Part Survey Survey (survey t) (fold-Part Survey Survey (survey_step t) (λ p. p.design)) x)).provided ≡ port_kinds (provided_at x)
    at (Design-F.Cat provides requires_ rows) = refl
    at (Design-F.Choice provides requires_ branches) = refl
    at (Design-F.Net provides requires_ parts constraints) = refl

pub required_surveyed : (t : Types) (d : Design) → (survey t d).required ≡ port_kinds (required_ports d)
required_surveyed t d = ap (λ (s : Survey). s.required) (seen t d) ∙ at (out-Design d)
  where
    at : (x : Design-F Design Part) → (survey_step t (map-Design Design Part Survey Survey (survey t) (fold-Part Survey Survey (survey_step t) (λ p. p.design)) x)).required ≡ port_kinds (required_at x)
    at (Design-F.Cat provides requires_ rows) = refl
    at (Design-F.Choice provides requires_ branches) = refl
    at (Design-F.Net provides requires_ parts constraints) = refl

-- The wiring that a net's height goes by is the net's.
pub surveyed_is : (t : Types) (provides requires_ : List Port) (parts : List Part) (constraints : List Constraint)
    → surveyed provides requires_ (map (of_part t) parts) constraints ≡ wiring_of (λ p. p) provides requires_ parts constraints
surveyed_is t provides requires_ parts constraints = λ i. record {
  provides = port_kinds provides;
  requires_ = port_kinds requires_;
  provided = (map-map (λ (s : Survey). s.provided) (of_part t) parts ∙ (λ j. map (λ (p : Part). provided_surveyed t p.design j) parts)) i;
  required = (map-map (λ (s : Survey). s.required) (of_part t) parts ∙ (λ j. map (λ (p : Part). required_surveyed t p.design j) parts)) i;
  constraints = constraints;
}
