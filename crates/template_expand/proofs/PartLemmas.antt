-- What the calls that expand a module owe one another.
use Rattle.std.specs.Prelude.{◌≡◌, ℕ, ◌+◌, ◌-◌, ◌<◌, ◌≤◌, List, [], ◌∷◌, ◌++◌, length, take, Some}
use Rattle.std.proofs.Common.{refl, sym, ap, subst, ◌∙◌, get_or, arith}
use Rattle.std.proofs.lemmas.List.{take_all, take_more}
use Rattle.std.proofs.lemmas.Option.{slice_get-get_or}
use Rattle.order_core.specs.PointwiseLaws.{pointwise_length}
use Rattle.design_measure.specs.Measures.{depth_of, greatest}
use Rattle.design_measure.specs.MeasuresLaws.{depth-Choice, depth-Net, depths, greatest_got}
use Rattle.design_model.specs.declared.design.CatRow.{CatRow}
use Rattle.design_model.specs.declared.design.Design.{Design}
use Rattle.design_model.specs.declared.design.Design.TheVariants.{Cat, Net}
use Rattle.design_model.specs.declared.design.Part.{Part}
use Rattle.design_model.specs.declared.expr.Constraint.{Constraint}
use Rattle.reference_meaning.specs.Denotes.{choice_of}
use Rattle.reference_meaning.specs.Modules.{BodyMakes, IsLinked, Makes, MakesIn, ModuleMakes, Modules}
use Rattle.reference_meaning.specs.declared.module.Link.{Link}
use Rattle.reference_meaning.specs.declared.module.Module.{Module}
use Rattle.reference_meaning.specs.declared.module.ModuleBody.{ModuleBody}
use Rattle.reference_meaning.specs.declared.module.ModuleBody.TheVariants as body
use Rattle.reference_meaning.specs.declared.module.Resolved.{Resolved}
use Rattle.template_expand.proofs.TrailLemmas.{part_at}
use Rattle.template_expand.specs.Trails.{BodyBeneath, MakesBeneath, PartsBeneath, StandFor}

-- The parts that links denote, and what the design is that is made of them.
pub record MadeOf (modules : Modules) (trail : List (List Resolved)) (links : List Link) (make : List Part → Design) (X : Design) : Type 0 where
  pub parts : List Part
  pub denote : PartsBeneath modules trail links parts
  pub is : X ≡ make parts

module _ (modules : Modules) (trail : List (List Resolved)) (named : Module) (X : Design) (p : BodyBeneath modules trail named X) where
  holds_as : (b : ModuleBody) → named.body ≡ b → BodyMakes (MakesIn modules p.steps p.given) named b X
  holds_as b is = subst (λ y. BodyMakes (MakesIn modules p.steps p.given) named y X) is p.holds

  pub catalogue_is : (rows : List CatRow) → named.body ≡ body.Catalogue rows → X ≡ Cat named.provides named.requires_ rows
  catalogue_is rows is = holds_as (body.Catalogue rows) is

  pub choice_parts : (branches xs : List Link) → named.body ≡ body.Choice branches → xs ≡ branches → MadeOf modules trail xs choice_of X
  choice_parts branches xs is same =
      let h = holds_as (body.Choice branches) is in
      subst (λ ys. MadeOf modules trail ys choice_of X) (sym same) (record { parts = h.0; denote = record { given = p.given; stand_for = p.stand_for; steps = p.steps; holds = h.1 }; is = h.2 })

  pub net_parts : (instances xs : List Link) (constraints : List Constraint) → named.body ≡ body.Net instances constraints → xs ≡ instances → MadeOf modules trail xs (λ parts. Net named.provides named.requires_ parts constraints) X
  net_parts instances xs constraints is same =
      let h = holds_as (body.Net instances constraints) is in
      subst (λ ys. MadeOf modules trail ys (λ parts. Net named.provides named.requires_ parts constraints) X) (sym same)
      (record { parts = h.0; denote = record { given = p.given; stand_for = p.stand_for; steps = p.steps; holds = h.1 }; is = h.2 })

-- A design is made of the parts that were found.
pub made_is : (modules : Modules) (trail : List (List Resolved)) (links : List Link) (make : List Part → Design) (X : Design) (found : List Part)
    → ((ps : List Part) → PartsBeneath modules trail links ps → ps ≡ found) → MadeOf modules trail links make X → X ≡ make found
made_is modules trail links make X found only m = m.is ∙ ap make (only m.parts m.denote)

depth_choice : (parts : List Part) → depth_of (choice_of parts) ≡ 1 + greatest (depths parts)
depth_choice [] = depth-Choice [] [] []
depth_choice (p ∷ ps) = depth-Choice _ _ (p ∷ ps)

-- The parts of a choice or a net are less deep than it is.
pub choice_depth : (X : Design) (parts : List Part) (depth : ℕ) → X ≡ choice_of parts → depth_of X ≤ depth → (1 ≤ depth) × (greatest (depths parts) ≤ depth - 1)
choice_depth X parts depth is le = let e = ap depth_of is ∙ depth_choice parts in (omega (arith, e, le), omega (arith, e, le))

pub net_depth : (X : Design) (named : Module) (constraints : List Constraint) (parts : List Part) (depth : ℕ) → X ≡ Net named.provides named.requires_ parts constraints → depth_of X ≤ depth → (1 ≤ depth) × (greatest (depths parts) ≤ depth - 1)
net_depth X named constraints parts depth is le = let e = ap depth_of is ∙ depth-Net _ _ parts _ in (omega (arith, e, le), omega (arith, e, le))

-- ---- from part to part

module _ (modules : Modules) (trail : List (List Resolved)) (links : List Link) where
  pub one_part : (ps : List Part) (depth i : ℕ) (l : Link) → PartsBeneath modules trail links ps → greatest (depths ps) ≤ depth → i < length links → l ≡ get_or links i l → (X : Design) × MakesBeneath modules trail l.reference X × (depth_of X ≤ depth)
  one_part ps depth i l p le inside is =
      let at = part_at modules trail links ps i l p inside is in let less = greatest_got ps i at.part at.there in (at.part.design, at.denotes, omega (arith, less, le))

  some_same : (x y : Part) → Some x ≡ Some y → x ≡ y
  some_same x y e = cc

  pub next_part : (made : List Part) (i : ℕ) (l : Link) (name : List ℕ) (design : Design) → i < length links → l ≡ get_or links i l → name ≡ l.name → ((X : Design) → MakesBeneath modules trail l.reference X → X ≡ design)
      → (ps : List Part) → PartsBeneath modules trail links ps → made ≡ take i ps → made ++ (record { name = name; design = design } ∷ []) ≡ take (i + 1) ps
  next_part made i l name design inside is named only ps p so_far =
      let at = part_at modules trail links ps i l p inside is in
      let long = pointwise_length (IsLinked (MakesIn modules p.steps p.given)) links ps p.holds in
      let within : i < length ps = omega (arith, inside, long) in
      let here : get_or ps i at.part ≡ at.part = some_same _ _ (sym (slice_get-get_or ps i at.part within) ∙ at.there) in
      let design_is = only at.part.design at.denotes in
      let part_is : at.part ≡ record { name = name; design = design } = λ j. record { name = (at.name ∙ sym named) j; design = design_is j } in
      ap (λ xs. xs ++ (record { name = name; design = design } ∷ [])) so_far ∙ sym (take_more ps i at.part within ∙ ap (λ x. take i ps ++ (x ∷ [])) (here ∙ part_is))

  pub all_parts : (made : List Part) (i : ℕ) (ps : List Part) → length links ≤ i → PartsBeneath modules trail links ps → made ≡ take i ps → ps ≡ made
  all_parts made i ps end p so_far =
      let long = pointwise_length (IsLinked (MakesIn modules p.steps p.given)) links ps p.holds in let past : length ps ≤ i = omega (arith, end, long) in sym (so_far ∙ take_all i ps past)

-- ---- from the outside

pub module_beneath : (modules : Modules) (named : Module) (X : Design) → ModuleMakes modules named X → BodyBeneath modules [] named X
unfolding StandFor
module_beneath modules named X h = record { given = []; stand_for = refl; steps = h.0; holds = h.1 }

pub reference_beneath : (modules : Modules) (r : Resolved) (X : Design) → Makes modules [] r X → MakesBeneath modules [] r X
unfolding StandFor
reference_beneath modules r X h = record { given = []; stand_for = refl; steps = h.0; holds = h.1 }
