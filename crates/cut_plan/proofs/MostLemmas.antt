-- The greatest of the rounds that are enough for the parts.
use Rattle.std.proofs.Common.{refl, ap, ◌∙◌, arith, add-one}
use Rattle.std.proofs.Math.Seq.{drop-cons}
use Rattle.std.proofs.lemmas.Simd.{map-map}
use Rattle.std.specs.Prelude.{◌≡◌, ℕ, suc, ◌+◌, ◌<◌, max, List, [], ◌∷◌, map, Option, Some, None, option_map, option_and_then, drop, length, get_or}
use Rattle.cut_plan.specs.MostLaws.{height_by}
use Rattle.cut_plan.specs.Totals.{clip, clipped, greatest_of}
use Rattle.design_model.specs.Heights.{Survey, greatest, enough_rounds}
use Rattle.design_model.specs.HeightsLaws.{of_part, survey-Choice, survey-Net}
use Rattle.design_model.specs.declared.design.Design.TheVariants.{Choice, Net}
use Rattle.design_model.specs.declared.design.Part.{Part}
use Rattle.design_model.specs.declared.expr.Constraint.{Constraint}
use Rattle.value_type.specs.declared.port.Port.{Port}
use Rattle.value_type.specs.declared.poset.Types.{Types}

-- one more to be at most
pub greatest_more : (a n least : ℕ) (xs : List (Option ℕ)) → clip a ≡ n → clipped (option_map (λ b. max a b) (greatest least xs)) ≡ clipped (greatest (max least n) xs)
greatest_more a n least [] h = ap Some (omega arith)
greatest_more a n least (None ∷ xs) h = refl
greatest_more a n least (Some c ∷ xs) h = at (greatest least xs) (greatest (max least n) xs) (greatest_more a n least xs h)
  where
    at : (x y : Option ℕ) → clipped (option_map (λ b. max a b) x) ≡ clipped y → clipped (option_map (λ b. max a b) (option_map (λ b. max c b) x)) ≡ clipped (option_map (λ b. max c b) y)
    at None None e = refl
    at None (Some y) e = absurd (cc)
    at (Some x) None e = absurd (cc)
    at (Some x) (Some y) e = let same : clip (max a x) ≡ clip y = cc in ap Some (omega (arith, same))

pub most_step : (t : Types) (most n : ℕ) (parts : List Part) (i : ℕ) (p : Part) → i < length parts → p ≡ get_or parts i p → Some n ≡ clipped (enough_rounds t p.design)
    → clipped (greatest_of t most (drop i parts)) ≡ clipped (greatest_of t (max most n) (drop (i + 1) parts))
most_step t most n parts i p h e f = rw (add-one, drop-cons parts i p h, ← e) (at (enough_rounds t p.design) f)
  where
    rest : List (Option ℕ)
    rest = map (λ p. enough_rounds t p.design) (drop (suc i) parts)

    at : (o : Option ℕ) → Some n ≡ clipped o → clipped (greatest most (o ∷ rest)) ≡ clipped (greatest (max most n) rest)
    at None k = absurd (cc)
    at (Some a) k = let same : clip a ≡ n = cc in greatest_more a n most rest same

pub choice_enough : (t : Types) (provides requires_ : List Port) (branches : List Part) → enough_rounds t (Choice provides requires_ branches) ≡ greatest_of t 1 branches
choice_enough t provides requires_ branches = ap (λ (s : Survey). s.enough) (survey-Choice t provides requires_ branches) ∙ ap (greatest 1) (map-map (λ (s : Survey). s.enough) (of_part t) branches)

net_enough : (t : Types) (provides requires_ : List Port) (parts : List Part) (constraints : List Constraint) → enough_rounds t (Net provides requires_ parts constraints)
    ≡ option_and_then (λ a. option_map (λ b. max a b) (greatest_of t 1 parts)) (option_map (λ h. h + 2) (height_by t provides requires_ parts constraints))
net_enough t provides requires_ parts constraints =
    ap (λ (s : Survey). s.enough) (survey-Net t provides requires_ parts constraints)
    ∙ ap (λ xs. greatest 1 (option_map (λ h. h + 2) (height_by t provides requires_ parts constraints) ∷ xs)) (map-map (λ (s : Survey). s.enough) (of_part t) parts)

pub net_none : (t : Types) (provides requires_ : List Port) (parts : List Part) (constraints : List Constraint) → None ≡ clipped (height_by t provides requires_ parts constraints)
    → None ≡ clipped (enough_rounds t (Net provides requires_ parts constraints))
net_none t provides requires_ parts constraints h = rw (net_enough t provides requires_ parts constraints) (at (height_by t provides requires_ parts constraints) h)
  where
    at : (o : Option ℕ) → None ≡ clipped o → None ≡ clipped (option_and_then (λ a. option_map (λ b. max a b) (greatest_of t 1 parts)) (option_map (λ h. h + 2) o))
    at None k = refl
    at (Some a) k = absurd (cc)

pub net_some : (t : Types) (provides requires_ : List Port) (parts : List Part) (constraints : List Constraint) (n : ℕ) → Some n ≡ clipped (height_by t provides requires_ parts constraints)
    → clipped (enough_rounds t (Net provides requires_ parts constraints)) ≡ clipped (greatest_of t (clip (n + 2)) parts)
net_some t provides requires_ parts constraints n h = rw (net_enough t provides requires_ parts constraints) (at (height_by t provides requires_ parts constraints) h)
  where
    at : (o : Option ℕ) → Some n ≡ clipped o
        → clipped (option_and_then (λ a. option_map (λ b. max a b) (greatest_of t 1 parts)) (option_map (λ h. h + 2) o)) ≡ clipped (greatest_of t (clip (n + 2)) parts)
    at None k = absurd (cc)
    at (Some a) k =
        let same : clip a ≡ n = cc in
        let most : max 1 (clip (n + 2)) ≡ clip (n + 2) = omega arith in
        greatest_more (a + 2) (clip (n + 2)) 1 (map (λ p. enough_rounds t p.design) parts) (omega (arith, same)) ∙ ap (λ m. clipped (greatest_of t m parts)) most
