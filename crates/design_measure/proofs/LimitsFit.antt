-- A design measures its size, and its depth, as far as the limits tell them apart.
use Rattle.std.specs.Prelude.{◌≡◌, ℕ, ◌+◌, ◌*◌, ◌<◌, ◌≤◌, min, max, List, [], ◌∷◌, length, map}
use Rattle.std.proofs.Common.{refl, sym, ap, ◌∙◌, subst, arith, inl, inr, ◌⊎◌, suc}
use Rattle.design_model.specs.declared.design.Design.{Design, roll-Design, map-Design}
use Rattle.design_model.specs.declared.design.Design.TheFolds.{ind-Design}
use Rattle.design_model.specs.declared.design.Design.TheOpen.{Design-F}
use Rattle.design_model.specs.declared.design.Design.TheVariants.{rolls-Cat, rolls-Choice, rolls-Net}
use Rattle.design_model.specs.declared.design.Part.{Part, roll-Part}
use Rattle.design_measure.specs.Scales.{measured, total}
use Rattle.design_measure.proofs.MeasuredLemmas.{measures, measured-Cat, measured-Choice, measured-Net}
use Rattle.design_measure.specs.Measures.{added, greatest, depth_of, size_of}
use Rattle.design_measure.specs.MeasuresLaws.{depths, sizes, depth-Cat, depth-Choice, depth-Net, size-Cat, size-Choice, size-Net}
use Rattle.design_measure.specs.LimitsLaws.{deepen_some}
use Rattle.design_measure.specs.Limits.{counts, sizes_to, deepen, depths_up_to, depths_to}

module _ (limit : ℕ) where
  abbrev Claim : Design → Type 0
  Claim d = measured (sizes_to limit) d ≡ min (size_of d) limit

  abbrev ClaimPart : Part → Type 0
  ClaimPart p = Claim p.design

  abbrev Claimed : Type 0
  Claimed = (p : Part) × ClaimPart p

  first_more : (a b c d : ℕ) → a ≡ min b limit → min c limit ≡ min d limit → min (min (a + c) limit) limit ≡ min (b + d) limit
  first_more a b c d e f = omega arith

  node : (c t s : ℕ) → min t limit ≡ min s limit → min (c + min (1 * t) limit) limit ≡ min (c + s) limit
  node c t s e = omega arith

  totals : (es : List Claimed) → min (total (counts limit) (measures (sizes_to limit) (map (λ e. e.0) es))) limit ≡ min (added (sizes (map (λ e. e.0) es))) limit
  totals [] = refl
  totals (e ∷ es) = first_more (measured (sizes_to limit) e.0.design) (size_of e.0.design) _ _ e.1 (totals es)

  at : (y : Design-F ((d : Design) × Claim d) Claimed) → Claim (roll-Design (map-Design ((d : Design) × Claim d) Claimed Design Part (λ e. e.0) (λ e. e.0) y))
  at (Design-F.Cat ps qs rows) = subst Claim (sym (rolls-Cat ps qs rows)) (measured-Cat (sizes_to limit) ps qs rows ∙ ap (λ x. min x limit) (sym (size-Cat ps qs rows)))
  at (Design-F.Choice ps qs es) =
      let parts = map (λ (e : Claimed). e.0) es in
      subst Claim (sym (rolls-Choice ps qs parts)) (measured-Choice (sizes_to limit) ps qs parts ∙ node 1 _ _ (totals es) ∙ ap (λ x. min x limit) (sym (size-Choice ps qs parts)))
  at (Design-F.Net ps qs es cs) =
      let parts = map (λ (e : Claimed). e.0) es in
      subst Claim (sym (rolls-Net ps qs parts cs)) (measured-Net (sizes_to limit) ps qs parts cs ∙ node (1 + length cs) _ _ (totals es) ∙ ap (λ x. min x limit) (sym (size-Net ps qs parts cs)))

  pub sizes_fit : (d : Design) → measured (sizes_to limit) d ≡ min (size_of d) limit
  sizes_fit = ind-Design Claim ClaimPart (λ x y is. subst (λ z. Claim (roll-Design z)) is (at y)) (λ x y is. subst (λ z. ClaimPart (roll-Part z)) is y.design.1)

-- One more than the depth.
module _ (limit : ℕ) (room : 2 ≤ limit) where
  abbrev DepthClaim : Design → Type 0
  DepthClaim d = measured (depths_to limit) d ≡ min (suc (depth_of d)) limit

  abbrev DepthClaimPart : Part → Type 0
  DepthClaimPart p = DepthClaim p.design

  abbrev DepthClaimed : Type 0
  DepthClaimed = (p : Part) × DepthClaimPart p

  -- The total of depths is 0 where there is none, and else one more than the greatest.
  abbrev Totals : ℕ → ℕ → Type 0
  Totals t g = (g ≡ 0) × (t ≡ 0) ⊎ (0 < t) × (t ≡ min (suc g) limit)

  deeper_first : (a b t g : ℕ) → a ≡ min (suc b) limit → Totals t g → Totals (min (max a t) limit) (max b g)
  deeper_first a b t g e (inl z) = let z0 = z.0 in let z1 = z.1 in inr (omega arith, omega arith)
  deeper_first a b t g e (inr z) = let z0 = z.0 in let z1 = z.1 in inr (omega arith, omega arith)

  depth_node : (t g : ℕ) → Totals t g → min (max 2 (deepen limit 2 t)) limit ≡ min (suc (1 + g)) limit
  depth_node t g (inl z) = let z0 = z.0 in let none : deepen limit 2 t ≡ 0 = ap (deepen limit 2) z.1 in omega arith
  depth_node t g (inr z) = let z0 = z.0 in let z1 = z.1 in let some = deepen_some limit 2 t (omega arith) z.0 in omega arith

  depth_totals : (es : List DepthClaimed) → Totals (total (depths_up_to limit) (measures (depths_to limit) (map (λ e. e.0) es))) (greatest (depths (map (λ e. e.0) es)))
  depth_totals [] = inl (refl, refl)
  depth_totals (e ∷ es) = deeper_first (measured (depths_to limit) e.0.design) (depth_of e.0.design) _ _ e.1 (depth_totals es)

  depth_at : (y : Design-F ((d : Design) × DepthClaim d) DepthClaimed) → DepthClaim (roll-Design (map-Design ((d : Design) × DepthClaim d) DepthClaimed Design Part (λ e. e.0) (λ e. e.0) y))
  depth_at (Design-F.Cat ps qs rows) = subst DepthClaim (sym (rolls-Cat ps qs rows)) (measured-Cat (depths_to limit) ps qs rows ∙ ap (λ x. min (suc x) limit) (sym (depth-Cat ps qs rows)))
  depth_at (Design-F.Choice ps qs es) =
      let parts = map (λ (e : DepthClaimed). e.0) es in
      subst DepthClaim (sym (rolls-Choice ps qs parts)) (measured-Choice (depths_to limit) ps qs parts ∙ depth_node _ _ (depth_totals es) ∙ ap (λ x. min (suc x) limit) (sym (depth-Choice ps qs parts)))
  depth_at (Design-F.Net ps qs es cs) =
      let parts = map (λ (e : DepthClaimed). e.0) es in
      subst DepthClaim (sym (rolls-Net ps qs parts cs)) (measured-Net (depths_to limit) ps qs parts cs ∙ depth_node _ _ (depth_totals es) ∙ ap (λ x. min (suc x) limit) (sym (depth-Net ps qs parts cs)))

  pub depths_fit : (d : Design) → measured (depths_to limit) d ≡ min (suc (depth_of d)) limit
  depths_fit = ind-Design DepthClaim DepthClaimPart (λ x y is. subst (λ z. DepthClaim (roll-Design z)) is (depth_at y)) (λ x y is. subst (λ z. DepthClaimPart (roll-Part z)) is y.design.1)
